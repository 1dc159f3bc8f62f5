-- What follows from a call's acceptance: every question says yes. Assumes nothing.
use mathlib.Core.Path.{◌≡◌, refl}
use mathlib.Core.Bool.{true}
use mathlib.Core.List.{List, [], ◌∷◌, ◌++◌}
use Prim.Native.Nat.{ℕ, ◌+◌, ◌*◌, ◌<◌}
use native.Mathlib.Omega.{arith}
use lib.Arith.{digits_lt}
use lib.Dec.{eqb}
use lib.IntN.{ℤ}
use lib.ListN.{length}
use lib.Signed.{mag}
use Rattle.list_laws.proofs.BoolLaws.{and_left}
use Rattle.ask.specs.Ask.{Question, asks, AllYes, Numbered}
use Rattle.ask.proofs.AskLaws.{all_yes}
use Rattle.triplet_study.specs.declared.Sizes.{Sizes}
use Rattle.triplet_study.specs.Study.{Study, sizes_of}
use Rattle.triplet_study.specs.Questions.{study_questions, are_lengths}
use Rattle.triplet_study.specs.Tested.{Counted, Ready}
use Rattle.triplet_study.proofs.StudyLaws.{study-numbered, ready, ready-counted}
use Rattle.marks.specs.Bytes.{bytes_for, Holds}
use Rattle.marks.specs.Marks.{are_marks}
use Rattle.sheet_step.proofs.CountLaws.{marks-held}
use Rattle.sheet_step.proofs.StepLaws.{both_yes, sheet-lengths, piece-on}
use Rattle.sheet_step.specs.Steps.{pieces_of, Sheet, Call, run, carry, average, are_sheet_lengths, is_piece, sheet_questions, own_questions, call_questions, verdict, piece_of}

-- ---- the questions of a call have their numbers

pub numbered-join : (qs rest : List Question) → Numbered qs → Numbered rest → Numbered (qs ++ rest)
numbered-join [] rest h k = k
numbered-join (asks n b ∷ qs) rest h k = (h.0, numbered-join qs rest h.1 k)

own-numbered : (g : Study) (s : Sheet) (c : Call) → Numbered (own_questions g s c)
own-numbered g s (run worker t b1 b2) = (omega arith, (omega arith, (omega arith, (omega arith, tt))))
own-numbered g s (carry worker) = (omega arith, (omega arith, tt))
own-numbered g s (average t ids1 ids2) = (omega arith, (omega arith, (omega arith, (omega arith, (omega arith, (omega arith, tt))))))

pub call-numbered : (g : Study) (s : Sheet) (c : Call) → Numbered (call_questions g s c)
call-numbered g s c =
    numbered-join (study_questions g) (sheet_questions (sizes_of g) (length s.weights) (length s.flags) s.marks ++ own_questions g s c) (study-numbered g)
    (omega arith, (omega arith, own-numbered g s c))

-- ---- an accepted call

pub record Accepted (g : Study) (s : Sheet) (c : Call) : Type 0 where
  pub ready : Ready g (sizes_of g) (length s.weights) (length s.flags)
  pub marked : Holds (pieces_of (sizes_of g)) s.marks
  pub fine : are_marks (sizes_of g).pairs (pieces_of (sizes_of g)) s.marks ≡ true
  pub own : AllYes (own_questions g s c)

-- the counts of its study
pub counts : {g : Study} {s : Sheet} {c : Call} → Accepted g s c → Counted (sizes_of g)
counts a = ready-counted a.ready

pub accepted : (g : Study) (s : Sheet) (c : Call) → verdict g s c ≡ 0 → Accepted g s c
unfolding verdict are_sheet_lengths
accepted g s c e =
    let z : Sizes = sizes_of g in
    let w : ℕ = length s.weights in
    let f : ℕ = length s.flags in
    let m : ℕ = length s.marks in
    let rest : List Question = sheet_questions z w f s.marks ++ own_questions g s c in
    let both : _ = both_yes (study_questions g) rest (study-numbered g) e in
    let yes : AllYes rest = all_yes rest (omega arith, (omega arith, own-numbered g s c)) both.1 in
    let told : Ready g z w f = ready g z w f both.0 refl (and_left (are_lengths z w f) (eqb m (bytes_for (pieces_of z))) yes.0) in
    record {
      ready = told;
      marked = marks-held z (ready-counted told) s.marks (sheet-lengths z w f m yes.0).1.1;
      fine = yes.1.0;
      own = yes.1.1;
    }

-- question 14's yes: the piece is one of them
pub piece-in : (z : Sizes) (t b1 b2 : ℤ) → z.pairs ≡ z.bands1 * z.bands2 → is_piece z t b1 b2 ≡ true
    → (mag t < z.triplets) × (mag b1 * z.bands2 + mag b2 < z.pairs)
piece-in z t b1 b2 e h = let n : _ = piece-on z t b1 b2 h in (n.0, rw e (digits_lt n.1.0 n.1.1))

-- a named piece that is run is one of the pieces
pub named : (g : Study) (s : Sheet) (worker t b1 b2 : ℤ) → Accepted g s (run worker t b1 b2) → piece_of (sizes_of g) t b1 b2 < pieces_of (sizes_of g)
named g s worker t b1 b2 a =
    let h : _ = piece-in (sizes_of g) t b1 b2 (counts a).pairs-are a.own.0 in
    digits_lt h.0 h.1

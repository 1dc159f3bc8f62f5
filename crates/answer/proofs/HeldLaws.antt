-- A study that a text holds: its numbers lie within the buffers, and its answer is the text's. Assumes nothing.
use mathlib.Core.Path.{◌≡◌, refl, ap, ◌∙◌}
use mathlib.Core.List.{List}
use Prim.Native.Nat.{ℕ, zero, suc, ◌≤◌}
use native.Mathlib.Nat.{zero-add}
use native.Mathlib.Omega.{arith}
use lib.ListN.{length, drop, length-append}
use Rattle.std.specs.Prelude.{Option, Some, None}
use Rattle.list_laws.proofs.FillLaws.{length-tabulate}
use Rattle.writing.specs.Written.{written}
use Rattle.listing.specs.Listings.{refusal_of}
use Rattle.study.specs.Studies.{StudyText, study_in}
use Rattle.study_print.proofs.StudyOnlyLaws.{printed-only}
use Rattle.study_print.proofs.LengthLaws.{Small, study-small}
use Rattle.listing_length.proofs.ListingLengthLaws.{refusal-short}
use Rattle.ask.specs.Ask.{first_no}
use Rattle.answer_weights.specs.Asked.{questions_of}
use Rattle.answer_weights.specs.Answers.{listing_for, answer_by, answer_to}
use Rattle.answer_weights.proofs.ReadyLaws.{listing-room}
use Rattle.answer.specs.Texts.{floats_of, asked_of, Answerable, answer_of_held, answer_of, answered}

pub length-floats : (patterns : List ℕ) → length (floats_of patterns) ≡ length patterns
unfolding floats_of
length-floats patterns = length-tabulate (length patterns) _

-- bytes written at the start are the answer, then the old bytes
pub answered-so : (r : ℕ) (l m old new : List ℕ) → r ≡ length l → new ≡ written 0 l old → l ≡ m → (r ≡ length m) × (new ≡ answered m old)
unfolding written
answered-so r l m old new p q e = (p ∙ ap length e, q ∙ rw (zero-add, e))

-- a text that holds no study
pub none-held : (text : List ℕ) → study_in text ≡ None → refusal_of 1 ≡ answer_of text
unfolding answer_of
none-held text e = rw e

-- a text that holds one: its sections have room, and its answer is the text's
module _ (text : List ℕ) (s : StudyText) (e : study_in text ≡ Some s) where
  pub answerable : Answerable s
  answerable =
      let printable : _ = (printed-only text s e).printable in
      let small : Small s = study-small s printable in
      (printable.diag-range, small.f1, small.f2, small.points, small.triplets)

  pub its-answer : answer_to (asked_of s) ≡ answer_of text
  unfolding answer_of
  its-answer = rw e

-- the answer lies within the buffer: for callers
pub answer-within : (r : ℕ) (text old new : List ℕ) → r ≡ length (answer_of text) → new ≡ answered (answer_of text) old → r ≤ length new
answer-within r text old new e g = omega (arith, e, ap length g, length-append (answer_of text) (drop (length (answer_of text)) old))

-- ---- how long an answer can be

module _ (s : StudyText) (w : Small s) where
  by_number : (n : ℕ) → first_no (questions_of (asked_of s)) ≡ n → length (answer_by n (listing_for (asked_of s))) ≤ 118617
  by_number zero e = listing-room (asked_of s) e (omega (arith, length-floats s.points, w.points)) w.triplets
  by_number (suc n) e = omega (arith, refusal-short (suc n))

  answer-short : length (answer_to (asked_of s)) ≤ 118617
  unfolding answer_to
  answer-short = by_number (first_no (questions_of (asked_of s))) refl

-- no answer is longer than 118,617 bytes; `longest-reached` of listing_length tells that one can be as long
pub answer-longest : (text : List ℕ) → length (answer_of text) ≤ 118617
unfolding answer_of
answer-longest text = go (study_in text) refl
  where
    go : (h : Option StudyText) → study_in text ≡ h → length (answer_of_held h) ≤ 118617
    go None e = omega (arith, refusal-short 1)
    go (Some s) e = answer-short s (study-small s (printed-only text s e).printable)

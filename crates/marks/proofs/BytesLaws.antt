-- The form by its laws: all that stands above cites these, and unfolds neither `mark_at` nor `patch_marks`. Assumes nothing.
use mathlib.Core.Path.{◌≡◌, refl, sym, ◌∙◌}
use mathlib.Core.Bool.{Bool, true, false, cond}
use mathlib.Core.List.{List}
use mathlib.Core.Logic.{⊎_elim}
use Prim.Native.Nat.{ℕ, ◌<◌, ◌≤◌}
use native.Mathlib.Omega.{arith}
use borrow.Author.Tests.{eqb-true, eqb-false}
use lib.Dec.{eqb}
use lib.ListN.{length, get_or, set, length-set, length-replicate, get_or-replicate, get_or-eq_default}
use lib.Seq.{get_or-set_same, get_or-set_other}
use Rattle.list_laws.proofs.BoolLaws.{lt-or-le}
use Rattle.list_laws.proofs.PatchLaws.{length-patch, get_or-patch, patch-is}
use Rattle.marks.specs.Bytes.{mark_at, patch_marks, places_in, bytes_for, zeros, IsMark, FewPieces, Holds}

-- ---- the bytes of so many pieces

pub holds : (pieces : ℕ) (marks : List ℕ) → FewPieces pieces → length marks ≡ bytes_for pieces → Holds pieces marks
holds pieces marks f e = (omega (arith, f, e), e)

pub held-few : (pieces : ℕ) (marks : List ℕ) → Holds pieces marks → FewPieces pieces
held-few pieces marks h = omega (arith, h.0, h.1)

pub all_in : (pieces : ℕ) (marks : List ℕ) → Holds pieces marks → pieces ≤ places_in marks
all_in pieces marks h = omega (arith, h.1)

pub place_in : (pieces : ℕ) (marks : List ℕ) (q : ℕ) → Holds pieces marks → q < pieces → q < places_in marks
place_in pieces marks q h l = omega (arith, l, h.1)

pub holds_same : (pieces : ℕ) (marks m : List ℕ) → length m ≡ length marks → Holds pieces marks → Holds pieces m
holds_same pieces marks m e h = (omega (arith, e, h.0), e ∙ h.1)

-- ---- what can stand as a mark

pub small-mark : (x : ℕ) → x < 3 → IsMark x
small-mark x h = tt

pub mark-lt : (marks : List ℕ) (q : ℕ) → IsMark (mark_at marks q)
mark-lt marks q = tt

-- ---- a write, and a mark after it

pub length-marks : (own : ℕ → Bool) (new : ℕ → ℕ) (marks : List ℕ) → length (patch_marks own new marks) ≡ length marks
unfolding patch_marks
length-marks own new marks = length-patch own new marks

pub mark-patch : (own : ℕ → Bool) (new : ℕ → ℕ) (marks : List ℕ) → ((q : ℕ) → own q ≡ true → IsMark (new q)) → (q : ℕ) → q < places_in marks
    → mark_at (patch_marks own new marks) q ≡ cond (own q) (new q) (mark_at marks q)
unfolding patch_marks mark_at
mark-patch own new marks h q l = get_or-patch own new marks q 1 l

pub mark-kept : (own : ℕ → Bool) (new : ℕ → ℕ) (marks : List ℕ) → ((q : ℕ) → own q ≡ true → IsMark (new q)) → (q : ℕ) → own q ≡ false
    → mark_at (patch_marks own new marks) q ≡ mark_at marks q
unfolding mark_at
mark-kept own new marks h q e =
    ⊎_elim (λ l. mark-patch own new marks h q l ∙ rw e)
    (λ l. get_or-eq_default (patch_marks own new marks) 1 {n = q} (omega (arith, length-marks own new marks)) ∙ sym (get_or-eq_default marks 1 {n = q} l))
    (lt-or-le q (length marks))

pub zero-mark : (bytes q : ℕ) → q < places_in (zeros bytes) → mark_at (zeros bytes) q ≡ 0
unfolding mark_at
zero-mark bytes q h = get_or-replicate {A = ℕ} bytes q 0 1 (rw (length-replicate {A = ℕ} bytes 0) at h)

-- a list is what a write makes of another where its marks say so
by-marks : (own : ℕ → Bool) (new : ℕ → ℕ) (marks m : List ℕ) → length m ≡ length marks
    → ((q : ℕ) → q < places_in marks → mark_at m q ≡ cond (own q) (new q) (mark_at marks q)) → m ≡ patch_marks own new marks
unfolding patch_marks mark_at
by-marks own new marks m e h = patch-is 1 own new marks m e h

module _ (o₁ : ℕ → Bool) (n₁ : ℕ → ℕ) (o₂ : ℕ → Bool) (n₂ : ℕ → ℕ) (marks : List ℕ) where
  -- two writes that leave the same marks
  pub marks-ext : ((q : ℕ) → q < places_in marks → cond (o₁ q) (n₁ q) (mark_at marks q) ≡ cond (o₂ q) (n₂ q) (mark_at marks q)) → patch_marks o₁ n₁ marks ≡ patch_marks o₂ n₂ marks
  marks-ext h = by-marks o₂ n₂ marks (patch_marks o₁ n₁ marks) (length-marks o₁ n₁ marks) (λ q l. mark-patch o₁ n₁ marks (λ q _. tt) q l ∙ h q l)

  -- two writes, one after the other
  pub marks-twice : (o₃ : ℕ → Bool) (n₃ : ℕ → ℕ) → ((q : ℕ) → o₁ q ≡ true → IsMark (n₁ q))
      → ((q : ℕ) → q < places_in marks → cond (o₂ q) (n₂ q) (cond (o₁ q) (n₁ q) (mark_at marks q)) ≡ cond (o₃ q) (n₃ q) (mark_at marks q))
      → patch_marks o₂ n₂ (patch_marks o₁ n₁ marks) ≡ patch_marks o₃ n₃ marks
  marks-twice o₃ n₃ small h =
      by-marks o₃ n₃ marks (patch_marks o₂ n₂ (patch_marks o₁ n₁ marks)) (length-marks o₂ n₂ (patch_marks o₁ n₁ marks) ∙ length-marks o₁ n₁ marks)
      (λ q l. mark-patch o₂ n₂ (patch_marks o₁ n₁ marks) (λ q _. tt) q (rw (length-marks o₁ n₁ marks) l) ∙ rw (mark-patch o₁ n₁ marks small q l) (h q l))

-- a write that changes nothing
pub marks-keep : (own : ℕ → Bool) (new : ℕ → ℕ) (marks : List ℕ) → ((q : ℕ) → q < places_in marks → cond (own q) (new q) (mark_at marks q) ≡ mark_at marks q)
    → patch_marks own new marks ≡ marks
marks-keep own new marks h = sym (by-marks own new marks marks refl (λ q l. sym (h q l)))

pub marks-none : (own : ℕ → Bool) (new : ℕ → ℕ) (marks : List ℕ) → ((q : ℕ) → q < places_in marks → own q ≡ false) → patch_marks own new marks ≡ marks
marks-none own new marks h = marks-keep own new marks (λ q l. rw (h q l))

-- a store in the code
pub mark_set : (marks : List ℕ) (p v : ℕ) → p < places_in marks → set marks p v ≡ patch_marks (λ q. eqb q p) (λ q. v) marks
unfolding mark_at
mark_set marks p v l = by-marks (λ q. eqb q p) (λ q. v) marks (set marks p v) (length-set marks p v) (λ q k. go q (eqb q p) refl)
  where
    go : (q : ℕ) (t : Bool) → eqb q p ≡ t → get_or (set marks p v) q 1 ≡ cond t v (get_or marks q 1)
    go q true e = let f : q ≡ p = eqb-true q p e in rw (f, get_or-set_same marks p v 1 l)
    go q false e = get_or-set_other marks p q v 1 (eqb-false q p e)

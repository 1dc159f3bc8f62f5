-- What a block's turn leaves as it was: the weight and the flag of a block of one entry, and the flags of a block without a flag 0. So the blocks of
-- more than one entry make the same of a matrix as all of them. Assumes nothing.
use mathlib.Core.Path.{◌≡◌, refl, sym, ap, ◌∙◌}
use mathlib.Core.Logic.{⊎_elim}
use mathlib.Core.Bool.{true, false}
use mathlib.Core.List.{List, [], ◌∷◌}
use Prim.Native.Nat.{ℕ, suc, ◌+◌, ◌-◌, ◌*◌, ◌/◌, ◌%◌, ◌≤◌, ◌<◌}
use native.Mathlib.Nat.{div-add-mod', mul-le-mul}
use native.Mathlib.Omega.{arith}
use lib.IntN.{ℤ, pos}
use lib.ListN.{length, get_or}
use lib.Ieee.{Float, nan}
use borrow.Author.Tests.{ltb-false}
use Rattle.list_laws.specs.Lists.{picked}
use Rattle.list_laws.specs.Matrix.{Block, block, entries, InBlock, has_entry}
use Rattle.list_laws.proofs.BoolLaws.{true-or-false, lt-or-le}
use Rattle.list_laws.proofs.MatrixLaws.{has_in}
use Rattle.list_laws.proofs.PatchLaws.{patch-same}
use Rattle.degenerate_sets.specs.Blocks.{is_larger, blocks_of}
use Rattle.degenerate_sets.specs.Turns.{on_block, in_turn}
use Rattle.averaging_flags.specs.Flags.{has_zero, flag_in, averaged_flags}
use Rattle.averaging_flags.proofs.FlagLaws.{flag-none, flags-in-turn}
use Rattle.averaging_blocks.specs.Weights.{averaged_in, averaged_from}
use Rattle.averaging_blocks.proofs.WeightLaws.{averaged-one, weights-in-turn}
use Rattle.averaging_blocks.proofs.SingleLaws.{flag-single}

-- each entry of the block becomes what it is
block-stays : {A : Type 0} (d : A) (n : ℕ) (rule : Block → List A → ℕ → ℕ → A) (m : List A) (b : Block)
    → ((r c : ℕ) → has_entry r c b ≡ true → rule b m r c ≡ get_or m (r * n + c) d) → on_block n rule m b ≡ m
block-stays d n rule m b h =
    patch-same d (λ k. has_entry (k / n) (k % n) b) (λ k. rule b m (k / n) (k % n)) m
    (λ k l t. h (k / n) (k % n) t ∙ ap (λ (j : ℕ). get_or m j d) (div-add-mod' k n))

-- a block of one entry is not averaged
pub one-entry-stays : (z : Float) (n : ℕ) (b : Block) (m : List Float) → entries b ≤ 1 → on_block n (averaged_in z n) m b ≡ m
one-entry-stays z n b m h = block-stays nan n (averaged_in z n) m b (λ r c t. averaged-one z n b m r c h)

-- a block without a flag 0 keeps its flags, whatever they are
pub no-zero-stays : (n : ℕ) (b : Block) (m : List ℤ) → has_zero n b m ≡ false → on_block n (flag_in n) m b ≡ m
no-zero-stays n b m h = block-stays (pos 0) n (flag_in n) m b (λ r c t. flag-none n b m r c h)

-- a block of one entry is that entry
single : (r c : ℕ) (b : Block) → InBlock b r c → entries b ≤ 1 → b ≡ block r (suc r) c (suc c)
single r c b i h =
    let high : ℕ = b.bottom - b.top in
    let wide : ℕ = b.right - b.left in
    let some-rows : 1 ≤ high = omega arith in
    let some-columns : 1 ≤ wide = omega arith in
    let one-row : high < 2 = ⊎_elim (λ l. l) (λ l. absurd (omega (arith, mul-le-mul l some-columns))) (lt-or-le high 2) in
    let one-column : wide < 2 = ⊎_elim (λ l. l) (λ l. absurd (omega (arith, mul-le-mul some-rows l))) (lt-or-le wide 2) in
    let top : b.top ≡ r = omega arith in
    let bottom : b.bottom ≡ suc r = omega arith in
    let left : b.left ≡ c = omega arith in
    let right : b.right ≡ suc c = omega arith in
    let e : block b.top b.bottom b.left b.right ≡ block r (suc r) c (suc c) = cc (top, bottom, left, right) in
    e

-- a block of one entry keeps its flag
pub one-flag-stays : (n : ℕ) (b : Block) (m : List ℤ) → entries b ≤ 1 → on_block n (flag_in n) m b ≡ m
one-flag-stays n b m h =
    block-stays (pos 0) n (flag_in n) m b
    (λ r c t. ap (λ (b' : Block). flag_in n b' m r c) (single r c b (has_in r c b t) h) ∙ flag-single n r c m)

-- ---- the blocks of more than one entry alone

larger-alone : {A : Type 0} (n : ℕ) (rule : Block → List A → ℕ → ℕ → A) → ((b : Block) (m : List A) → entries b ≤ 1 → on_block n rule m b ≡ m)
    → (blocks : List Block) (m : List A) → in_turn n rule (picked is_larger blocks) m ≡ in_turn n rule blocks m
unfolding picked
larger-alone n rule stays [] m = refl
larger-alone n rule stays (b ∷ blocks) m =
    ⊎_elim
    (λ t. rw t (larger-alone n rule stays blocks (on_block n rule m b)))
    (λ t. rw t (larger-alone n rule stays blocks m ∙ ap (in_turn n rule blocks) (sym (stays b m (ltb-false 1 (entries b) t)))))
    (true-or-false (is_larger b))

-- they, where question 17 says yes the Rust's list, make the same of weights, with sums begun at z
pub weights-by-larger : (z : Float) (n : ℕ) (ids1 ids2 : List ℤ) (m : List Float)
    → length m ≡ n * n → averaged_from z n ids1 ids2 m ≡ in_turn n (averaged_in z n) (picked is_larger (blocks_of n ids1 ids2)) m
weights-by-larger z n ids1 ids2 m len =
    weights-in-turn z n ids1 ids2 m len
    ∙ sym (larger-alone n (averaged_in z n) (λ b m h. one-entry-stays z n b m h) (blocks_of n ids1 ids2) m)

-- and of flags
pub flags-by-larger : (n : ℕ) (ids1 ids2 m : List ℤ)
    → length m ≡ n * n → averaged_flags n ids1 ids2 m ≡ in_turn n (flag_in n) (picked is_larger (blocks_of n ids1 ids2)) m
flags-by-larger n ids1 ids2 m len =
    flags-in-turn n ids1 ids2 m len
    ∙ sym (larger-alone n (flag_in n) (λ b m h. one-flag-stays n b m h) (blocks_of n ids1 ids2) m)

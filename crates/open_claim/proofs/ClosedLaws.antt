-- An entry whose channels are all closed does not count: of computed entries only those with flag 0 are open. Assumes nothing.
use mathlib.Core.Path.{◌≡◌, refl, sym, ap, ◌∙◌}
use mathlib.Core.Bool.{Bool, true, false, cond}
use Prim.Native.Nat.{ℕ, ◌+◌, ◌*◌, ◌≤◌, ◌<◌}
use native.Mathlib.Omega.{arith}
use lib.Arith.{digits_div, digits_mod}
use lib.Dec.{eqb}
use lib.Ieee.{Float, nan, of_bits, ne, eq, add, sub}
use lib.IntN.{ℤ, pos}
use Rattle.list_laws.proofs.BelowLaws.{none_below}
use Rattle.list_laws.proofs.BoolLaws.{clash}
use Rattle.list_laws.proofs.FillLaws.{tabulate-at}
use Rattle.list_laws.proofs.MapLaws.{count-mono}
use Rattle.list_laws.proofs.ProductLaws.{digit_lt}
use Rattle.list_laws.specs.Lists.{count_below}
use Rattle.list_laws.specs.Signed.{eq_z}
use Rattle.open_count.specs.OpenCount.{is_nonzero, is_open, open_from}
use Rattle.triplet_channels.specs.Channels.{outputs_at}
use Rattle.triplet_iw.specs.Whole.{all_weights}
use Rattle.std.proofs.Common.{Option, Some, None}
use Rattle.triplet_outputs.specs.Outputs.{flag_of, outputs_by}
use Rattle.triplet_piece.specs.Layout.{channel_of}
use Rattle.triplet_piece.specs.Weights.{weight_at, flag_at, outputs_at_cell, outputs_of, outputs_of_corners}
use Rattle.triplet_study.specs.Study.{Study, sizes_of}
use Rattle.triplet_types.specs.declared.TpType.{TpType}
use Rattle.triplet_types.specs.declared.TpType.TheVariants.{Type2, Type3, Type4}

-- a choice among three weights that are zero
one_of_three : (x y : Bool) (a b c : Float) → is_nonzero a ≡ false → is_nonzero b ≡ false → is_nonzero c ≡ false → is_nonzero (cond x a (cond y b c)) ≡ false
one_of_three true y a b c p q r = p
one_of_three false true a b c p q r = q
one_of_three false false a b c p q r = r

-- of three closed channels every output of every type is zero
closed-outputs : (tp : TpType) (k : ℕ) → is_nonzero (channel_of (outputs_by tp None None None) k) ≡ false
unfolding outputs_by channel_of is_nonzero ne eq of_bits add sub
closed-outputs Type2 k = one_of_three (eqb k 0) (eqb k 1) _ _ _ refl refl refl
closed-outputs Type3 k = one_of_three (eqb k 0) (eqb k 1) _ _ _ refl refl refl
closed-outputs Type4 k = one_of_three (eqb k 0) (eqb k 1) _ _ _ refl refl refl

flag_is : (tp : TpType) (a b c : Option Float) → (outputs_by tp a b c).flag ≡ flag_of a b c
unfolding outputs_by
flag_is Type2 a b c = refl
flag_is Type3 a b c = refl
flag_is Type4 a b c = refl

open-zero : {X : Type 0} → ◌≡◌ {A = ℤ} (pos 0) (pos 1) → X
open-zero e = let z : ◌≡◌ {A = ℕ} 0 1 = cc in absurd (let f : ⊥ = omega arith in f)

-- flag 1 says that they are closed
by_flag : (tp : TpType) (a b c : Option Float) → flag_of a b c ≡ pos 1 → (k : ℕ) → is_nonzero (channel_of (outputs_by tp a b c) k) ≡ false
unfolding flag_of
by_flag tp None None None e k = closed-outputs tp k
by_flag tp (Some x) b c e k = open-zero e
by_flag tp None (Some x) c e k = open-zero e
by_flag tp None None (Some x) e k = open-zero e

-- the outputs at a cell are those of three channels
pub cell-closed : (s : Study) (j : ℕ) → flag_at s j ≡ pos 1 → (k : ℕ) → is_nonzero (channel_of (outputs_at_cell s (sizes_of s) j) k) ≡ false
unfolding outputs_at_cell outputs_of outputs_of_corners outputs_at
cell-closed s j e k = by_flag _ _ _ _ (sym (flag_is _ _ _ _) ∙ e) k

-- of a computed sheet, an entry with flag 1 is not open
pub closed-not-open : (s : Study) (j : ℕ) → j < (sizes_of s).cells → flag_at s j ≡ pos 1
    → is_open (sizes_of s).channels (sizes_of s).cells (all_weights s) j ≡ false
unfolding is_open all_weights
closed-not-open s j h e =
    none_below (sizes_of s).channels _ (λ k l.
    let z = (sizes_of s).cells in
    ap is_nonzero (tabulate-at ((sizes_of s).channels * z) (weight_at s) nan (k * z + j) (digit_lt k (sizes_of s).channels j z l h)
    ∙ (λ i. channel_of (outputs_at_cell s (sizes_of s) (digits_mod k h i)) (digits_div k h i)))
    ∙ cell-closed s j e k)

-- a flag that is not 1 is 0
other-flag : (tp : TpType) (a b c : Option Float) → ((outputs_by tp a b c).flag ≡ pos 1 → ⊥) → (outputs_by tp a b c).flag ≡ pos 0
unfolding flag_of
other-flag tp None None None h = absurd (h (flag_is tp None None None))
other-flag tp (Some x) b c h = flag_is tp (Some x) b c
other-flag tp None (Some x) c h = flag_is tp None (Some x) c
other-flag tp None None (Some x) h = flag_is tp None None (Some x)

-- of a computed sheet, what is open has flag 0
pub open-flag : (s : Study) (j : ℕ) → j < (sizes_of s).cells → is_open (sizes_of s).channels (sizes_of s).cells (all_weights s) j ≡ true → flag_at s j ≡ pos 0
unfolding outputs_at_cell outputs_of outputs_of_corners outputs_at
open-flag s j h o = other-flag _ _ _ _ (λ e. clash (sym (closed-not-open s j h e) ∙ o))

-- Of a computed sheet, among any entries: those that are open are no more than the flags 0.
pub open-at-most : (s : Study) (start n : ℕ) → start + n ≤ (sizes_of s).cells
    → open_from (sizes_of s).channels (sizes_of s).cells (all_weights s) start n ≤ count_below n (λ k. eq_z (flag_at s (start + k)) (pos 0))
unfolding open_from
open-at-most s start n h =
    count-mono n _ _ (λ k l o. rw (open-flag s (start + k) (omega arith) o))

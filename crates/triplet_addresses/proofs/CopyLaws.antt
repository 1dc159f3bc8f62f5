-- Copies of a list: the plain one is the list itself, and two of them fill a lent list. Assumes nothing.
use mathlib.Core.Path.{◌≡◌, refl}
use mathlib.Core.Bool.{Bool, false}
use mathlib.Core.List.{List, ◌++◌, append-nil}
use Prim.Native.Nat.{◌-◌, ◌*◌, ◌≤◌}
use native.Mathlib.Omega.{arith}
use borrow.Rule.Slice.PartMut.{put_mid}
use lib.IntN.{ℤ}
use lib.ListN.{length, drop, length-drop, drop_of_length-le}
use lib.Seq.{take_at, drop_at}
use Rattle.triplet_corners.specs.Corners.{copy_of}
use Rattle.triplet_corners.proofs.CornerLaws.{copy-plain}
use Rattle.triplet_addresses.specs.Copies.{copies_of}

-- the two halves of a lent list, filled one after the other
pub copies-are : (table l : List ℤ) (negated : Bool) (first second : List ℤ) → length l ≡ 2 * length table → first ≡ copy_of false table
    → second ≡ copy_of negated table
    → put_mid (length table) (length l - length table) (first ++ drop (length table) l) second ≡ copies_of negated table
copies-are table l negated first second h e f =
    let rest : List ℤ = drop (length table) l in
    let short : length rest ≤ length l - length table = omega (arith, length-drop (length table) l) in
    rw (e, f, copy-plain table, take_at table rest (length table) refl, drop_at table rest (length table) refl, drop_of_length-le rest short, append-nil)

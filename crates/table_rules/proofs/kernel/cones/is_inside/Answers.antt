-- `table_rules::kernel::cones::is_inside` meets its contract.
use mathlib.Core.Path.{◌≡◌, ◌∙◌, refl, ap₂}
use mathlib.Core.Bool.{Bool, ◌&&◌}
use mathlib.Core.List.{List}
use Prim.Native.Nat.{zero, suc}
use lib.IntN.{ℤ}
use Rattle.list_laws.specs.Signed.{within}
use Rattle.list_laws.proofs.WithinLaws.{handed}
use Rattle.tetrahedron_tables.specs.Tables.{det}
use Rattle.table_rules.specs.Rows.{spanned, AllWithin}
use Rattle.table_rules.specs.Corners.{corners_of}
use Rattle.table_rules.specs.Faces.{corner}
use Rattle.table_rules.specs.Cones.{direction, is_one_sign, is_inside}
use Rattle.table_rules.proofs.kernel.cones.is_inside.Goals as goal

-- the components of the direction
direction-small : AllWithin 10000 direction
unfolding within
direction-small zero = refl
direction-small (suc zero) = refl
direction-small (suc (suc zero)) = refl
direction-small (suc (suc (suc k))) = refl

pub invariant_of-direction : goal.invariant_of-direction
invariant_of-direction c = record { long = refl; small = direction-small }

-- the three tests are those of the definition
inside-is : (row : List (List ℤ)) (p q r : Bool) → p ≡ is_one_sign (spanned (corner row 1) (corner row 2) (corner row 3)) (spanned direction (corner row 2) (corner row 3))
    → q ≡ is_one_sign (spanned (corner row 1) (corner row 2) (corner row 3)) (spanned (corner row 1) direction (corner row 3))
    → r ≡ is_one_sign (spanned (corner row 1) (corner row 2) (corner row 3)) (spanned (corner row 1) (corner row 2) direction) → (p && (q && r)) ≡ is_inside row
unfolding is_inside det
inside-is row p q r e f g = rw (e, f, g) refl

pub returns : goal.returns
returns c =
    inside-is (corners_of c.args.row) _ _ _
    (c.is_one_sign.ensures ∙ ap₂ is_one_sign (handed _ c.spanned-det.type_inv c.spanned-det.ensures) (handed _ c.spanned.type_inv c.spanned.ensures))
    (c.is_one_sign-2.ensures ∙ ap₂ is_one_sign (handed _ c.spanned-det.type_inv c.spanned-det.ensures) (handed _ c.spanned-2.type_inv c.spanned-2.ensures))
    (c.is_one_sign-3.ensures ∙ ap₂ is_one_sign (handed _ c.spanned-det.type_inv c.spanned-det.ensures) (handed _ c.spanned-3.type_inv c.spanned-3.ensures))

-- A component of a place by the two tests.
use lib.IntN.{pos}
use mathlib.Core.Bool.{Bool, true, false, cond}
use mathlib.Core.Path.{◌≡◌, ◌∙◌, refl}
use mir.Val.{bool_byte}
use Rattle.list_laws.proofs.SignedLaws.{back}
use Rattle.generated_tables.proofs.NumberLaws.{place_is}
use Rattle.generated_tables.proofs.kernel.place.Goals as goal

byte : (b : Bool) → pos (bool_byte b) ≡ cond b (pos 1) (pos 0)
byte true = refl
byte false = refl

pub returns : goal.returns
returns c =
    rw (back c.from.result c.from.type_inv)
    (c.from.ensures ∙ byte _
    ∙ place_is c.args.tetrahedron c.args.n c.args.k c.requires.0 c.requires.1.0 c.requires.1.1 c.edge_along.result c.main_diagonal.result _ c.edge_along.ensures c.main_diagonal.ensures c.falls-1.given refl)

-- `table_rules::kernel::faces::side` meets its contract.
use mathlib.Core.Path.{◌∙◌, sym, ap}
use Rattle.std.proofs.Common.{Some}
use Rattle.list_laws.proofs.WithinLaws.{handed}
use Rattle.table_rules.specs.Corners.{corners_of}
use Rattle.table_rules.proofs.SideLaws.{side-third, side-first, side-second, side-none}
use Rattle.table_rules.proofs.kernel.faces.side.Goals as goal

pub returns-then-is_face : goal.returns-then-is_face
returns-then-is_face c =
    ap Some (handed _ c.spanned.type_inv c.spanned.ensures)
    ∙ sym (side-third (corners_of c.args.row) c.args.a.numbers c.args.b.numbers (sym c.is_face.ensures ∙ c.if-is_face.true))

pub returns-then-is_face-2 : goal.returns-then-is_face-2
returns-then-is_face-2 c =
    ap Some (handed _ c.spanned-then-is_face-2.type_inv c.spanned-then-is_face-2.ensures)
    ∙ sym (side-first (corners_of c.args.row) c.args.a.numbers c.args.b.numbers (sym c.is_face.ensures ∙ c.if-is_face.false) (sym c.is_face-2.ensures ∙ c.if-is_face-2.true))

pub returns-then-is_face-3 : goal.returns-then-is_face-3
returns-then-is_face-3 c =
    ap Some (handed _ c.spanned-then-is_face-3.type_inv c.spanned-then-is_face-3.ensures)
    ∙ sym (side-second (corners_of c.args.row) c.args.a.numbers c.args.b.numbers (sym c.is_face.ensures ∙ c.if-is_face.false) (sym c.is_face-2.ensures ∙ c.if-is_face-2.false) (sym c.is_face-3.ensures ∙ c.if-is_face-3.true))

pub returns : goal.returns
returns c =
    sym (side-none (corners_of c.args.row) c.args.a.numbers c.args.b.numbers (sym c.is_face.ensures ∙ c.if-is_face.false) (sym c.is_face-2.ensures ∙ c.if-is_face-2.false) (sym c.is_face-3.ensures ∙ c.if-is_face-3.false))

-- `question_values::kernel::averages::id_ok` meets its contract.
use mathlib.Core.Path.{sym, ap, ◌∙◌}
use Prim.Native.Nat.{◌-◌}
use mir.Syntax.{w64}
use mir.Val.{SFits}
use mir.ValLaws.{to_z-of_z}
use Rattle.std.proofs.Common.{rules}
use Rattle.list_laws.specs.Lists.{at}
use Rattle.list_laws.proofs.SignedLaws.{eqb-signed}
use Rattle.question_values.specs.Averages.{is_degenerate_id}
use Rattle.question_values.proofs.AverageLaws.{id-later}
use Rattle.question_values.proofs.kernel.averages.id_ok.Goals as goal

pub returns-then-k-eq0 : goal.returns-then-k-eq0
unfolding is_degenerate_id
returns-then-k-eq0 c =
    let f : SFits w64 (at c.args.ids.now 0) = search rules in
    rw (to_z-of_z w64 _ f) at c.is_nat.ensures ∙ ap (is_degenerate_id c.args.ids.now) (sym c.if-k-eq0.true)

pub returns : goal.returns
returns c =
    let f : SFits w64 (at c.args.ids.now c.args.k) = search rules in
    let before : SFits w64 (at c.args.ids.now (c.args.k - 1)) = search rules in
    cc (
      c.is_nat-2.ensures,
      to_z-of_z w64 (at c.args.ids.now c.args.k) f,
      eqb-signed w64 (at c.args.ids.now c.args.k) (at c.args.ids.now (c.args.k - 1)) f.sfits before.sfits,
      id-later c.args.ids.now c.args.k c.if-k-eq0.false,
    )

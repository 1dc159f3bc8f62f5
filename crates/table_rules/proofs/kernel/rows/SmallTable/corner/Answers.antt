-- `table_rules::kernel::rows::SmallTable::corner` meets its contract.
use mathlib.Core.Path.{refl}
use Prim.Native.Nat.{◌+◌, ◌*◌}
use Rattle.table_rules.proofs.RowLaws.{read-small, three-small}
use Rattle.table_rules.proofs.kernel.rows.SmallTable.corner.Goals as goal

pub invariant_of-result : goal.invariant_of-result
invariant_of-result c =
    let table = c.args.self.numbers.now in
    let small = c.args.self.small in
    record {
      long = refl;
      small =
          three-small _ _ _ (read-small table small (c.args.j * 3)) (read-small table small (c.args.j * 3 + 1)) (read-small table small (c.args.j * 3 + 2));
    }

-- `question_grids::kernel::grid::sparse_map_ok` meets its contract.
use Prim.Native.Nat.{◌*◌}
use borrow.Author.Tests.{le-leb}
use lib.IntN.{pos}
use lib.ListN.{take, length}
use mathlib.Core.Path.{◌∙◌, sym}
use native.Mathlib.Omega.{arith}
use Rattle.list_laws.proofs.ChainLaws.{all-front, all-list}
use Rattle.question_grids.specs.Grids.{is_place, is_sparse_map}
use Rattle.question_grids.proofs.kernel.grid.sparse_map_ok.Goals as goal

pub returns-then-n-gp_map : goal.returns-then-n-gp_map
unfolding is_sparse_map
returns-then-n-gp_map c =
    rw (le-leb (8 * c.args.n) (length c.args.gp_map.now) (omega (arith, c.if-n-gp_map.true)))
    (c.all_places.ensures
    ∙ sym (all-list (is_place c.args.p (8 * c.args.n)) (pos 0) (take (8 * c.args.n) c.args.gp_map.now))
    ∙ all-front (is_place c.args.p (8 * c.args.n)) (pos 0) (8 * c.args.n) c.args.gp_map.now (omega (arith, c.if-n-gp_map.true)))

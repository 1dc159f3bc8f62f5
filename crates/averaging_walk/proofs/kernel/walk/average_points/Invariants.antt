-- `averaging_walk::kernel::walk::average_points` meets its contract: at each turn the matrices of the first k points are done.
use Prim.Native.Nat.{◌*◌}
use Rattle.list_laws.proofs.MatrixLaws.{Made}
use Rattle.degenerate_sets.specs.Averages.{averaged_by}
use Rattle.averaging_walk.proofs.kernel.walk.average_points.Given as goal

abbrev pub invariant-loop-k : goal.invariant-loop-k
invariant-loop-k g l =
    Made (l.bands * l.bands) (averaged_by g.E.Averaged.rule l.bands l.ids1 l.ids2) l.k l.initial.m l.m

-- `grid_point_weights::band::vertex_frequencies` meets its contract.
use lib.Ieee.{binary64, of_bits}
use mathlib.Core.Path.{refl}
use native.Mathlib.Omega.{arith}
use Rattle.grid_point_weights.specs.Weights.{corner_frequency}
use Rattle.list_laws.proofs.FillLaws.{area-next, area-none}
use Rattle.grid_point_weights.proofs.band.vertex_frequencies.Goals as goal

pub loop-j-init : goal.loop-j-init
loop-j-init c =
    (omega arith, area-none 384 (corner_frequency c.args.corners.now c.args.study.now.lent.frequencies.now c.args.study.now.bands c.args.band) (of_bits binary64 0))

pub loop-j-preserved : goal.loop-j-preserved
loop-j-preserved c =
    (omega arith, rw c.loop-j.invariant.1 (area-next 384 (corner_frequency c.args.corners.now c.args.study.now.lent.frequencies.now c.args.study.now.bands c.args.band) (of_bits binary64 0) c.loop-j.j _ (omega arith) refl))

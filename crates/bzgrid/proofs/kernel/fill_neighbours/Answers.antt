-- `bzgrid::kernel::fill_neighbours` meets its contract.
use Prim.Native.Nat.{◌<◌}
use lib.IntN.{pos}
use lib.ListN.{length-set}
use mathlib.Core.Path.{◌∙◌, ap, refl}
use mir.Syntax.{w64}
use mir.ValLaws.{to_z_pos}
use native.Mathlib.Omega.{arith}
use Rattle.bzgrid_lookup.proofs.NeighbourLaws.{addresses-small, neighbour-lt}
use Rattle.bzgrid_lookup.specs.Neighbours.{neighbour_of, wanted_address}
use Rattle.bzgrid.specs.Lists.{neighbours_of}
use Rattle.list_laws.proofs.FillLaws.{fill_end, fill-next, fill_none}
use Rattle.question_grids.specs.Grids.{triples_in}
use Rattle.bzgrid.proofs.kernel.fill_neighbours.Goals as goal

pub loop-j-init : goal.loop-j-init
loop-j-init c =
    (refl, fill_none (λ j. pos (neighbour_of c.args.grid.grid c.args.grid.addresses.now c.args.grid.gp_map.now (wanted_address c.args.grid.addresses.now c.args.steps.numbers.now c.args.g j))) c.args.out.now)

pub overflow_cast-out : goal.overflow_cast-out
overflow_cast-out c =
    let l : c.neighbour-v.result < 9223372036854775808 = omega (arith, c.neighbour-v.ensures, neighbour-lt c.args.grid.grid c.args.grid.addresses.now c.args.grid.gp_map.now c.args.grid.sound (wanted_address c.args.grid.addresses.now c.args.steps.numbers.now c.args.g c.loop-j.j), addresses-small c.args.grid.grid c.args.grid.addresses.now c.args.grid.gp_map.now c.args.grid.sound) in
    record { sfits = l }

pub loop-j-preserved : goal.loop-j-preserved
loop-j-preserved c =
    let l : c.neighbour-v.result < 9223372036854775808 = omega (arith, c.neighbour-v.ensures, neighbour-lt c.args.grid.grid c.args.grid.addresses.now c.args.grid.gp_map.now c.args.grid.sound (wanted_address c.args.grid.addresses.now c.args.steps.numbers.now c.args.g c.loop-j.j), addresses-small c.args.grid.grid c.args.grid.addresses.now c.args.grid.gp_map.now c.args.grid.sound) in
    (simp length-set c.loop-j.invariant.0, fill-next _ c.loop-j.out c.loop-j.j _ (omega arith) c.loop-j.invariant.1 (to_z_pos w64 c.neighbour-v.result l ∙ ap pos c.neighbour-v.ensures))

pub returns : goal.returns
unfolding neighbours_of
returns c =
    fill_end (λ j. pos (neighbour_of c.args.grid.grid c.args.grid.addresses.now c.args.grid.gp_map.now (wanted_address c.args.grid.addresses.now c.args.steps.numbers.now c.args.g j))) c.loop-j.out c.loop-j.j (triples_in c.args.steps.numbers.now) c.loop-j.invariant.1 (omega arith) (omega (arith, c.requires.1))

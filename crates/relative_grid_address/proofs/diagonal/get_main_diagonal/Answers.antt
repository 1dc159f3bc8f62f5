-- The loop keeps the least of the lengths passed and its number, the first on a tie.
use mathlib.Core.Path.{◌≡◌, sym, ◌∙◌, ap}
use Prim.Native.Nat.{◌-◌}
use native.Mathlib.Omega.{arith}
use Rattle.relative_grid_address.specs.Diagonal.{length_of, least_up_to, main_diagonal_of}
use Rattle.relative_grid_address.proofs.DiagonalLaws.{least-none, least-take, least-keep}
use Rattle.relative_grid_address.proofs.diagonal.get_main_diagonal.Goals.{then-min_length-length, else-min_length-length}
use Rattle.relative_grid_address.proofs.diagonal.get_main_diagonal.Goals as goal

pub loop-i-init : goal.loop-i-init
loop-i-init c = (omega arith, omega arith, least-none (length_of c.args.rec_lattice), c.length_of-min_length.ensures)

pub loop-i-preserved : goal.loop-i-preserved
loop-i-preserved c =
    elim c.if-min_length-length.branch [
      | then-min_length-length w ↦ (
        omega arith,
        omega arith,
        w.shortest-is ∙ least-take (length_of c.args.rec_lattice) c.loop-i.i c.loop-i.shortest c.loop-i.invariant.0 c.loop-i.invariant.2 (rw (c.length_of-length.ensures, c.loop-i.invariant.3) at w.if-min_length-length.true),
        w.min_length-is ∙ c.length_of-length.ensures ∙ ap (length_of c.args.rec_lattice) (sym w.shortest-is),
      )
      | else-min_length-length w ↦ (
        omega arith,
        omega arith,
        w.shortest-is ∙ least-keep (length_of c.args.rec_lattice) c.loop-i.i c.loop-i.shortest c.loop-i.invariant.0 c.loop-i.invariant.2 (rw (c.length_of-length.ensures, c.loop-i.invariant.3) at w.if-min_length-length.false),
        w.min_length-is ∙ c.loop-i.invariant.3 ∙ ap (length_of c.args.rec_lattice) (sym w.shortest-is),
      )
    ]

pub returns : goal.returns
unfolding main_diagonal_of
returns c =
    let e : c.loop-i.i - 1 ≡ 3 = omega arith in
    c.loop-i.invariant.2 ∙ ap (least_up_to (length_of c.args.rec_lattice)) e

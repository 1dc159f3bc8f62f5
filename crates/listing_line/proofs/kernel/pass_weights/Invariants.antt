-- `listing_line::kernel::pass_weights` meets its contract.
use Rattle.list_laws.specs.Lists.{rows}
use Rattle.std.specs.Prelude.{Some}
use Rattle.reading.specs.Passes.{Passes}
use Rattle.listing_line.proofs.LineLaws.{weight_there}
use Rattle.listing_line.proofs.kernel.pass_weights.Given as goal

abbrev pub invariant-loop-c : goal.invariant-loop-c
invariant-loop-c l = Passes (rows l.c (weight_there l.channels l.initial.reader.text.now l.initial.reader.at)) l.initial.reader l.reader (Some (tt {0}))

-- `Sets::next` meets its contract: after a set fewer places are left.
use native.Mathlib.Omega.{arith}
use Rattle.degenerate_sets.specs.Sets.{starts_at}
use Rattle.degenerate_sets.proofs.SetLaws.{next-bounds}
use Rattle.degenerate_sets.proofs.kernel.sets.SetsIterator.next.Goals as goal

pub returns-then-start-self-clause-goes : goal.returns-then-start-self-clause-goes
returns-then-start-self-clause-goes c =
    record {
      on = λ finite. (c.requires, tt, omega (arith, next-bounds (starts_at _) c.if-start-self.true c.set_end-end.ensures));
      keeps = c.requires;
      rests = λ finite. tt;
    }

-- `writing::kernel::Writer::put_byte` meets its contract.
use mathlib.Core.Path.{refl}
use native.Mathlib.Omega.{arith}
use Rattle.writing.proofs.WrittenLaws.{written_one}
use Rattle.writing.proofs.kernel.Writer.put_byte.Goals as goal

pub returns : goal.returns
returns c = record { same-buffer = refl; ends = refl; content = written_one c.args.self.now.len c.args.b c.args.self.now.buffer.now (omega arith) }

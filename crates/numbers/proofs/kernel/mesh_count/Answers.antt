-- `numbers::kernel::mesh_count` meets its contract.
use mathlib.Core.Path.{refl}
use Rattle.numbers.specs.Mesh.{count_of}
use Rattle.numbers.proofs.kernel.mesh_count.Goals as goal

pub returns : goal.returns
unfolding count_of
returns c =
    refl

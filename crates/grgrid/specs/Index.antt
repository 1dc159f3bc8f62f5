-- The grid index of an address.
use Rattle.std.specs.Prelude.{List, [], ◌∷◌, ℕ, ◌+◌, ◌*◌, ℤ, pos}
use Rattle.std.specs.declared.result.Result.{Result}
use Rattle.list_laws.specs.Lists.{at}
use Rattle.list_laws.specs.Signed.{rem_euclid}
use Rattle.numbers.specs.declared.Address.{Address}
use Rattle.numbers.specs.declared.Mesh.{Mesh}
use Rattle.numbers.specs.Mesh.{mesh_of}
use Rattle.ask.specs.Ask.{asks, first_no}
use Rattle.ask.specs.Refusals.{answer_of}
use Rattle.ask.specs.declared.refusal.Refusal.{Refusal}
use Rattle.question_grids.specs.Grids.{is_mesh}

-- the address of three components
unfoldable pub address_of : List ℤ → Address
address_of a = record { x = at a 0; y = at a 1; z = at a 2 }

-- "The grid index takes remainders that are never negative: r2·D0·D1 + r1·D0 + r0."
unfoldable pub grid_index : Address → Mesh → ℕ
grid_index a m = rem_euclid a.z m.d2 * (m.d0 * m.d1) + rem_euclid a.y m.d1 * m.d0 + rem_euclid a.x m.d0

-- The answer: refused with 4 where a mesh number is not from 1 to 256, otherwise the index.
abbrev pub index_answer : List ℤ → List ℤ → Result ℤ Refusal
index_answer address diag = answer_of (first_no (asks 4 (is_mesh 256 diag) ∷ [])) (pos (grid_index (address_of address) (mesh_of diag)))

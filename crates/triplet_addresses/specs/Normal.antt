-- Normal processes: triplets whose addresses add to zero.
use Rattle.std.specs.Prelude.{Bool, ◌&&◌, List, [], ◌∷◌, ℕ, ◌+◌, ◌*◌, ℤ, ◌+ℤ◌}
use Rattle.std.specs.Int.Signed.{mag}
use Rattle.list_laws.specs.Lists.{at}
use Rattle.list_laws.specs.Signed.{is_below, is_nat}
use Rattle.ask.specs.Ask.{Question, asks}
use Rattle.question_grids.specs.Grids.{are_triples, triples_in}

-- Question 10: "Is .. all three of each triplet, 0 to P-1?", of one triplet
unfoldable pub is_on_grid : ℕ → List ℤ → Bool
is_on_grid p triplet = (is_below (at triplet 0) p && is_below (at triplet 1) p) && is_below (at triplet 2) p

-- component i of the addresses of three points, added
unfoldable pub component_sum : List ℤ → ℕ → ℕ → ℕ → ℕ → ℤ
component_sum addresses a b c i = (at addresses (3 * a + i) +ℤ at addresses (3 * b + i)) +ℤ at addresses (3 * c + i)

-- component i of a triplet's addresses adds to zero
abbrev pub adds_to_zero : List ℤ → List ℤ → ℕ → Bool
adds_to_zero triplet addresses i = is_nat (component_sum addresses (mag (at triplet 0)) (mag (at triplet 1)) (mag (at triplet 2)) i) 0

-- "`is_n` holds when the three addresses add to zero in each component."
unfoldable pub is_normal : List ℤ → List ℤ → Bool
is_normal triplet addresses = (adds_to_zero triplet addresses 0 && adds_to_zero triplet addresses 1) && adds_to_zero triplet addresses 2

-- The questions of `is_n`: 5 without the count, 10.
abbrev pub is_n_questions : List ℤ → List ℤ → List Question
is_n_questions triplet addresses = asks 5 (are_triples addresses) ∷ asks 10 (is_on_grid (triples_in addresses) triplet) ∷ []

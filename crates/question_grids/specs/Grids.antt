-- Questions 3 to 6: the grid kind, the mesh, the addresses and the map. N is the product of the mesh numbers, P the count of addresses.
use Rattle.std.specs.Prelude.{Bool, ◌&&◌, ◌||◌, cond, List, [], ◌∷◌, ◌++◌, ℕ, ◌+◌, ◌*◌, ◌/◌, ◌%◌, leb, ltb, eqb, ℤ, length}
use Rattle.std.specs.Int.Signed.{lt_z}
use Rattle.list_laws.specs.Lists.{all_below, at}
use Rattle.list_laws.specs.Signed.{is_nat, is_below, is_between, within}
use Rattle.numbers.specs.Mesh.{count_of, mesh_of}
use Rattle.ask.specs.Ask.{Question, asks}
use Rattle.question_grids.specs.declared.Grid.{Grid}

-- Question 3: "Is the grid kind 1 or 2?"
unfoldable pub is_grid_kind : ℤ → Bool
is_grid_kind kind = is_nat kind 1 || is_nat kind 2

-- Question 4: "Is each mesh number 1 to 128 (the grid index alone: 1 to 256, ..)?" The number is top.
unfoldable pub is_mesh : ℕ → List ℤ → Bool
is_mesh top diag = (is_between 1 top (at diag 0) && is_between 1 top (at diag 1)) && is_between 1 top (at diag 2)

-- "whole triples .., components within ±4,096"
unfoldable pub are_triples : List ℤ → Bool
are_triples xs = eqb (length xs % 3) 0 && all_below (length xs) (λ k. within 4096 (at xs k))

-- how many triples a flat list holds; of the addresses, P
abbrev pub triples_in : List ℤ → ℕ
triples_in xs = length xs / 3

-- Question 5: "Are addresses whole triples, P from N to 8N .., components within ±4,096?"
unfoldable pub are_addresses : ℕ → List ℤ → Bool
are_addresses n addresses = (are_triples addresses && leb n (triples_in addresses)) && leb (triples_in addresses) (8 * n)

-- a value "0 to P-1 or 8N", 8N being the second number
unfoldable pub is_place : ℕ → ℕ → ℤ → Bool
is_place p missing v = is_below v p || is_nat v missing

-- Question 6: "Kind 1: at least 8N long, its first 8N values 0 to P-1 or 8N."
unfoldable pub is_sparse_map : ℕ → ℕ → List ℤ → Bool
is_sparse_map n p gp-map = leb (8 * n) (length gp-map) && all_below (8 * n) (λ k. is_place p (8 * n) (at gp-map k))

-- Question 6: "Kind 2: at least N+1 long; value 0 is 0, value N is P, rising strictly between."
unfoldable pub is_dense_map : ℕ → ℕ → List ℤ → Bool
is_dense_map n p gp-map =
    ltb n (length gp-map) && ((is_nat (at gp-map 0) 0 && is_nat (at gp-map n) p) && all_below n (λ k. lt_z (at gp-map k) (at gp-map (k + 1))))

-- Question 6: "Is the map sound?"
unfoldable pub is_map : ℤ → ℕ → ℕ → List ℤ → Bool
is_map kind n p gp-map = cond (is_nat kind 1) (is_sparse_map n p gp-map) (is_dense_map n p gp-map)

-- 3 and 4: the grid's kind and its mesh
abbrev pub mesh_questions : ℤ → List ℤ → List Question
mesh_questions kind diag = asks 3 (is_grid_kind kind) ∷ asks 4 (is_mesh 128 diag) ∷ []

-- 5 and 6: its addresses and its map
abbrev pub place_questions : ℤ → List ℤ → List ℤ → List ℤ → List Question
place_questions kind diag addresses gp-map =
    asks 5 (are_addresses (count_of (mesh_of diag)) addresses) ∷ asks 6 (is_map kind (count_of (mesh_of diag)) (triples_in addresses) gp-map) ∷ []

-- The questions that every call on a grid asks first.
abbrev pub grid_questions : ℤ → List ℤ → List ℤ → List ℤ → List Question
grid_questions kind diag addresses gp-map = mesh_questions kind diag ++ place_questions kind diag addresses gp-map

-- The same of a lent grid.
abbrev pub questions_on : Grid → List Question
questions_on grid = grid_questions grid.bz_grid_type grid.d_diag grid.addresses.now grid.gp_map.now

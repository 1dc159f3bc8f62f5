-- The unit cell's six tetrahedra around a main diagonal: the ways from one end of the diagonal to the other along the cell's edges.
use Rattle.std.specs.Prelude.{Bool, ◌&&◌, not, cond, List, [], ◌∷◌, ℕ, zero, suc, eqb, ℤ, pos, ◌+ℤ◌, get_or}
use Rattle.std.specs.Int.Signed.{non_neg}
use Rattle.list_laws.specs.Lists.{all_below, tabulate, at}
use Rattle.list_laws.specs.Signed.{is_below}

-- a step b from the place a
unfoldable pub plus : List ℤ → List ℤ → List ℤ
unfolding tabulate
plus a b = tabulate 3 (λ k. at a k +ℤ at b k)

-- "from one end": the vertex of the cell at which the diagonal d begins, 0 along an axis where d rises and 1 where it falls
unfoldable pub begin_of : List ℤ → List ℤ
unfolding tabulate
begin_of d = tabulate 3 (λ k. cond (non_neg (at d k)) (pos 0) (pos 1))

-- "to the other"
unfoldable pub end_of : List ℤ → List ℤ
unfolding plus begin_of
end_of d = plus (begin_of d) d

-- the edge of the cell along an axis, in the direction of the diagonal d
unfoldable pub edge : List ℤ → ℕ → List ℤ
unfolding tabulate
edge d axis = tabulate 3 (λ k. cond (eqb k axis) (at d k) (pos 0))

-- "the six ways .. along three different edges": of each way the axes of its edges, in order
unfoldable pub ways : List (List ℕ)
ways =
    (0 ∷ 1 ∷ 2 ∷ [])
    ∷ (0 ∷ 2 ∷ 1 ∷ [])
    ∷ (1 ∷ 2 ∷ 0 ∷ [])
    ∷ (1 ∷ 0 ∷ 2 ∷ [])
    ∷ (2 ∷ 0 ∷ 1 ∷ [])
    ∷ (2 ∷ 1 ∷ 0 ∷ [])
    ∷ []

-- the place that a way along d has reached after n edges
unfoldable pub place : List ℤ → List ℕ → ℕ → List ℤ
unfolding plus begin_of edge
place d way zero = begin_of d
place d way (suc n) = plus (place d way n) (edge d (get_or way n 0))

-- "each gives a tetrahedron of the four places passed"
unfoldable pub tetrahedron : List ℤ → List ℕ → List (List ℤ)
unfolding tabulate place
tetrahedron d way = tabulate 4 (place d way)

-- three axes, none of them twice
abbrev pub are_different : ℕ → ℕ → ℕ → Bool
are_different a b c = not (eqb a b) && (not (eqb b c) && not (eqb c a))

-- way w goes along the axes a, b and c, in this order
abbrev pub goes_along : ℕ → ℕ → ℕ → ℕ → Bool
goes_along w a b c = eqb (axis 0) a && (eqb (axis 1) b && eqb (axis 2) c)
  where
    axis : ℕ → ℕ
    axis n = get_or (get_or ways w []) n 3

-- one of the cell's eight vertices: each component 0 or 1
unfoldable pub is_vertex : List ℤ → Bool
unfolding all_below is_below
is_vertex a = all_below 3 (λ k. is_below (at a k) 2)

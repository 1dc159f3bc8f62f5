-- What makes the formulas the linear tetrahedron method: claims on the paper's text in a field, in one range and at one vertex.
use Rattle.std.specs.Prelude.{◌≡◌, ◌≢◌, cond, eqb, ℕ, zero, suc, ◌<◌}
use Rattle.ring_laws.specs.Ring.{Field, Ordered, Below, AtMost}
use Rattle.tetrahedron_paper.specs.Operations.{exact, dual}
use Rattle.tetrahedron_paper.specs.Paper as P
use Rattle.tetrahedron_paper.specs.Volume.{below}

-- the vertices differ
abbrev pub Differ : (F : Field) → (ℕ → (exact F).C) → Type 0
Differ F v = (n m : ℕ) → m < n → n < 4 → v n ≢ v m

-- a field, omega and the vertices
module _ (F : Field) (w : (exact F).C) (v : ℕ → (exact F).C) where
  -- the derivative, where omega moves, of what is computed of omega and the vertices
  abbrev pub by_omega : ((dual (exact F)).C → (ℕ → (dual (exact F)).C) → (dual (exact F)).C) → (exact F).C
  by_omega h = (h (w, (exact F).one) (λ j. (v j, (exact F).none))).1

  -- the derivative where vertex k moves
  abbrev pub by_vertex : ℕ → ((dual (exact F)).C → (ℕ → (dual (exact F)).C) → (dual (exact F)).C) → (exact F).C
  by_vertex k h = (h (w, (exact F).none) (λ j. (v j, cond (eqb j k) (exact F).one (exact F).none))).1

  -- in the range b
  pub record Method (b : ℕ) : Type 0 where
    -- the number n is the volume of the tetrahedron's part below omega
    pub volume : P.n_of (exact F) w v b ≡ below (exact F) w v b
    -- the density g is its rate as omega rises
    pub density : by_omega (λ x y. P.n_of (dual (exact F)) x y b) ≡ P.g_of (exact F) w v b
    -- the density I g of each vertex is the rate at which n falls as the vertex rises
    pub shares : (k : ℕ) → k < 4 → by_vertex k (λ x y. P.n_of (dual (exact F)) x y b) ≡ (exact F).minus (exact F).none (P.density_share (exact F) w v b k)
    -- and the rate of the vertex's states J n as omega rises
    pub states : (k : ℕ) → by_omega (λ x y. P.states_share (dual (exact F)) x y b k) ≡ P.density_share (exact F) w v b k
    -- the states J n of the vertices sum to n
    pub parts : P.total (exact F) (P.states_share (exact F) w v b) ≡ P.n_of (exact F) w v b
    -- the shares I sum to 1, where omega cuts the tetrahedron
    pub whole : 0 < b → b < 4 → P.total (exact F) (P.i_of (exact F) w v b) ≡ (exact F).one
    -- and the mean of the vertices by the shares I is omega
    pub mean : 0 < b → b < 4 → P.total (exact F) (λ k. (exact F).times (P.i_of (exact F) w v b k) (v k)) ≡ w

-- at the vertex b, between the ranges b and b + 1: n, g, and each vertex's J n and I g are continuous
pub record Joined (F : Field) (v : ℕ → (exact F).C) (b : ℕ) : Type 0 where
  pub number : P.n_of (exact F) (v b) v b ≡ P.n_of (exact F) (v b) v (suc b)
  pub density : P.g_of (exact F) (v b) v b ≡ P.g_of (exact F) (v b) v (suc b)
  pub states : (k : ℕ) → P.states_share (exact F) (v b) v b k ≡ P.states_share (exact F) (v b) v (suc b) k
  pub shares : (k : ℕ) → P.density_share (exact F) (v b) v b k ≡ P.density_share (exact F) (v b) v (suc b) k

-- the vertices ascend
abbrev pub Ascending : (O : Ordered) → (ℕ → (exact O.field).C) → Type 0
Ascending O v = (n m : ℕ) → m < n → n < 4 → Below O (v m) (v n)

-- omega lies in the range b: at least at the vertex before it, and below the vertex after it
abbrev pub Between : (O : Ordered) → (exact O.field).C → (ℕ → (exact O.field).C) → ℕ → Type 0
Between O w v zero = Below O w (v 0)
Between O w v (suc zero) = AtMost O (v 0) w × Below O w (v 1)
Between O w v (suc (suc zero)) = AtMost O (v 1) w × Below O w (v 2)
Between O w v (suc (suc (suc zero))) = AtMost O (v 2) w × Below O w (v 3)
Between O w v (suc (suc (suc (suc b)))) = AtMost O (v 3) w

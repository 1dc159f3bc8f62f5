-- In every field the paper's text is the linear tetrahedron method.
use mathlib.Core.Path.{◌≡◌, refl, ◌∙◌}
use mathlib.Core.Logic.{◌≢◌}
use Prim.Native.Nat.{ℕ, zero, suc, ◌<◌}
use mathlib.Core.List.{[], ◌∷◌}
use native.Mathlib.Omega.{arith}
use Rattle.ring_laws.specs.Expression.{var, nought, unit, plus, minus, times}
use Rattle.ring_laws.specs.Polynomial.{given}
use Rattle.ring_laws.proofs.PolynomialLaws.{ring, modulo}
use Rattle.ring_laws.specs.Ring.{Field}
use Rattle.tetrahedron_paper.specs.Operations.{exact, dual}
use Rattle.tetrahedron_paper.specs.Paper as P
use Rattle.tetrahedron_paper.specs.Method.{Differ, Method, Joined}
use Rattle.tetrahedron_paper.proofs.Symbolic as S
use Rattle.tetrahedron_paper.proofs.Shares as H
use Rattle.tetrahedron_paper.proofs.Derivative as D
use Rattle.tetrahedron_paper.proofs.Slopes as L
use Rattle.tetrahedron_paper.proofs.Volumes as W
use Rattle.tetrahedron_paper.proofs.Ends as E
use Rattle.tetrahedron_paper.proofs.Joins as N

none_below : (b : ℕ) → b < 0 → ⊥
none_below b l = omega arith

past : (b : ℕ) → suc (suc (suc (suc (suc b)))) < 5 → ⊥
past b l = omega arith

past-last : (b : ℕ) → suc (suc (suc (suc b))) < 4 → ⊥
past-last b l = omega arith

module _ (F : Field) (w : (exact F).C) (v : ℕ → (exact F).C) where
  -- between the first vertex and the second nothing is divided by n or g
  pub method-1 : (exact F).three ≢ (exact F).none → (exact F).four ≢ (exact F).none → Differ F v → Method F w v 1
  method-1 h3 h4 a = record {
    volume = W.volume-1 F w v a;
    density = D.number-1 F w v a;
    shares = λ k m. L.slope-1 F w v k m a h3;
    states = λ k. D.vertex-1 F w v k a h3 h4;
    parts = H.states-shares-1 F w v a h4;
    whole = λ p l. H.density-shares-1 F w v a h3;
    mean = λ p l. H.mean-1 F w v a h3;
  }

  pub method-2 : (exact F).three ≢ (exact F).none → (exact F).four ≢ (exact F).none → Differ F v → P.n_of (exact F) w v 2 ≢ (exact F).none → P.g_of (exact F) w v 2 ≢ (exact F).none → Method F w v 2
  method-2 h3 h4 a hn hg = record {
    volume = W.volume-2 F w v a;
    density = D.number-2 F w v a;
    shares = λ k m. L.slope-2 F w v k m a h3 hg;
    states = λ k. D.vertex-2 F w v k a h3 h4 hg hn;
    parts = H.states-shares-2 F w v a h4 hn;
    whole = λ p l. H.density-shares-2 F w v a h3 hg;
    mean = λ p l. H.mean-2 F w v a h3 hg;
  }

  pub method-3 : (exact F).three ≢ (exact F).none → (exact F).four ≢ (exact F).none → Differ F v → P.n_of (exact F) w v 3 ≢ (exact F).none → Method F w v 3
  method-3 h3 h4 a hn = record {
    volume = W.volume-3 F w v a;
    density = D.number-3 F w v a;
    shares = λ k m. L.slope-3 F w v k m a h3;
    states = λ k. D.vertex-3 F w v k a h3 h4 hn;
    parts = H.states-shares-3 F w v a h4 hn;
    whole = λ p l. H.density-shares-3 F w v a h3;
    mean = λ p l. H.mean-3 F w v a h3;
  }

  -- below the first vertex: nothing, and no rate
  pub method-0 : Method F w v 0
  unfolding P.n_of P.g_of P.j_of P.i_of
  method-0 = record {
    volume = refl;
    density = refl;
    shares = λ k m. ring F.ring nought (minus nought (times nought nought)) [] tt;
    states = λ k. ring F.ring (plus (times nought nought) (times nought nought)) (times nought nought) [] tt;
    parts = ring F.ring (let z = times nought nought in plus (plus (plus z z) z) z) nought [] tt;
    whole = λ p l. absurd (none_below 0 p);
    mean = λ p l. absurd (none_below 0 p);
  }

  -- from the last vertex on: everything, and no rate
  pub method-4 : (exact F).four ≢ (exact F).none → Differ F v → Method F w v 4
  unfolding P.n_of P.g_of P.j_of P.i_of
  method-4 h4 a = record {
    volume = W.volume-4 F w v a;
    density = refl;
    shares = λ k m. ring F.ring nought (minus nought (times nought nought)) [] tt;
    states = λ k. ring F.ring (plus (times (var 0) nought) (times nought unit)) (times nought nought) ((exact F).quarter ∷ []) tt;
    parts =
        modulo F.ring (let z = times (var 0) unit in plus (plus (plus z z) z) z) unit (given unit (times S.four (var 0)) unit ∷ [])
        ((exact F).quarter ∷ []) tt (F.mul-inv (exact F).four h4, tt);
    whole = λ p l. absurd (past-last 0 l);
    mean = λ p l. absurd (past-last 0 l);
  }

-- in each of the five ranges; n and g are asked for only where the text divides by them
pub method : (F : Field) (w : (exact F).C) (v : ℕ → (exact F).C) (b : ℕ) → b < 5
    → (exact F).three ≢ (exact F).none → (exact F).four ≢ (exact F).none → Differ F v
    → (1 < b → b < 4 → P.n_of (exact F) w v b ≢ (exact F).none) → (1 < b → b < 3 → P.g_of (exact F) w v b ≢ (exact F).none) → Method F w v b
method F w v zero l h3 h4 a hn hg = method-0 F w v
method F w v (suc zero) l h3 h4 a hn hg = method-1 F w v h3 h4 a
method F w v (suc (suc zero)) l h3 h4 a hn hg = method-2 F w v h3 h4 a (hn (omega arith) (omega arith)) (hg (omega arith) (omega arith))
method F w v (suc (suc (suc zero))) l h3 h4 a hn hg = method-3 F w v h3 h4 a (hn (omega arith) (omega arith))
method F w v (suc (suc (suc (suc zero)))) l h3 h4 a hn hg = method-4 F w v h4 a
method F w v (suc (suc (suc (suc (suc b))))) l h3 h4 a hn hg = absurd (past b l)

-- and at each of the four vertices
pub joined : (F : Field) (v : ℕ → (exact F).C) (b : ℕ) → b < 4 → Differ F v
    → (0 < b → P.n_of (exact F) (v b) v b ≢ (exact F).none) → (0 < b → b < 3 → P.g_of (exact F) (v b) v b ≢ (exact F).none) → Joined F v b
joined F v zero l a h hg = record { number = E.number-at-0 F v a; density = E.density-at-0 F v a; states = λ k. E.states-at-0 F v k a; shares = λ k. N.shares-at-0 F v k a }
joined F v (suc zero) l a h hg = record {
  number = E.number-at-1 F v a;
  density = E.density-at-1 F v a;
  states = λ k. E.states-at-1 F v k a (λ e. h (omega arith) (E.number-at-1 F v a ∙ e));
  shares = λ k. N.shares-at-1 F v k a (λ e. hg (omega arith) (omega arith) (E.density-at-1 F v a ∙ e));
}
joined F v (suc (suc zero)) l a h hg = record {
  number = E.number-at-2 F v a;
  density = E.density-at-2 F v a;
  states = λ k. E.states-at-2 F v k a (h (omega arith)) (λ e. h (omega arith) (E.number-at-2 F v a ∙ e));
  shares = λ k. N.shares-at-2 F v k a (hg (omega arith) (omega arith));
}
joined F v (suc (suc (suc zero))) l a h hg = record {
  number = E.number-at-3 F v a;
  density = E.density-at-3 F v a;
  states = λ k. E.states-at-3 F v k a (h (omega arith));
  shares = λ k. N.shares-at-3 F v k a;
}
joined F v (suc (suc (suc (suc b)))) l a h hg = absurd (past-last b l)

-- n is 0 below the first vertex and 1 from the last on
pub ends : (F : Field) (w : (exact F).C) (v : ℕ → (exact F).C) → (P.n_of (exact F) w v 0 ≡ (exact F).none) × (P.n_of (exact F) w v 4 ≡ (exact F).one)
unfolding P.n_of
ends F w v = (refl, refl)

-- at dual numbers the first part of n is n, and that of a vertex's states is its states, whatever moves
module _ (F : Field) (w dw : (exact F).C) (v dv : ℕ → (exact F).C) where
  pub number-value : (b : ℕ) → (P.n_of (dual (exact F)) (w, dw) (λ j. (v j, dv j)) b).0 ≡ P.n_of (exact F) w v b
  unfolding P.n_of P.fraction
  number-value zero = refl
  number-value (suc zero) = refl
  number-value (suc (suc zero)) = refl
  number-value (suc (suc (suc zero))) = refl
  number-value (suc (suc (suc (suc b)))) = refl

  pub states-value : (b k : ℕ) → (P.states_share (dual (exact F)) (w, dw) (λ j. (v j, dv j)) b k).0 ≡ P.states_share (exact F) w v b k
  unfolding P.n_of P.j_of P.fraction
  states-value zero k = refl
  states-value (suc zero) zero = refl
  states-value (suc zero) (suc zero) = refl
  states-value (suc zero) (suc (suc zero)) = refl
  states-value (suc zero) (suc (suc (suc k))) = refl
  states-value (suc (suc zero)) zero = refl
  states-value (suc (suc zero)) (suc zero) = refl
  states-value (suc (suc zero)) (suc (suc zero)) = refl
  states-value (suc (suc zero)) (suc (suc (suc k))) = refl
  states-value (suc (suc (suc zero))) zero = refl
  states-value (suc (suc (suc zero))) (suc zero) = refl
  states-value (suc (suc (suc zero))) (suc (suc zero)) = refl
  states-value (suc (suc (suc zero))) (suc (suc (suc k))) = refl
  states-value (suc (suc (suc (suc b)))) k = refl

-- What the laws ask for can be met: in the rational numbers, with the vertices 0, 1, 2, 4 and omega in each of the five ranges, at a vertex too.
use mathlib.Core.Path.{◌≡◌, refl}
use mathlib.Core.Quot.{sound}
use Prim.Native.Nat.{ℕ, zero, suc, ◌<◌}
use native.Mathlib.Omega.{arith}
use Rattle.ring_laws.specs.Rational.{Rational}
use Rattle.ring_laws.proofs.RationalLaws.{rationals, rational_ordered, rational_field, cast, add, neg, mul, inv, positive}
use Rattle.tetrahedron_paper.specs.Operations.{exact}
use Rattle.tetrahedron_paper.specs.Paper as P
use Rattle.tetrahedron_paper.specs.Method.{Method, Joined, Ascending}
use Rattle.tetrahedron_paper.proofs.Inside as I
use Rattle.tetrahedron_paper.proofs.Ranges as R

abbrev pub vertex : ℕ → Rational
vertex zero = cast 0
vertex (suc zero) = cast 1
vertex (suc (suc zero)) = cast 2
vertex (suc (suc (suc k))) = cast 4

no-pair : (n m : ℕ) → n < suc m → m < n → ⊥
no-pair n m l l' = omega arith

pub ascending : Ascending rational_ordered vertex
unfolding add neg positive
ascending zero m l l' = absurd (no-pair 0 m (omega arith) l)
ascending (suc zero) zero l l' = tt
ascending (suc zero) (suc m) l l' = absurd (no-pair 1 (suc m) (omega arith) l)
ascending (suc (suc zero)) zero l l' = tt
ascending (suc (suc zero)) (suc zero) l l' = tt
ascending (suc (suc zero)) (suc (suc m)) l l' = absurd (no-pair 2 (suc (suc m)) (omega arith) l)
ascending (suc (suc (suc n))) zero l l' = tt
ascending (suc (suc (suc n))) (suc zero) l l' = tt
ascending (suc (suc (suc n))) (suc (suc zero)) l l' = tt
ascending (suc (suc (suc n))) (suc (suc (suc m))) l l' = absurd (no-pair (suc (suc (suc n))) (suc (suc (suc m))) (omega arith) l)

-- a half, and one and a half
abbrev pub half : Rational
half = mul (cast 1) (inv (cast 2))

abbrev pub one_half : Rational
one_half = mul (cast 3) (inv (cast 2))

-- the ranges of 1/2, 3/2, 3, of the vertex 2, of -1 and of 4
pub ranges : (P.branch_of rationals.less half vertex ≡ 1)
    × (P.branch_of rationals.less one_half vertex ≡ 2)
    × (P.branch_of rationals.less (cast 3) vertex ≡ 3)
    × (P.branch_of rationals.less (cast 2) vertex ≡ 3)
    × (P.branch_of rationals.less (neg (cast 1)) vertex ≡ 0)
    × (P.branch_of rationals.less (cast 4) vertex ≡ 4)
unfolding P.branch_of add neg mul inv positive
ranges = (refl, refl, refl, refl, refl, refl)

pub method : (w : Rational) → Method rational_field w vertex (P.branch_of rationals.less w vertex)
method w = R.everywhere rationals w vertex ascending

pub joins : (b : ℕ) → b < 4 → Joined rational_field vertex b
joins b l = I.joined rational_ordered vertex b l ascending

-- n is 1/64 at 1/2
pub number-at-half : P.n_of (exact rational_field) half vertex 1 ≡ mul (cast 1) (inv (cast 64))
unfolding P.n_of P.fraction add neg mul inv
number-at-half = sound refl

-- The two steps of a determinant of three places within 10,000 fit the machine. Assumes nothing.
use mathlib.Core.Path.{◌≡◌}
use mathlib.Core.Bool.{true}
use native.Mathlib.Omega.{arith}
use lib.IntN.{ℤ, ◌+ℤ◌, ◌-ℤ◌, ◌*ℤ◌}
use mir.Syntax.{w64}
use mir.Val.{SFits}
use Rattle.list_laws.specs.Signed.{within}
use Rattle.list_laws.proofs.WithinLaws.{product-small, difference-small, sum-small, small-fits}

-- a * d - b * c of numbers within 10,000
module _ (a b c d : ℤ) (ha : within 10000 a ≡ true) (hb : within 10000 b ≡ true) (hc : within 10000 c ≡ true) (hd : within 10000 d ≡ true) where
  first : within 100000000 (a *ℤ d) ≡ true
  first = product-small 10000 10000 a d ha hd

  second : within 100000000 (b *ℤ c) ≡ true
  second = product-small 10000 10000 b c hb hc

  pub minor-first : SFits w64 (a *ℤ d)
  minor-first = small-fits 100000000 (a *ℤ d) (omega arith) first

  pub minor-second : SFits w64 (b *ℤ c)
  minor-second = small-fits 100000000 (b *ℤ c) (omega arith) second

  pub minor-small : within 200000000 (a *ℤ d -ℤ b *ℤ c) ≡ true
  minor-small = difference-small 100000000 100000000 (a *ℤ d) (b *ℤ c) first second

  pub minor-fits : SFits w64 (a *ℤ d -ℤ b *ℤ c)
  minor-fits = small-fits 200000000 (a *ℤ d -ℤ b *ℤ c) (omega arith) minor-small

-- p * x - q * y + r * z of numbers within 10,000 and such differences
module _ (p q r x y z : ℤ) (hp : within 10000 p ≡ true) (hq : within 10000 q ≡ true) (hr : within 10000 r ≡ true) (hx : within 200000000 x ≡ true) (hy : within 200000000 y ≡ true) (hz : within 200000000 z ≡ true) where
  p-x : within 2000000000000 (p *ℤ x) ≡ true
  p-x = product-small 10000 200000000 p x hp hx

  q-y : within 2000000000000 (q *ℤ y) ≡ true
  q-y = product-small 10000 200000000 q y hq hy

  r-z : within 2000000000000 (r *ℤ z) ≡ true
  r-z = product-small 10000 200000000 r z hr hz

  difference : within 4000000000000 (p *ℤ x -ℤ q *ℤ y) ≡ true
  difference = difference-small 2000000000000 2000000000000 (p *ℤ x) (q *ℤ y) p-x q-y

  pub expanded-first : SFits w64 (p *ℤ x)
  expanded-first = small-fits 2000000000000 (p *ℤ x) (omega arith) p-x

  pub expanded-second : SFits w64 (q *ℤ y)
  expanded-second = small-fits 2000000000000 (q *ℤ y) (omega arith) q-y

  pub expanded-third : SFits w64 (r *ℤ z)
  expanded-third = small-fits 2000000000000 (r *ℤ z) (omega arith) r-z

  pub expanded-difference : SFits w64 (p *ℤ x -ℤ q *ℤ y)
  expanded-difference = small-fits 4000000000000 (p *ℤ x -ℤ q *ℤ y) (omega arith) difference

  pub expanded-fits : SFits w64 (p *ℤ x -ℤ q *ℤ y +ℤ r *ℤ z)
  expanded-fits =
      small-fits 6000000000000 (p *ℤ x -ℤ q *ℤ y +ℤ r *ℤ z) (omega arith)
      (sum-small 4000000000000 2000000000000 (p *ℤ x -ℤ q *ℤ y) (r *ℤ z) difference r-z)

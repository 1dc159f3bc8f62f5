-- The quotients f(n, m) that every formula is made of, and the guard of a denominator: the paper's text, at f64.
use Rattle.std.specs.Prelude.{ℕ, List, get_or, Float}
use Rattle.std.specs.Float.{nan}
use Rattle.tetrahedron_paper.specs.Paper as P
use Rattle.tetrahedron_fractions.specs.Binary.{binary}
unfoldable pub use Rattle.tetrahedron_fractions.specs.Small.{is_small}

-- where omega lies on the way from the value m to the value n: 0 at m, 1 at n; and 0 where their difference is under 1e-10 in magnitude
abbrev pub fraction : Float → Float → Float → Float
fraction w n m = P.fraction binary w n m

-- f(n, m): where omega lies on the way from vertex m to vertex n of the sorted four
abbrev pub f : ℕ → ℕ → Float → List Float → Float
f n m w v = fraction w (get_or v n nan) (get_or v m nan)

-- a value whose denominator is d, and 0 where d is under 1e-10
abbrev pub guarded : Float → Float → Float
guarded d value = binary.guard d value

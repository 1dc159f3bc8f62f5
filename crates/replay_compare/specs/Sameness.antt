-- Lists of numbers that agree.
use Rattle.std.specs.Prelude.{Bool, ◌&&◌, List, eqb, ℤ, Float, length}
use Rattle.std.specs.List.{list_all, zip}
use Rattle.std.specs.Float.{binary64}
use Rattle.std.specs.Float.Ieee.{to_bits}
use Rattle.list_laws.specs.Lists.{all_below, at}
use Rattle.list_laws.specs.Signed.{eq_z}

-- each number of xs is z
unfoldable pub all_are : List ℤ → ℤ → Bool
all_are xs z = all_below (length xs) (λ k. eq_z (at xs k) z)

-- two floats have the same bits
abbrev pub same_bits : Float → Float → Bool
same_bits x y = eqb (to_bits binary64 x) (to_bits binary64 y)

-- the entries of two lists agree, as far as both go
abbrev pub entries_agree : {A : Type 0} → (A → A → Bool) → List A → List A → Bool
entries_agree agrees xs ys = list_all (λ p. agrees p.0 p.1) (zip xs ys)

-- two lists are as long as each other, and agree at each place
abbrev pub agree : {A : Type 0} → (A → A → Bool) → List A → List A → Bool
agree agrees xs ys = eqb (length xs) (length ys) && entries_agree agrees xs ys

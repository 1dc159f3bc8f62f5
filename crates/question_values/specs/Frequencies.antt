-- Question 11: the ranges of frequencies, of frequency points and of vertices.
use Rattle.std.specs.Prelude.{Bool, ◌&&◌, ◌||◌, List, Float, get_or, length}
use Rattle.std.specs.Float.{nan, binary64}
use Rattle.std.specs.Float.Ieee.{of_bits, eq, le}
use Rattle.ieee_laws.specs.Magnitude.{absolute}
use Rattle.list_laws.specs.Lists.{all_below}

-- zero, or of a magnitude from low to high, ends included; a NaN is neither
unfoldable pub in_range : Float → Float → Float → Bool
in_range low high x = eq x (of_bits binary64 0) || (le low (absolute x) && le (absolute x) high)

-- each of a list is
unfoldable pub are_in_range : Float → Float → List Float → Bool
are_in_range low high xs = all_below (length xs) (λ k. in_range low high (get_or xs k nan))

-- 2^-600 and 2^30, the ends for frequencies
abbrev pub least_frequency : Float
least_frequency = of_bits binary64 0x1a70_0000_0000_0000

abbrev pub greatest_frequency : Float
greatest_frequency = of_bits binary64 0x41d0_0000_0000_0000

-- 2^-660 and 2^31, the ends for points and directly given vertices
abbrev pub least_point : Float
least_point = of_bits binary64 0x16b0_0000_0000_0000

abbrev pub greatest_point : Float
greatest_point = of_bits binary64 0x41e0_0000_0000_0000

-- Question 11: "Do frequencies hold .. values .., each zero or of magnitude 2^-600 to 2^30"
abbrev pub are_frequencies : List Float → Bool
are_frequencies xs = are_in_range least_frequency greatest_frequency xs

-- Question 11: "points and directly given vertices zero or 2^-660 to 2^31"
abbrev pub are_points : List Float → Bool
are_points xs = are_in_range least_point greatest_point xs

-- one point of them
abbrev pub is_point : Float → Bool
is_point x = in_range least_point greatest_point x

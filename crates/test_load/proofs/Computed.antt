-- Computed: "From 0 the first number is 1013904223 and the first frequency 3.77685546875", and the thousandth of both, which another program gave.
use mathlib.Core.Path.{◌≡◌, refl}
use mathlib.Core.Bool.{false}
use Prim.Native.Nat.{◌^◌}
use lib.Ieee.{div, of_int}
use lib.Ieee.Exact.{HasValue}
use Rattle.test_load.specs.Load.{next, after, frequency, frequency_at}

pub first-number : after 0 1 ≡ 1013904223
unfolding after next
first-number = refl

pub first-frequency : HasValue (frequency_at 0 0) false 377685546875 (10 ^ 11)
unfolding after next frequency div of_int
first-frequency = (refl, refl)

pub thousandth-number : after 0 1000 ≡ 3926946568
unfolding after next
thousandth-number = refl

pub thousandth-frequency : HasValue (frequency_at 0 999) false 1462890625 (10 ^ 8)
unfolding after next frequency div of_int
thousandth-frequency = (refl, refl)

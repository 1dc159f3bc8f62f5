-- f64 as the operations of the paper's text.
use Rattle.std.specs.Prelude.{cond, Float}
use Rattle.std.specs.Float.Ieee.{lt}
use Rattle.ieee_laws.specs.Zeros.{zero_f}
use Rattle.tetrahedron_paper.specs.Operations.{Operations}
use Rattle.tetrahedron_fractions.specs.Binary64.{quarter, one, three, four, epsilon, ◌⊕◌, ◌⊖◌, ◌⊗◌, ◌⊘◌}
use Rattle.tetrahedron_fractions.specs.Small.{is_small}

-- f64: each operation rounded once, and each guard gives 0 where d is under 1e-10
abbrev pub binary : Operations
binary = record {
  C = Float;
  none = zero_f;
  one = one;
  three = three;
  four = four;
  quarter = quarter;
  plus = λ x y. x ⊕ y;
  minus = λ x y. x ⊖ y;
  times = λ x y. x ⊗ y;
  over = λ x y. x ⊘ y;
  apart = λ d x. cond (is_small d) zero_f x;
  guard = λ d x. cond (lt d epsilon) zero_f x;
}

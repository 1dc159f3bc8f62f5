-- `table_rules::kernel::corners::expanded` meets its contract.
use lib.IntN.{ℤ, ◌*ℤ◌, ◌-ℤ◌, ◌+ℤ◌}
use mir.Syntax.{w64}
use mir.Val.{SFits}
use mir.ValLaws.{to_z-of_z}
use Rattle.list_laws.specs.Lists.{at}
use Rattle.list_laws.proofs.WithinLaws.{handed}
use Rattle.table_rules.proofs.DeterminantLaws.{expanded-first, expanded-second, expanded-third, expanded-difference, expanded-fits}
use Rattle.table_rules.proofs.kernel.corners.expanded.Goals.{Start}
use Rattle.table_rules.proofs.kernel.corners.expanded.Goals as goal

-- the products, the difference and the sum fit
module _ (s : Start) where
  abbrev p : ℤ
  p = at s.args.a.numbers 0

  abbrev q : ℤ
  q = at s.args.a.numbers 1

  abbrev r : ℤ
  r = at s.args.a.numbers 2

  first : SFits w64 (at s.args.a.numbers 0 *ℤ s.args.x)
  first = expanded-first p q r s.args.x s.args.y s.args.z (s.args.a.small 0) (s.args.a.small 1) (s.args.a.small 2) s.requires.0 s.requires.1.0 s.requires.1.1

  second : SFits w64 (at s.args.a.numbers 1 *ℤ s.args.y)
  second = expanded-second p q r s.args.x s.args.y s.args.z (s.args.a.small 0) (s.args.a.small 1) (s.args.a.small 2) s.requires.0 s.requires.1.0 s.requires.1.1

  third : SFits w64 (at s.args.a.numbers 2 *ℤ s.args.z)
  third = expanded-third p q r s.args.x s.args.y s.args.z (s.args.a.small 0) (s.args.a.small 1) (s.args.a.small 2) s.requires.0 s.requires.1.0 s.requires.1.1

  difference : SFits w64 (at s.args.a.numbers 0 *ℤ s.args.x -ℤ at s.args.a.numbers 1 *ℤ s.args.y)
  difference = expanded-difference p q r s.args.x s.args.y s.args.z (s.args.a.small 0) (s.args.a.small 1) (s.args.a.small 2) s.requires.0 s.requires.1.0 s.requires.1.1

  all : SFits w64 (at s.args.a.numbers 0 *ℤ s.args.x -ℤ at s.args.a.numbers 1 *ℤ s.args.y +ℤ at s.args.a.numbers 2 *ℤ s.args.z)
  all = expanded-fits p q r s.args.x s.args.y s.args.z (s.args.a.small 0) (s.args.a.small 1) (s.args.a.small 2) s.requires.0 s.requires.1.0 s.requires.1.1

pub overflow_mul-result : goal.overflow_mul-result
overflow_mul-result c =
    rw (handed (at c.args.a.numbers 0) c.component.type_inv c.component.ensures, to_z-of_z w64 c.args.x c.ranges.x) (first (goal.at.overflow_mul-result c).Start)

pub overflow_mul-result-2 : goal.overflow_mul-result-2
overflow_mul-result-2 c =
    rw (handed (at c.args.a.numbers 1) c.component-2.type_inv c.component-2.ensures, to_z-of_z w64 c.args.y c.ranges.y) (second (goal.at.overflow_mul-result-2 c).Start)

pub overflow_sub-result : goal.overflow_sub-result
overflow_sub-result c =
    let s = (goal.at.overflow_sub-result c).Start in
    rw (
      handed (at c.args.a.numbers 0) c.component.type_inv c.component.ensures,
      handed (at c.args.a.numbers 1) c.component-2.type_inv c.component-2.ensures,
      to_z-of_z w64 c.args.x c.ranges.x,
      to_z-of_z w64 c.args.y c.ranges.y,
      to_z-of_z w64 (at c.args.a.numbers 0 *ℤ c.args.x) (first s),
      to_z-of_z w64 (at c.args.a.numbers 1 *ℤ c.args.y) (second s),
    ) (difference s)

pub overflow_mul-result-3 : goal.overflow_mul-result-3
overflow_mul-result-3 c =
    rw (handed (at c.args.a.numbers 2) c.component-3.type_inv c.component-3.ensures, to_z-of_z w64 c.args.z c.ranges.z) (third (goal.at.overflow_mul-result-3 c).Start)

pub overflow_add-result : goal.overflow_add-result
overflow_add-result c =
    let s = (goal.at.overflow_add-result c).Start in
    rw (
      handed (at c.args.a.numbers 0) c.component.type_inv c.component.ensures,
      handed (at c.args.a.numbers 1) c.component-2.type_inv c.component-2.ensures,
      handed (at c.args.a.numbers 2) c.component-3.type_inv c.component-3.ensures,
      to_z-of_z w64 c.args.x c.ranges.x,
      to_z-of_z w64 c.args.y c.ranges.y,
      to_z-of_z w64 c.args.z c.ranges.z,
      to_z-of_z w64 (at c.args.a.numbers 0 *ℤ c.args.x) (first s),
      to_z-of_z w64 (at c.args.a.numbers 1 *ℤ c.args.y) (second s),
      to_z-of_z w64 (at c.args.a.numbers 2 *ℤ c.args.z) (third s),
      to_z-of_z w64 (at c.args.a.numbers 0 *ℤ c.args.x -ℤ at c.args.a.numbers 1 *ℤ c.args.y) (difference s),
    ) (all s)

pub returns : goal.returns
returns c =
    let s = (goal.at.returns c).Start in
    rw (
      handed (at c.args.a.numbers 0) c.component.type_inv c.component.ensures,
      handed (at c.args.a.numbers 1) c.component-2.type_inv c.component-2.ensures,
      handed (at c.args.a.numbers 2) c.component-3.type_inv c.component-3.ensures,
      to_z-of_z w64 c.args.x c.ranges.x,
      to_z-of_z w64 c.args.y c.ranges.y,
      to_z-of_z w64 c.args.z c.ranges.z,
      to_z-of_z w64 (at c.args.a.numbers 0 *ℤ c.args.x) (first s),
      to_z-of_z w64 (at c.args.a.numbers 1 *ℤ c.args.y) (second s),
      to_z-of_z w64 (at c.args.a.numbers 2 *ℤ c.args.z) (third s),
      to_z-of_z w64 (at c.args.a.numbers 0 *ℤ c.args.x -ℤ at c.args.a.numbers 1 *ℤ c.args.y) (difference s),
    ) (to_z-of_z w64 (at c.args.a.numbers 0 *ℤ c.args.x -ℤ at c.args.a.numbers 1 *ℤ c.args.y +ℤ at c.args.a.numbers 2 *ℤ c.args.z) (all s))

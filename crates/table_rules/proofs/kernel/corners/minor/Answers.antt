-- `table_rules::kernel::corners::minor` meets its contract.
use mathlib.Core.Path.{◌≡◌}
use mir.Syntax.{w64}
use mir.Val.{SFits, to_z, of_z}
use mir.ValLaws.{to_z-of_z}
use lib.IntN.{◌*ℤ◌, ◌-ℤ◌}
use Rattle.table_rules.proofs.DeterminantLaws.{minor-first, minor-second, minor-small, minor-fits}
use Rattle.table_rules.proofs.kernel.corners.minor.Goals.{Start}
use Rattle.table_rules.proofs.kernel.corners.minor.Goals as goal

-- the products fit, and so does their difference
module _ (s : Start) where
  first : SFits w64 (s.args.a *ℤ s.args.d)
  first = minor-first s.args.a s.args.b s.args.c s.args.d s.requires.0.0 s.requires.0.1 s.requires.1.0 s.requires.1.1

  second : SFits w64 (s.args.b *ℤ s.args.c)
  second = minor-second s.args.a s.args.b s.args.c s.args.d s.requires.0.0 s.requires.0.1 s.requires.1.0 s.requires.1.1

  fits : SFits w64 (s.args.a *ℤ s.args.d -ℤ s.args.b *ℤ s.args.c)
  fits = minor-fits s.args.a s.args.b s.args.c s.args.d s.requires.0.0 s.requires.0.1 s.requires.1.0 s.requires.1.1

  first-back : to_z w64 (of_z w64 (to_z w64 (of_z w64 s.args.a) *ℤ to_z w64 (of_z w64 s.args.d))) ≡ s.args.a *ℤ s.args.d
  first-back = rw (to_z-of_z w64 s.args.a s.ranges.a, to_z-of_z w64 s.args.d s.ranges.d) (to_z-of_z w64 (s.args.a *ℤ s.args.d) first)

  second-back : to_z w64 (of_z w64 (to_z w64 (of_z w64 s.args.b) *ℤ to_z w64 (of_z w64 s.args.c))) ≡ s.args.b *ℤ s.args.c
  second-back = rw (to_z-of_z w64 s.args.b s.ranges.b, to_z-of_z w64 s.args.c s.ranges.c) (to_z-of_z w64 (s.args.b *ℤ s.args.c) second)

pub overflow_mul-result : goal.overflow_mul-result
overflow_mul-result c = rw (to_z-of_z w64 c.args.a c.ranges.a, to_z-of_z w64 c.args.d c.ranges.d) (first (goal.at.overflow_mul-result c).Start)

pub overflow_mul-result-2 : goal.overflow_mul-result-2
overflow_mul-result-2 c = rw (to_z-of_z w64 c.args.b c.ranges.b, to_z-of_z w64 c.args.c c.ranges.c) (second (goal.at.overflow_mul-result-2 c).Start)

pub overflow_sub-result : goal.overflow_sub-result
overflow_sub-result c =
    let s = (goal.at.overflow_sub-result c).Start in rw (first-back s, second-back s) (fits s)

pub returns-clause-value : goal.returns-clause-value
returns-clause-value c =
    let s = (goal.at.returns-clause-value c).Start in rw (first-back s, second-back s) (to_z-of_z w64 _ (fits s))

pub returns-clause-small : goal.returns-clause-small
returns-clause-small c =
    let s = (goal.at.returns-clause-small c).Start in
    rw (first-back s, second-back s, to_z-of_z w64 _ (fits s)) (minor-small c.args.a c.args.b c.args.c c.args.d c.requires.0.0 c.requires.0.1 c.requires.1.0 c.requires.1.1)

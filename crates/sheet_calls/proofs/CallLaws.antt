-- The calls that numbers encode, by their kinds; the part of the ids that two numbers name. Assumes nothing.
use mathlib.Core.Path.{◌≡◌, ◌∙◌}
use mathlib.Core.Bool.{true, false, ◌&&◌}
use mathlib.Core.List.{List, []}
use Prim.Native.Nat.{ℕ, ◌+◌, ◌-◌, ◌*◌, ◌≤◌, ◌<◌}
use native.Mathlib.Omega.{arith}
use borrow.Author.Tests.{leb-true}
use lib.Dec.{leb}
use lib.IntN.{ℤ, pos}
use lib.ListN.{length, take, drop}
use lib.Seq.{get_or-take, get_or-drop}
use lib.Signed.{non_neg, mag}
use Rattle.list_laws.specs.Lists.{at, part}
use Rattle.list_laws.specs.Signed.{is_nat}
use Rattle.list_laws.proofs.BoolLaws.{and_left, and_right}
use Rattle.sheet_step.specs.Steps.{run, carry, average}
use Rattle.sheet_calls.specs.Calls.{number_at, is_part, ids_from, call_of, call_at}

module _ (ids : List ℤ) (start end : ℤ) where
  -- a part lies within the ids
  pub part-within : is_part ids start end ≡ true → (mag start ≤ mag end) × (mag end ≤ length ids)
  unfolding is_part
  part-within h =
      let a : ((non_neg start && non_neg end) && leb (mag start) (mag end)) ≡ true = and_left ((non_neg start && non_neg end) && leb (mag start) (mag end)) (leb (mag end) (length ids)) h in (
        leb-true (mag start) (mag end) (and_right (non_neg start && non_neg end) (leb (mag start) (mag end)) a),
        leb-true (mag end) (length ids) (and_right ((non_neg start && non_neg end) && leb (mag start) (mag end)) (leb (mag end) (length ids)) h),
      )

  pub ids-part : is_part ids start end ≡ true → part (mag start) (mag end - mag start) ids ≡ ids_from ids start end
  unfolding ids_from
  ids-part h = rw h

  pub ids-none : is_part ids start end ≡ false → [] ≡ ids_from ids start end
  unfolding ids_from
  ids-none h = rw h

module _ (ids : List ℤ) (kind a b c d e : ℤ) where
  pub call-run : is_nat kind 0 ≡ true → run a b c d ≡ call_of ids kind a b c d e
  unfolding call_of
  call-run h = rw h

  pub call-carry : is_nat kind 0 ≡ false → is_nat kind 1 ≡ true → carry a ≡ call_of ids kind a b c d e
  unfolding call_of
  call-carry h k = rw (h, k)

  pub call-average : is_nat kind 0 ≡ false → is_nat kind 1 ≡ false → average a (ids_from ids b c) (ids_from ids d e) ≡ call_of ids kind a b c d e
  unfolding call_of
  call-average h k = rw (h, k)

-- six numbers of a list encode its call
module _ (list ids : List ℤ) (i : ℕ) where
  abbrev pub six : List ℤ
  six = take (i * 6 + 6 - i * 6) (drop (i * 6) list)

  six-at : (k : ℕ) → k < 6 → at six k ≡ number_at list i k
  six-at k h = get_or-take (i * 6 + 6 - i * 6) (drop (i * 6) list) k (pos 0) (omega (arith, h)) ∙ get_or-drop (i * 6) list k (pos 0)

  pub six-call : call_of ids (at six 0) (at six 1) (at six 2) (at six 3) (at six 4) (at six 5) ≡ call_at list ids i
  unfolding call_at
  six-call = rw (six-at 0 (omega arith), six-at 1 (omega arith), six-at 2 (omega arith), six-at 3 (omega arith), six-at 4 (omega arith), six-at 5 (omega arith))

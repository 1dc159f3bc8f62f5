-- Counts that passed question 9: how many entries and weights they make. Assumes nothing.
use mathlib.Core.Path.{◌≡◌}
use mathlib.Core.Bool.{true}
use Prim.Native.Nat.{◌*◌, ◌≤◌, ◌<◌}
use native.Mathlib.Nat.{mul-le-mul}
use native.Mathlib.Omega.{arith}
use lib.IntN.{ℤ}
use lib.Signed.{mag}
use Rattle.ask.specs.Ask.{Numbered, first_no}
use Rattle.ask.proofs.AskLaws.{all_yes}
use Rattle.question_values.proofs.CountLaws.{bands1-low, bands2-low, points-low, pairs-high, cells-high, all-cells-high}
use Rattle.question_values.proofs.TypeLaws.{channels-le}
use Rattle.question_values.specs.TpTypes.{is_tp_type}
use Rattle.sheet_counts.specs.declared.Counts.{Counts}
use Rattle.sheet_counts.specs.SheetCounts.{are_sheet_counts, count_questions, cells_per_triplet, cells_of, weight_count_of}

module _ (c : Counts) (e : are_sheet_counts c ≡ true) where
  pub counts-low : (0 < mag c.num_band0) × (0 < mag c.num_band1) × (0 < mag c.num_band2)
  unfolding are_sheet_counts
  counts-low = (points-low _ _ _ _ e, bands1-low _ _ _ _ e, bands2-low _ _ _ _ e)

  pub pair-le : mag c.num_band1 * mag c.num_band2 ≤ 4096
  unfolding are_sheet_counts
  pair-le = pairs-high _ _ _ _ e

  pub cells-le : cells_per_triplet c ≤ 4194304
  unfolding are_sheet_counts cells_per_triplet
  cells-le = cells-high _ _ _ _ e

  pub all-cells-le : cells_of c ≤ 274877906944
  unfolding are_sheet_counts cells_per_triplet
  all-cells-le = all-cells-high _ _ _ _ e

  pub weights-le : (type : ℤ) → weight_count_of type c ≤ 824633720832
  weights-le type = mul-le-mul (channels-le type) all-cells-le

pub counts-numbered : (type : ℤ) (c : Counts) → Numbered (count_questions type c)
counts-numbered type c = (omega arith, (omega arith, tt))

pub both-yes : (type : ℤ) (c : Counts) → first_no (count_questions type c) ≡ 0 → (is_tp_type type ≡ true) × (are_sheet_counts c ≡ true)
both-yes type c e =
    let y = all_yes (count_questions type c) (counts-numbered type c) e in
    (y.0, y.1.0)

pub counts-yes : (type : ℤ) (c : Counts) → first_no (count_questions type c) ≡ 0 → are_sheet_counts c ≡ true
counts-yes type c e = (both-yes type c e).1

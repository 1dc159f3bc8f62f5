-- What an averaging that no question refuses may go by. Assumes nothing.
use mathlib.Core.Path.{◌≡◌, sym, ◌∙◌}
use mathlib.Core.Bool.{true}
use mathlib.Core.List.{List}
use Prim.Native.Nat.{◌*◌, ◌≤◌}
use native.Mathlib.Nat.{mul_assoc}
use native.Mathlib.Omega.{arith}
use lib.Dec.{eqb}
use lib.IntN.{ℤ, pos}
use lib.ListN.{length}
use lib.Signed.{mag}
use lib.Ieee.{Float}
use borrow.Author.Tests.{eqb-true}
use Rattle.list_laws.proofs.BoolLaws.{and_left, and_right}
use Rattle.question_values.specs.Averages.{are_degenerate_ids}
use Rattle.question_values.specs.Counts.{are_counts, cell_count}
use Rattle.question_values.specs.TpTypes.{channels_of}
use Rattle.ask.proofs.AskLaws.{all_yes}
use Rattle.question_values.proofs.AverageLaws.{ids-length}
use Rattle.question_values.proofs.CountLaws.{bands1-high, points-high}
use Rattle.degenerate_sets.proofs.SizeLaws.{square_le, flags-le, weights-le}
use Rattle.averaging.specs.Answers.{averaging_questions, averaging_no}

-- ---- sizes

-- question 9's yes bounds both counts
pub counts-le : (points bands : ℤ) → are_counts bands bands points (pos 1) ≡ true → (mag bands ≤ 64) × (mag points ≤ 1024)
counts-le points bands e = (bands1-high bands bands points (pos 1) e, points-high bands bands points (pos 1) e)

-- ---- what an accepted call goes by

pub record Accepted (iw : List Float) (iwz ids1 ids2 : List ℤ) (points bands type : ℤ) : Type 0 where
  pub counts : (mag bands ≤ 64) × (mag points ≤ 1024)
  pub weights : length iw ≡ channels_of type * mag points * (mag bands * mag bands)
  pub flags : length iwz ≡ mag points * (mag bands * mag bands)
  pub rows : length ids1 ≡ mag bands
  pub columns : length ids2 ≡ mag bands

pub accepted : (iw : List Float) (iwz ids1 ids2 : List ℤ) (points bands type : ℤ)
    → averaging_no iw iwz ids1 ids2 points bands type ≡ 0 → Accepted iw iwz ids1 ids2 points bands type
accepted iw iwz ids1 ids2 points bands type e =
    let yes-all = all_yes (averaging_questions iw iwz ids1 ids2 points bands type) (omega arith, (omega arith, (omega arith, (omega arith, (omega arith, tt))))) e in
    let lengths = yes-all.1.1.0 in
    let ids = yes-all.1.1.1.0 in
    let weights-there = eqb (length iw) (channels_of type * cell_count points bands bands) in
    let flags-there = eqb (length iwz) (cell_count points bands bands) in
    record {
      counts = counts-le points bands yes-all.1.0;
      weights = eqb-true (length iw) (channels_of type * cell_count points bands bands) (and_left weights-there flags-there lengths)
          ∙ sym (mul_assoc (channels_of type) (mag points) (mag bands * mag bands));
      flags = eqb-true (length iwz) (cell_count points bands bands) (and_right weights-there flags-there lengths);
      rows = ids-length (mag bands) ids1 (and_left (are_degenerate_ids (mag bands) ids1) (are_degenerate_ids (mag bands) ids2) ids);
      columns = ids-length (mag bands) ids2 (and_right (are_degenerate_ids (mag bands) ids1) (are_degenerate_ids (mag bands) ids2) ids);
    }

-- by one name, for the attributes of functions
pub ruleset size_laws = (counts-le, square_le, flags-le, weights-le)

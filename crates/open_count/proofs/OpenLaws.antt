-- What an accepted open count goes by. Assumes nothing.
use mathlib.Core.Path.{◌≡◌, refl}
use mathlib.Core.Bool.{true}
use Prim.Native.Nat.{ℕ, ◌+◌, ◌*◌, ◌≤◌}
use native.Mathlib.Omega.{arith}
use lib.IntN.{ℤ}
use lib.Signed.{mag}
use borrow.Author.Tests.{eqb-true}
use Rattle.list_laws.proofs.ProductLaws.{row_room}
use Rattle.list_laws.proofs.SignedLaws.{below-lt}
use Rattle.ask.specs.Ask.{AllYes, first_no}
use Rattle.ask.proofs.AskLaws.{all_yes}
use Rattle.sheet_counts.specs.declared.Counts.{Counts}
use Rattle.sheet_counts.specs.SheetCounts.{are_sheet_counts, cells_per_triplet, cells_of, weight_count_of}
use Rattle.open_count.specs.OpenCount.{open_questions}

-- what 8, 9, 12 and 14 told of a call
pub record Accepted (type : ℤ) (c : Counts) (weights : ℕ) (triplet : ℤ) : Type 0 where
  pub counted : are_sheet_counts c ≡ true
  pub weighed : weights ≡ weight_count_of type c
  pub room : mag triplet * cells_per_triplet c + cells_per_triplet c ≤ cells_of c

pub accepted : (type : ℤ) (c : Counts) (weights : ℕ) (triplet : ℤ) → first_no (open_questions type c weights triplet) ≡ 0
    → Accepted type c weights triplet
accepted type c weights triplet e =
    let y : AllYes (open_questions type c weights triplet) = all_yes (open_questions type c weights triplet) (omega arith, (omega arith, (omega arith, (omega arith, tt)))) e in
    record {
      counted = y.1.0;
      weighed = eqb-true weights (weight_count_of type c) y.1.1.0;
      room = row_room (mag triplet) (mag c.num_triplets) (cells_per_triplet c) (mag triplet * cells_per_triplet c) (cells_of c) (below-lt triplet (mag c.num_triplets) y.1.1.1.0) refl refl;
    }

-- Of the counts of a tested study: where a triplet's weights and marks lie. Assumes nothing.
use mathlib.Core.Path.{◌≡◌, ◌∙◌}
use mathlib.Core.List.{List}
use lib.ListN.{length}
use Prim.Native.Nat.{ℕ, ◌+◌, ◌*◌, ◌≤◌, ◌<◌}
use native.Mathlib.Nat.{mul-le-mul, mul_assoc}
use native.Mathlib.Omega.{arith}
use Rattle.list_laws.proofs.ProductLaws.{row-le}
use Rattle.triplet_study.specs.declared.Sizes.{Sizes}
use Rattle.triplet_study.specs.Tested.{Counted}
use Rattle.marks.specs.Bytes.{places_in, bytes_for, FewPieces, Few, Holds}
use Rattle.marks.proofs.BytesLaws.{holds, all_in}
use Rattle.sheet_step.specs.Steps.{pieces_of}

module _ (z : Sizes) (h : Counted z) where
  -- a triplet has at most so many entries in a channel
  pub size_few : z.points * z.pairs ≤ 4194304
  size_few = mul-le-mul h.points-few h.pairs-few

  pub cells-by-size : z.cells ≡ z.triplets * (z.points * z.pairs)
  cells-by-size = h.cells_are ∙ mul_assoc z.triplets z.points z.pairs

  pub pieces-few : FewPieces (pieces_of z)
  pieces-few = mul-le-mul h.triplets-few h.pairs-few

  pub entries-few : z.channels * z.cells ≤ 824633720832
  entries-few = mul-le-mul h.channels-few h.cells-few

  -- the entries of triplet t in one channel
  pub triplet-place : (t : ℕ) → t < z.triplets → t * (z.points * z.pairs) + z.points * z.pairs ≤ z.cells
  triplet-place t l = rw cells-by-size (row-le (z.points * z.pairs) l)

  -- its entries in channel c
  pub channel-place : (t c : ℕ) → t < z.triplets → c < z.channels
      → (c * z.cells + z.cells ≤ z.channels * z.cells) × (c * z.cells + t * (z.points * z.pairs) + z.points * z.pairs ≤ z.channels * z.cells)
  channel-place t c l k =
      let r : c * z.cells + z.cells ≤ z.channels * z.cells = row-le z.cells k in
      (r, omega (arith, triplet-place t l))

  -- its marks
  module _ (marks : List ℕ) (e : Holds (pieces_of z) marks) (t : ℕ) (l : t < z.triplets) where
    pub marks-place : Few marks × (t * z.pairs + z.pairs ≤ places_in marks)
    marks-place = let r : t * z.pairs + z.pairs ≤ pieces_of z = row-le z.pairs l in (e.0, omega (arith, r, all_in (pieces_of z) marks e))

    pub first-place : Few marks × (t * z.pairs < places_in marks)
    first-place = (e.0, omega (arith, marks-place.1, h.pairs-some))

  -- the marks of a tested sheet
  pub marks-held : (marks : List ℕ) → length marks ≡ bytes_for (pieces_of z) → Holds (pieces_of z) marks
  marks-held marks e = holds (pieces_of z) marks pieces-few e

-- by one name, for the attributes of functions
pub ruleset held_laws = (marks-held)

pub ruleset place_laws = (first-place)

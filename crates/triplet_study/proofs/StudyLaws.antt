-- What the questions tell of a study, of its counts and of the lent lists. Assumes nothing.
use mathlib.Core.Path.{◌≡◌, refl, sym, ap, ◌∙◌, subst⁻¹}
use mathlib.Core.Bool.{true, ◌&&◌}
use mathlib.Core.List.{List, ◌++◌}
use Prim.Native.Nat.{ℕ, ◌*◌, ◌%◌, ◌≤◌}
use native.Mathlib.Nat.{mul-le-mul}
use native.Mathlib.Omega.{arith}
use borrow.Author.Tests.{eqb-true}
use lib.Dec.{eqb}
use lib.IntN.{ℤ, pos}
use lib.Ieee.{Float}
use lib.ListN.{length}
use lib.Signed.{mag}
use Rattle.list_laws.proofs.BoolLaws.{and_left, and_right}
use Rattle.ask.specs.Ask.{Question, first_no, AllYes, Numbered}
use Rattle.ask.proofs.AskLaws.{all_yes, group-no}
use Rattle.question_values.specs.Counts.{are_counts, is_product}
use Rattle.question_values.specs.Frequencies.{are_frequencies, are_points}
use Rattle.question_values.specs.Rows.{has_rows}
use Rattle.question_grids.specs.Grids.{are_triples, triples_in, grid_questions}
use Rattle.question_grids.specs.Tables.{is_table, rows_in}
use Rattle.question_grids.specs.Steps.{are_grid_points}
use Rattle.question_grids.proofs.StepLaws.{grid-points-at, product-yes}
use Rattle.question_values.proofs.RowsLaws.{table-rows}
use Rattle.question_values.proofs.CountLaws.{bands1-low, bands1-high, bands2-low, bands2-high, points-low, points-high, many-high}
use Rattle.bzgrid_lookup.proofs.CallLaws.{sound-grid}
use Rattle.triplet_types.proofs.TypeLaws.{channel-count-le}
use Rattle.triplet_study.specs.declared.Shape.{Shape}
use Rattle.triplet_study.specs.declared.Sizes.{Sizes}
use Rattle.triplet_study.specs.Study.{Study, study, tp_in, grid_in, bands1_in, bands2_in, triplet_count, sizes_by, sizes_of}
use Rattle.triplet_study.specs.Questions.{triplets_in, are_triplets, hold_frequencies, are_study_frequencies, table_questions, value_questions, study_questions, are_lengths}
use Rattle.triplet_study.specs.Tested.{Tested, Counted, Ready}

-- ---- the yes to a question

-- 9
pub counts-say : (bands1 bands2 : ℤ) (points triplets : ℕ) → are_counts bands1 bands2 (pos points) (pos triplets) ≡ true
    → ((1 ≤ mag bands1) × (mag bands1 ≤ 64)) × (((1 ≤ mag bands2) × (mag bands2 ≤ 64)) × (((1 ≤ points) × (points ≤ 1024)) × (triplets ≤ 65536)))
counts-say bands1 bands2 points triplets e = (
  (bands1-low bands1 bands2 (pos points) (pos triplets) e, bands1-high bands1 bands2 (pos points) (pos triplets) e),
  (
    (bands2-low bands1 bands2 (pos points) (pos triplets) e, bands2-high bands1 bands2 (pos points) (pos triplets) e),
    ((points-low bands1 bands2 (pos points) (pos triplets) e, points-high bands1 bands2 (pos points) (pos triplets) e), many-high bands1 bands2 (pos points) (pos triplets) e),
  ),
)

-- 11: how many frequencies there are
held-count : (p bands : ℕ) (frequencies : List Float) → hold_frequencies p bands frequencies ≡ true → length frequencies ≡ p * bands
unfolding hold_frequencies
held-count p bands frequencies e = product-yes p bands (length frequencies) (and_left (is_product p bands (length frequencies)) (are_frequencies frequencies) e)

-- 12
pub lengths-say : (z : Sizes) (w f : ℕ) → are_lengths z w f ≡ true → (w ≡ z.channels * z.cells) × (f ≡ z.cells)
unfolding are_lengths
lengths-say z w f e = (
  eqb-true w (z.channels * z.cells) (and_left (eqb w (z.channels * z.cells)) (eqb f z.cells) e),
  eqb-true f z.cells (and_right (eqb w (z.channels * z.cells)) (eqb f z.cells) e),
)

-- ---- the number of the first no

module _ (s : Study) where
  abbrev grid_part : List Question
  grid_part = grid_questions s.shape.bz_grid_type s.shape.d_diag s.addresses s.gp-map

  abbrev value_part : List Question
  value_part =
      value_questions (triples_in s.addresses) s.shape.tp_type s.shape.num_band1 s.shape.num_band2
      s.frequencies1 s.frequencies2 s.points s.triplets

  pub study-numbered : Numbered (study_questions s)
  study-numbered = (omega arith, (omega arith, (omega arith, (omega arith, (omega arith, (omega arith, (omega arith, (omega arith, (omega arith, tt)))))))))

  grid-numbered : Numbered grid_part
  grid-numbered = (omega arith, (omega arith, (omega arith, (omega arith, tt))))

  -- one of 3 to 6 says no
  pub grid-first-no : (n : ℕ) → n ≡ first_no grid_part → (n ≡ 0 → ⊥) → n ≡ first_no (study_questions s)
  grid-first-no n e h = e ∙ sym (group-no grid_part (table_questions s.steps ++ value_part) (λ z. h (e ∙ z)))

  -- ---- what a yes to each of 3 to 11 tells

  grid-yes : AllYes (study_questions s) → first_no grid_part ≡ 0
  unfolding first_no
  grid-yes y = rw (y.0, y.1.0, y.1.1.0, y.1.1.1.0)

  pub tested : first_no (study_questions s) ≡ 0 → Tested s
  unfolding is_table are_triplets are_study_frequencies
  tested e =
      let y : AllYes (study_questions s) = all_yes (study_questions s) study-numbered e in
      let p : ℕ = triples_in s.addresses in
      let y7 : (has_rows 12 (length s.steps) && are_triples s.steps) ≡ true = y.1.1.1.1.0 in
      let r : _ = table-rows (length s.steps) (and_left (has_rows 12 (length s.steps)) (are_triples s.steps) y7) in
      let y9 : _ = counts-say s.shape.num_band1 s.shape.num_band2 (length s.points) (triplets_in s.triplets) y.1.1.1.1.1.1.0 in
      let y10 : (eqb (length s.triplets % 3) 0 && are_grid_points p s.triplets) ≡ true = y.1.1.1.1.1.1.1.0 in
      let h1 : _ = hold_frequencies p (bands1_in s) s.frequencies1 in
      let h2 : _ = hold_frequencies p (bands2_in s) s.frequencies2 in
      let y11 : ((h1 && h2) && are_points s.points) ≡ true = y.1.1.1.1.1.1.1.1.0 in
      let f : (h1 && h2) ≡ true = and_left (h1 && h2) (are_points s.points) y11 in
      let w : length s.triplets % 3 ≡ 0 = eqb-true (length s.triplets % 3) 0 (and_left (eqb (length s.triplets % 3) 0) (are_grid_points p s.triplets) y10) in
      record {
        grid = sound-grid s.shape.bz_grid_type s.shape.d_diag s.addresses s.gp-map (grid-yes y);
        table = and_right (has_rows 12 (length s.steps)) (are_triples s.steps) y7;
        rows-low = r.0;
        rows-high = r.1.0;
        rows_whole = r.1.1;
        bands1-low = y9.0.0;
        bands1-high = y9.0.1;
        bands2-low = y9.1.0.0;
        bands2-high = y9.1.0.1;
        points-low = y9.1.1.0.0;
        points-high = y9.1.1.0.1;
        triplets-high = omega (arith, y9.1.1.1);
        triplets-whole = omega arith;
        triplets-at = grid-points-at p s.triplets (and_right (eqb (length s.triplets % 3) 0) (are_grid_points p s.triplets) y10);
        held1 = held-count p (bands1_in s) s.frequencies1 (and_left h1 h2 f);
        held2 = held-count p (bands2_in s) s.frequencies2 (and_right h1 h2 f);
      }

-- ---- its counts

-- so many cells are few
pub cells_fit : (t p a b : ℕ) → t ≤ 65536 → p ≤ 1024 → a ≤ 64 → b ≤ 64 → t * p * (a * b) ≤ 274877906944
cells_fit t p a b ht hp ha hb = mul-le-mul (mul-le-mul ht hp) (mul-le-mul ha hb)

module _ {s : Study} (k : Tested s) where
  pub counted : Counted (sizes_of s)
  unfolding sizes_by
  counted =
      let low : 1 * 1 ≤ bands1_in s * bands2_in s = mul-le-mul k.bands1-low k.bands2-low in
      let high : bands1_in s * bands2_in s ≤ 64 * 64 = mul-le-mul k.bands1-high k.bands2-high in
      record {
        channels-few = channel-count-le (tp_in s);
        triplets-few = k.triplets-high;
        points-some = k.points-low;
        points-few = k.points-high;
        bands1-some = k.bands1-low;
        bands1-few = k.bands1-high;
        bands2-some = k.bands2-low;
        bands2-few = k.bands2-high;
        pairs-some = omega (arith, low);
        pairs-few = omega (arith, high);
        pairs-are = refl;
        cells-few = cells_fit (triplet_count s) (length s.points) (bands1_in s) (bands2_in s) k.triplets-high k.points-high k.bands1-high k.bands2-high;
        cells_are = refl;
        rows-some = k.rows-low;
        rows_few = k.rows-high;
      }

points-are : (s : Study) → length s.points ≡ (sizes_of s).points
unfolding sizes_by
points-are s = refl

-- by the study's parts
module _ (s : Study) where
  pub tp-of : (sizes_of s).tp ≡ tp_in s
  unfolding sizes_by
  tp-of = refl

  pub grid-of : (sizes_of s).grid ≡ grid_in s
  unfolding sizes_by
  grid-of = refl

  pub rows_of : (sizes_of s).rows ≡ rows_in s.steps
  unfolding sizes_by
  rows_of = refl

  pub bands1-of : (sizes_of s).bands1 ≡ bands1_in s
  unfolding sizes_by
  bands1-of = refl

  pub bands2-of : (sizes_of s).bands2 ≡ bands2_in s
  unfolding sizes_by
  bands2-of = refl

  pub triplets-of : (sizes_of s).triplets ≡ triplet_count s
  unfolding sizes_by
  triplets-of = refl

pub ready-made : (s : Study) (z : Sizes) (w f : ℕ) → Tested s → z ≡ sizes_of s → are_lengths z w f ≡ true → Ready s z w f
ready-made s z w f k c y =
    let l : _ = lengths-say z w f y in
    record { tested = k; counts = c; fits = record { pointed = rw c (points-are s); weighed = l.0; flagged = l.1 } }

pub ready : (s : Study) (z : Sizes) (w f : ℕ) → first_no (study_questions s) ≡ 0 → z ≡ sizes_of s → are_lengths z w f ≡ true → Ready s z w f
ready s z w f e c y = ready-made s z w f (tested s e) c y

-- the counts of a study that is ready
pub ready-counted : {s : Study} {z : Sizes} {w f : ℕ} → Ready s z w f → Counted z
ready-counted r = rw r.counts (counted r.tested)

-- by one name, for the attributes of functions
pub ruleset counts_laws = (counts-say)

-- the counts keep the numbers as given
pub study-shaped : (s : Study) (z : Sizes) → z ≡ sizes_of s
    → study z.shape s.addresses s.gp-map s.steps s.frequencies1 s.frequencies2 s.points s.triplets ≡ s
unfolding sizes_by
study-shaped s z c =
    ap (λ (h : Shape). study h s.addresses s.gp-map s.steps s.frequencies1 s.frequencies2 s.points s.triplets) (shape_is s z c)
  where
    shape_is : (s : Study) (z : Sizes) → z ≡ sizes_of s → z.shape ≡ s.shape
    shape_is s z c = rw c

pub ready-shaped : {s : Study} {z : Sizes} {w f : ℕ} → Ready s z w f
    → Ready (study z.shape s.addresses s.gp-map s.steps s.frequencies1 s.frequencies2 s.points s.triplets) z w f
ready-shaped {s} {z} {w} {f} r = subst⁻¹ (λ (y : Study). Ready y z w f) (study-shaped s z r.counts) r

-- What the answers of the readers stand for.
use Rattle.std.specs.Prelude.{◌≤◌, List, ℕ, ℤ, length, take, Option, Some, None}
use Rattle.sections.specs.Lines.{Part, told_part}
use Rattle.study.specs.declared.GridText.{GridText}
use Rattle.study.specs.declared.FloatsText.{FloatsText}
use Rattle.study.specs.declared.HeldStudy.{HeldStudy}
use Rattle.study.specs.declared.counts.GridCounts.{GridCounts}
use Rattle.study.specs.declared.counts.FloatsCounts.{FloatsCounts}
use Rattle.study.specs.declared.counts.StudyCounts.{StudyCounts}
use Rattle.study.specs.Studies.{StudyText}

-- ---- parts of the buffers

-- the lists of `addr` and `map`
abbrev pub grid_lists : GridText → List ℤ × List ℤ
grid_lists g = (g.addresses.now, g.gp_map.now)

-- the lists of `f1`, `f2` and `point`
abbrev pub floats_lists : FloatsText → List ℕ × List ℕ × List ℕ
floats_lists f = (f.f1.now, f.f2.now, f.points.now)

-- of `parse_grid`, by the lines that are then left
abbrev pub told_grid : Option GridText → List (List ℕ) → Part (List ℤ × List ℤ)
told_grid r = told_part r grid_lists

-- of `parse_floats`
abbrev pub told_floats : Option FloatsText → List (List ℕ) → Part (List ℕ × List ℕ × List ℕ)
told_floats r = told_part r floats_lists

-- the text's study that a held one is
abbrev pub study_text : HeldStudy → StudyText
study_text s =
    record { head = s.head; addresses = s.grid.addresses.now; gp-map = s.grid.gp_map.now; f1 = s.floats.f1.now; f2 = s.floats.f2.now; points = s.floats.points.now; triplets = s.triplets.now }

-- of `read_study`
abbrev pub told_study : Option HeldStudy → Option StudyText
told_study None = None
told_study (Some s) = Some (study_text s)

-- ---- counts, with what is then in the buffers

-- the lists at the starts of the buffers
abbrev pub grid_at : GridCounts → List ℤ → List ℤ → List ℤ × List ℤ
grid_at c addresses gp-map = (take c.addresses addresses, take c.gp_map gp-map)

abbrev pub floats_at : FloatsCounts → List ℕ → List ℕ → List ℕ → List ℕ × List ℕ × List ℕ
floats_at c f1 f2 points = (take c.f1 f1, take c.f2 f2, take c.points points)

-- they lie within the buffers
abbrev pub grid_within : GridCounts → List ℤ → List ℤ → Type 0
grid_within c addresses gp-map = (c.addresses ≤ length addresses) × (c.gp_map ≤ length gp-map)

abbrev pub floats_within : FloatsCounts → List ℕ → List ℕ → List ℕ → Type 0
floats_within c f1 f2 points = (c.f1 ≤ length f1) × (c.f2 ≤ length f2) × (c.points ≤ length points)

-- of `fill_grid`
abbrev pub told_grid_filled : Option GridCounts → List ℤ → List ℤ → List (List ℕ) → Part (List ℤ × List ℤ)
told_grid_filled r addresses gp-map = told_part r (λ c. grid_at c addresses gp-map)

-- of `fill_floats`
abbrev pub told_floats_filled : Option FloatsCounts → List ℕ → List ℕ → List ℕ → List (List ℕ) → Part (List ℕ × List ℕ × List ℕ)
told_floats_filled r f1 f2 points = told_part r (λ c. floats_at c f1 f2 points)

-- of `fill_study`
abbrev pub told_study_filled : Option StudyCounts → List ℤ → List ℤ → List ℕ → List ℕ → List ℕ → List ℤ → Option StudyText
told_study_filled None addresses gp-map f1 f2 points triplets = None
told_study_filled (Some c) addresses gp-map f1 f2 points triplets =
    Some (record { head = c.head; addresses = take c.grid.addresses addresses; gp-map = take c.grid.gp_map gp-map; f1 = take c.floats.f1 f1; f2 = take c.floats.f2 f2; points = take c.floats.points points; triplets = take c.triplets triplets })

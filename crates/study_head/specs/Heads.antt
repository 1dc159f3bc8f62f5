-- The lines that stand once, and the newline that ends a text.
use Rattle.std.specs.Prelude.{Bool, cond, List, [], ◌∷◌, ℕ, ◌-◌, eqb, ℤ, length, get_or}
use Rattle.list_laws.specs.Lists.{at}
use Rattle.list_laws.specs.Signed.{is_between}
use Rattle.sections.specs.Lines.{Part, read, wrong, and_then, once, whole_field}
use Rattle.study_head.specs.declared.Head.{Head}

-- the tag "grid"
abbrev pub grid_tag : List ℕ
grid_tag = 103 ∷ 114 ∷ 105 ∷ 100 ∷ []

-- the tag "diag"
abbrev pub diag_tag : List ℕ
diag_tag = 100 ∷ 105 ∷ 97 ∷ 103 ∷ []

-- the tag "type"
abbrev pub type_tag : List ℕ
type_tag = 116 ∷ 121 ∷ 112 ∷ 101 ∷ []

-- the tag "bands"
abbrev pub bands_tag : List ℕ
bands_tag = 98 ∷ 97 ∷ 110 ∷ 100 ∷ 115 ∷ []

-- the numbers of the lines that stand once, by name
unfoldable pub head_from : List ℤ → List ℤ → List ℤ → List ℤ → Head
head_from grid diag type bands =
    record { bz_grid_type = at grid 0; d0 = at grid 1; d1 = at grid 2; d2 = at grid 3; diag = at diag 0; tp_type = at type 0; num_band1 = at bands 0; num_band2 = at bands 1 }

-- "`grid`, `diag`, `type`, `bands` once", "`diag` 0 to 3"
unfoldable pub head_part : List (List ℕ) → Part Head
head_part ls =
    and_then (once whole_field grid_tag 4 ls)
    (λ grid ls₁. and_then (once whole_field diag_tag 1 ls₁)
    (λ diag ls₂. and_then (once whole_field type_tag 1 ls₂)
    (λ type ls₃. and_then (once whole_field bands_tag 2 ls₃)
    (λ bands ls₄. cond (is_between 0 3 (at diag 0)) (read (head_from grid diag type bands) ls₄) wrong))))

-- the last line too is "ended by one newline"
unfoldable pub ends_line : List ℕ → Bool
ends_line text = eqb (get_or text (length text - 1) 0) 10

-- The study that a text holds: a text is cut into lines, a line into fields, and the lines are read section by section.
use Rattle.std.specs.Prelude.{cond, ◌&&◌, List, [], ◌∷◌, ℕ, leb, eqb, ℤ, length, Option, Some, None}
use Rattle.text.specs.Pieces.{ended}
use Rattle.sections.specs.Lines.{Part, read, wrong, and_then, rows, whole_field, pattern_field}
use Rattle.study_head.specs.declared.Head.{Head}
use Rattle.study_head.specs.Heads.{head_part, ends_line}

-- the tag "addr"
abbrev pub addr_tag : List ℕ
addr_tag = 97 ∷ 100 ∷ 100 ∷ 114 ∷ []

-- the tag "map"
abbrev pub map_tag : List ℕ
map_tag = 109 ∷ 97 ∷ 112 ∷ []

-- the tag "f1"
abbrev pub f1_tag : List ℕ
f1_tag = 102 ∷ 49 ∷ []

-- the tag "f2"
abbrev pub f2_tag : List ℕ
f2_tag = 102 ∷ 50 ∷ []

-- the tag "point"
abbrev pub point_tag : List ℕ
point_tag = 112 ∷ 111 ∷ 105 ∷ 110 ∷ 116 ∷ []

-- the tag "triplet"
abbrev pub triplet_tag : List ℕ
triplet_tag = 116 ∷ 114 ∷ 105 ∷ 112 ∷ 108 ∷ 101 ∷ 116 ∷ []

-- addresses and map, each any number of lines
unfoldable pub grid_part : List (List ℕ) → Part (List ℤ × List ℤ)
grid_part ls =
    and_then (rows whole_field addr_tag 3 ls)
    (λ addresses ls₁. and_then (rows whole_field map_tag 1 ls₁)
    (λ gp-map ls₂. read (addresses, gp-map) ls₂))

-- both frequencies and the points, each any number of lines, each float by its bits
unfoldable pub floats_part : List (List ℕ) → Part (List ℕ × List ℕ × List ℕ)
floats_part ls =
    and_then (rows pattern_field f1_tag 1 ls)
    (λ f1 ls₁. and_then (rows pattern_field f2_tag 1 ls₁)
    (λ f2 ls₂. and_then (rows pattern_field point_tag 1 ls₂)
    (λ points ls₃. read (f1, f2, points) ls₃)))

-- a study as its text tells it: floats by their bits, triples one after another
pub record StudyText : Type 0 where
  pub head : Head
  pub addresses : List ℤ
  pub gp-map : List ℤ
  pub f1 : List ℕ
  pub f2 : List ℕ
  pub points : List ℕ
  pub triplets : List ℤ

-- the study, where no line is left
unfoldable pub whole : Part StudyText → Option StudyText
whole wrong = None
whole (read s ls) = cond (eqb (length ls) 0) (Some s) None

-- the study of a list of lines: "tags as in the example below, in that order"
unfoldable pub study_of_lines : List (List ℕ) → Option StudyText
study_of_lines ls =
    whole (and_then (head_part ls)
    (λ h ls₁. and_then (grid_part ls₁)
    (λ g ls₂. and_then (floats_part ls₂)
    (λ f ls₃. and_then (rows whole_field triplet_tag 3 ls₃)
    (λ t ls₄. read (record { head = h; addresses = g.0; gp-map = g.1; f1 = f.0; f2 = f.1; points = f.2; triplets = t }) ls₄)))))

-- Question 1: "Is the study text at most 16,384 bytes, well formed": the study that it holds, if it is
unfoldable pub study_in : List ℕ → Option StudyText
study_in text = cond (leb (length text) 16384 && ends_line text) (study_of_lines (ended 10 text)) None

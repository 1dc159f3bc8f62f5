-- A study as its text: one line for each row, tags in their order.
use Rattle.std.specs.Prelude.{◌≡◌, true, List, [], ◌∷◌, ◌++◌, ℕ, zero, suc, ◌*◌, ◌/◌, ◌^◌, ◌≤◌, ◌<◌, ℤ, length, take, drop}
use Rattle.std.specs.Int.Signed.{mag}
use Rattle.list_laws.specs.Lists.{Each}
use Rattle.list_laws.specs.Signed.{is_between}
use Rattle.text.specs.Spelled.{signed, hexadecimal}
use Rattle.study_head.specs.declared.Head.{Head}
use Rattle.study.specs.Studies.{StudyText, addr_tag, map_tag, f1_tag, f2_tag, point_tag, triplet_tag}
use Rattle.study_head.specs.Heads.{grid_tag, diag_tag, type_tag, bands_tag}

-- values as fields, "one tab between fields": a tab before each
unfoldable pub fields : {A : Type 0} → (A → List ℕ) → List A → List ℕ
fields spell [] = []
fields spell (v ∷ vs) = 9 ∷ (spell v ++ fields spell vs)

-- a line without its newline: the tag and the values
unfoldable pub line : {A : Type 0} → (A → List ℕ) → List ℕ → List A → List ℕ
line spell tag vs = tag ++ fields spell vs

-- the lines of a section of k rows, n values each
unfoldable pub section : {A : Type 0} → (A → List ℕ) → List ℕ → ℕ → ℕ → List A → List (List ℕ)
section spell tag n zero vs = []
section spell tag n (suc k) vs = line spell tag (take n vs) ∷ section spell tag n k (drop n vs)

-- "each line ended by one newline"
unfoldable pub text_of : List (List ℕ) → List ℕ
text_of [] = []
text_of (l ∷ ls) = l ++ (10 ∷ text_of ls)

-- the lines that stand once
unfoldable pub head_lines : Head → List (List ℕ)
head_lines h =
    line signed grid_tag (h.bz_grid_type ∷ h.d0 ∷ h.d1 ∷ h.d2 ∷ [])
    ∷ line signed diag_tag (h.diag ∷ [])
    ∷ line signed type_tag (h.tp_type ∷ [])
    ∷ line signed bands_tag (h.num_band1 ∷ h.num_band2 ∷ [])
    ∷ []

-- the lines of a study
unfoldable pub study_lines : StudyText → List (List ℕ)
study_lines s =
    head_lines s.head
    ++ (section signed addr_tag 3 (length s.addresses / 3) s.addresses
    ++ (section signed map_tag 1 (length s.gp-map) s.gp-map
    ++ (section hexadecimal f1_tag 1 (length s.f1) s.f1
    ++ (section hexadecimal f2_tag 1 (length s.f2) s.f2
    ++ (section hexadecimal point_tag 1 (length s.points) s.points
    ++ section signed triplet_tag 3 (length s.triplets / 3) s.triplets)))))

-- the text of a study
unfoldable pub printed : StudyText → List ℕ
printed s = text_of (study_lines s)

-- a signed number of 64 bits
abbrev pub Signed64 : ℤ → Type 0
Signed64 z = mag z < 2 ^ 63

-- a pattern of 64 bits
abbrev pub Pattern64 : ℕ → Type 0
Pattern64 n = n < 2 ^ 64

-- a study that a text can hold: numbers of 64 bits, whole triples, `diag` 0 to 3, at most 16,384 bytes
pub record Printable (s : StudyText) : Type 0 where
  pub grid-fits : Each Signed64 (s.head.bz_grid_type ∷ s.head.d0 ∷ s.head.d1 ∷ s.head.d2 ∷ [])
  pub diag-fits : Each Signed64 (s.head.diag ∷ [])
  pub type-fits : Each Signed64 (s.head.tp_type ∷ [])
  pub bands-fit : Each Signed64 (s.head.num_band1 ∷ s.head.num_band2 ∷ [])
  pub diag-range : is_between 0 3 s.head.diag ≡ true
  pub addresses-fit : Each Signed64 s.addresses
  pub map-fits : Each Signed64 s.gp-map
  pub f1-fits : Each Pattern64 s.f1
  pub f2-fits : Each Pattern64 s.f2
  pub points-fit : Each Pattern64 s.points
  pub triplets-fit : Each Signed64 s.triplets
  pub whole-addresses : length s.addresses ≡ length s.addresses / 3 * 3
  pub whole-triplets : length s.triplets ≡ length s.triplets / 3 * 3
  pub short : length (printed s) ≤ 16384

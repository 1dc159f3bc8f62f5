-- The lines that stand once, and the last newline. Assumes nothing.
use mathlib.Core.Path.{◌≡◌}
use mathlib.Core.Bool.{true}
use mathlib.Core.List.{List}
use Prim.Native.Nat.{ℕ}
use lib.IntN.{ℤ}
use Rattle.list_laws.specs.Lists.{at}
use Rattle.list_laws.specs.Signed.{is_between}
use Rattle.sections.specs.Lines.{read, once, whole_field}
use Rattle.study_head.specs.Heads.{grid_tag, diag_tag, type_tag, bands_tag, head_from, head_part}

-- ---- the head

module _ (ls : List (List ℕ)) (g : List ℤ) (ls₁ : List (List ℕ)) (e : once whole_field grid_tag 4 ls ≡ read g ls₁) where
  module _ (d : List ℤ) (ls₂ : List (List ℕ)) (f : once whole_field diag_tag 1 ls₁ ≡ read d ls₂) where
    module _ (t : List ℤ) (ls₃ : List (List ℕ)) (h : once whole_field type_tag 1 ls₂ ≡ read t ls₃) where
      module _ (b : List ℤ) (ls₄ : List (List ℕ)) (k : once whole_field bands_tag 2 ls₃ ≡ read b ls₄) where
        pub head_read : is_between 0 3 (at d 0) ≡ true → head_part ls ≡ read (head_from g d t b) ls₄
        unfolding head_part
        head_read w = rw (e, f, h, k, w)

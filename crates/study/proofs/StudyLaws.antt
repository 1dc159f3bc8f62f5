-- The parts of a study, by what each section is. Assumes nothing.
use mathlib.Core.Path.{◌≡◌, ◌∙◌}
use mathlib.Core.Bool.{true, false}
use mathlib.Core.List.{List}
use Prim.Native.Nat.{ℕ, ◌≤◌, ◌<◌}
use lib.IntN.{ℤ}
use lib.ListN.{length}
use borrow.Author.Tests.{le-leb, lt-leb}
use lib.Dec.{eqb}
use Rattle.std.specs.Prelude.{Some, None}
use Rattle.text.specs.Pieces.{ended}
use Rattle.sections.specs.Lines.{read, wrong, rows, whole_field, pattern_field}
use Rattle.study_head.specs.declared.Head.{Head}
use Rattle.study_head.specs.Heads.{head_part, ends_line}
use Rattle.study.specs.Studies.{addr_tag, map_tag, f1_tag, f2_tag, point_tag, triplet_tag, grid_part, floats_part, whole, study_of_lines, study_in}

-- ---- addresses and map

module _ (ls : List (List ℕ)) where
  pub no-addresses : rows whole_field addr_tag 3 ls ≡ wrong → grid_part ls ≡ wrong
  unfolding grid_part
  no-addresses e = rw e

  module _ (a : List ℤ) (ls₁ : List (List ℕ)) (e : rows whole_field addr_tag 3 ls ≡ read a ls₁) where
    pub no-map : rows whole_field map_tag 1 ls₁ ≡ wrong → grid_part ls ≡ wrong
    unfolding grid_part
    no-map f = rw (e, f)

    pub grid-read : (m : List ℤ) (ls₂ : List (List ℕ)) → rows whole_field map_tag 1 ls₁ ≡ read m ls₂ → grid_part ls ≡ read (a, m) ls₂
    unfolding grid_part
    grid-read m ls₂ f = rw (e, f)

-- ---- floats

module _ (ls : List (List ℕ)) where
  pub no-f1 : rows pattern_field f1_tag 1 ls ≡ wrong → floats_part ls ≡ wrong
  unfolding floats_part
  no-f1 e = rw e

  module _ (a : List ℕ) (ls₁ : List (List ℕ)) (e : rows pattern_field f1_tag 1 ls ≡ read a ls₁) where
    pub no-f2 : rows pattern_field f2_tag 1 ls₁ ≡ wrong → floats_part ls ≡ wrong
    unfolding floats_part
    no-f2 f = rw (e, f)

    module _ (b : List ℕ) (ls₂ : List (List ℕ)) (f : rows pattern_field f2_tag 1 ls₁ ≡ read b ls₂) where
      pub no-points : rows pattern_field point_tag 1 ls₂ ≡ wrong → floats_part ls ≡ wrong
      unfolding floats_part
      no-points h = rw (e, f, h)

      pub floats-read : (p : List ℕ) (ls₃ : List (List ℕ)) → rows pattern_field point_tag 1 ls₂ ≡ read p ls₃ → floats_part ls ≡ read (a, b, p) ls₃
      unfolding floats_part
      floats-read p ls₃ h = rw (e, f, h)

-- ---- the whole

module _ (text : List ℕ) where
  pub too_long : 16384 < length text → study_in text ≡ None
  unfolding study_in
  too_long h = rw (lt-leb (length text) 16384 h)

  pub not-ended : length text ≤ 16384 → ends_line text ≡ false → study_in text ≡ None
  unfolding study_in
  not-ended l e = rw (le-leb (length text) 16384 l, e)

  module _ (l : length text ≤ 16384) (n : ends_line text ≡ true) where
    of-lines : study_in text ≡ study_of_lines (ended 10 text)
    unfolding study_in
    of-lines = rw (le-leb (length text) 16384 l, n)

    pub no-head : head_part (ended 10 text) ≡ wrong → study_in text ≡ None
    unfolding study_of_lines whole
    no-head e = of-lines ∙ rw e

    module _ (h : Head) (ls₁ : List (List ℕ)) (e : head_part (ended 10 text) ≡ read h ls₁) where
      pub no-grid-part : grid_part ls₁ ≡ wrong → study_in text ≡ None
      unfolding study_of_lines whole
      no-grid-part f = of-lines ∙ rw (e, f)

      module _ (g : List ℤ × List ℤ) (ls₂ : List (List ℕ)) (f : grid_part ls₁ ≡ read g ls₂) where
        pub no-floats-part : floats_part ls₂ ≡ wrong → study_in text ≡ None
        unfolding study_of_lines whole
        no-floats-part k = of-lines ∙ rw (e, f, k)

        module _ (v : List ℕ × List ℕ × List ℕ) (ls₃ : List (List ℕ)) (k : floats_part ls₂ ≡ read v ls₃) where
          pub no-triplets : rows whole_field triplet_tag 3 ls₃ ≡ wrong → study_in text ≡ None
          unfolding study_of_lines whole
          no-triplets w = of-lines ∙ rw (e, f, k, w)

          module _ (t : List ℤ) (ls₄ : List (List ℕ)) (w : rows whole_field triplet_tag 3 ls₃ ≡ read t ls₄) where
            pub more-lines : eqb (length ls₄) 0 ≡ false → study_in text ≡ None
            unfolding study_of_lines whole
            more-lines m = of-lines ∙ rw (e, f, k, w, m)

            pub study-read : eqb (length ls₄) 0 ≡ true → study_in text ≡ Some (record { head = h; addresses = g.0; gp-map = g.1; f1 = v.0; f2 = v.1; points = v.2; triplets = t })
            unfolding study_of_lines whole
            study-read m = of-lines ∙ rw (e, f, k, w, m)

-- what `grind` is given at a function
pub ruleset grid_laws = (no-addresses, no-map, grid-read)

pub ruleset floats_laws = (no-f1, no-f2, no-points, floats-read)

pub ruleset study_laws = (too_long, not-ended, no-head, no-grid-part, no-floats-part, no-triplets, more-lines, study-read)

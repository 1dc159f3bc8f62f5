-- Reading the text of a study gives the study back. Assumes nothing.
use Prim.Native.Nat.{ℕ, ◌*◌, ◌/◌}
use mathlib.Core.Path.{◌≡◌, refl, sym, ap, subst, ◌∙◌}
use mathlib.Core.Bool.{true, false}
use mathlib.Core.List.{List, [], ◌∷◌, ◌++◌, append-nil}
use native.Mathlib.Nat.{mul-one}
use lib.IntN.{ℤ}
use lib.ListN.{length}
use borrow.Author.Tests.{eq-eqb}
use Rattle.list_laws.specs.Lists.{Each}
use Rattle.text.specs.Pieces.{ended, same}
use Rattle.text.specs.Spelled.{signed, hexadecimal}
use Rattle.std.specs.Prelude.{Option, Some}
use Rattle.sections.specs.Lines.{read, rows, whole_field, pattern_field}
use Rattle.study.specs.Studies.{StudyText, study_in, grid_part, floats_part, addr_tag, map_tag, f1_tag, f2_tag, point_tag, triplet_tag}
use Rattle.study_head.specs.Heads.{ends_line, head_part, head_from, grid_tag, diag_tag, type_tag, bands_tag}
use Rattle.study_head.proofs.HeadLaws.{head_read}
use Rattle.study.proofs.StudyLaws.{grid-read, floats-read, study-read}
use Rattle.study_print.specs.Printed.{line, section, head_lines, study_lines, printed, Signed64, Pattern64, Printable}
use Rattle.study_print.proofs.LineLaws.{absent, AllSpell, Stops, once-read, section-read, stops_through, Clean, clean-append, clean_line, clean-section, lines-read, last_byte}
use Rattle.study_print.proofs.FieldLaws.{spells-signed, spells-pattern}

all-signed : (vs : List ℤ) → Each Signed64 vs → AllSpell whole_field signed vs
all-signed [] w = tt
all-signed (v ∷ vs) w = (spells-signed v w.0, all-signed vs w.1)

all-patterns : (vs : List ℕ) → Each Pattern64 vs → AllSpell pattern_field hexadecimal vs
all-patterns [] w = tt
all-patterns (v ∷ vs) w = (spells-pattern v w.0, all-patterns vs w.1)

singles : {A : Type 0} (vs : List A) → length vs ≡ length vs * 1
singles vs = sym (mul-one (length vs))

module _ (s : StudyText) (p : Printable s) where
  abbrev r₅ : List (List ℕ)
  r₅ = section hexadecimal point_tag 1 (length s.points) s.points ++ section signed triplet_tag 3 (length s.triplets / 3) s.triplets

  abbrev r₄ : List (List ℕ)
  r₄ = section hexadecimal f2_tag 1 (length s.f2) s.f2 ++ r₅

  abbrev r₃ : List (List ℕ)
  r₃ = section hexadecimal f1_tag 1 (length s.f1) s.f1 ++ r₄

  abbrev r₂ : List (List ℕ)
  r₂ = section signed map_tag 1 (length s.gp-map) s.gp-map ++ r₃

  abbrev r₁ : List (List ℕ)
  r₁ = section signed addr_tag 3 (length s.addresses / 3) s.addresses ++ r₂

  -- no line with an earlier tag follows
  module _ {A : Type 0} (field : List ℕ → Option A) (spell : A → List ℕ) (tag : List ℕ) (clean : absent 9 tag ≡ true) (d₆ : same triplet_tag tag ≡ false) where
    s₆ : Stops field spell tag clean (section signed triplet_tag 3 (length s.triplets / 3) s.triplets)
    unfolding absent
    s₆ = subst (Stops field spell tag clean) (append-nil (section signed triplet_tag 3 (length s.triplets / 3) s.triplets))
        (stops_through field spell tag clean signed triplet_tag refl whole_field d₆ (length s.triplets / 3) 2 s.triplets [] p.whole-triplets tt)

    module _ (d₅ : same point_tag tag ≡ false) where
      s₅ : Stops field spell tag clean r₅
      unfolding absent
      s₅ = stops_through field spell tag clean hexadecimal point_tag refl pattern_field d₅ (length s.points) 0 s.points _ (singles s.points) s₆

      module _ (d₄ : same f2_tag tag ≡ false) where
        s₄ : Stops field spell tag clean r₄
        unfolding absent
        s₄ = stops_through field spell tag clean hexadecimal f2_tag refl pattern_field d₄ (length s.f2) 0 s.f2 _ (singles s.f2) s₅

        module _ (d₃ : same f1_tag tag ≡ false) where
          s₃ : Stops field spell tag clean r₃
          unfolding absent
          s₃ = stops_through field spell tag clean hexadecimal f1_tag refl pattern_field d₃ (length s.f1) 0 s.f1 _ (singles s.f1) s₄

          s₂ : same map_tag tag ≡ false → Stops field spell tag clean r₂
          unfolding absent
          s₂ d₂ = stops_through field spell tag clean signed map_tag refl whole_field d₂ (length s.gp-map) 0 s.gp-map _ (singles s.gp-map) s₃

  -- the parts
  head-back : head_part (study_lines s) ≡ read s.head r₁
  unfolding absent study_lines head_lines head_from
  head-back =
      head_read (study_lines s)
      (s.head.bz_grid_type ∷ s.head.d0 ∷ s.head.d1 ∷ s.head.d2 ∷ []) (line signed diag_tag (s.head.diag ∷ []) ∷ line signed type_tag (s.head.tp_type ∷ []) ∷ line signed bands_tag (s.head.num_band1 ∷ s.head.num_band2 ∷ []) ∷ r₁) (once-read whole_field signed grid_tag refl s.head.bz_grid_type (s.head.d0 ∷ s.head.d1 ∷ s.head.d2 ∷ []) (line signed diag_tag (s.head.diag ∷ []) ∷ line signed type_tag (s.head.tp_type ∷ []) ∷ line signed bands_tag (s.head.num_band1 ∷ s.head.num_band2 ∷ []) ∷ r₁) (all-signed (s.head.bz_grid_type ∷ s.head.d0 ∷ s.head.d1 ∷ s.head.d2 ∷ []) p.grid-fits))
      (s.head.diag ∷ []) (line signed type_tag (s.head.tp_type ∷ []) ∷ line signed bands_tag (s.head.num_band1 ∷ s.head.num_band2 ∷ []) ∷ r₁) (once-read whole_field signed diag_tag refl s.head.diag [] (line signed type_tag (s.head.tp_type ∷ []) ∷ line signed bands_tag (s.head.num_band1 ∷ s.head.num_band2 ∷ []) ∷ r₁) (all-signed (s.head.diag ∷ []) p.diag-fits))
      (s.head.tp_type ∷ []) (line signed bands_tag (s.head.num_band1 ∷ s.head.num_band2 ∷ []) ∷ r₁) (once-read whole_field signed type_tag refl s.head.tp_type [] (line signed bands_tag (s.head.num_band1 ∷ s.head.num_band2 ∷ []) ∷ r₁) (all-signed (s.head.tp_type ∷ []) p.type-fits))
      (s.head.num_band1 ∷ s.head.num_band2 ∷ []) r₁ (once-read whole_field signed bands_tag refl s.head.num_band1 (s.head.num_band2 ∷ []) r₁ (all-signed (s.head.num_band1 ∷ s.head.num_band2 ∷ []) p.bands-fit))
      p.diag-range

  grid-back : grid_part r₁ ≡ read (s.addresses, s.gp-map) r₃
  unfolding absent same
  grid-back =
      grid-read r₁ s.addresses r₂ (section-read whole_field signed addr_tag refl (length s.addresses / 3) 2 s.addresses r₂ p.whole-addresses (all-signed s.addresses p.addresses-fit) (s₂ whole_field signed addr_tag refl refl refl refl refl refl))
      s.gp-map r₃ (section-read whole_field signed map_tag refl (length s.gp-map) 0 s.gp-map r₃ (singles s.gp-map) (all-signed s.gp-map p.map-fits) (s₃ whole_field signed map_tag refl refl refl refl refl))

  floats-back : floats_part r₃ ≡ read (s.f1, s.f2, s.points) (section signed triplet_tag 3 (length s.triplets / 3) s.triplets)
  unfolding absent same
  floats-back =
      floats-read r₃ s.f1 r₄ (section-read pattern_field hexadecimal f1_tag refl (length s.f1) 0 s.f1 r₄ (singles s.f1) (all-patterns s.f1 p.f1-fits) (s₄ pattern_field hexadecimal f1_tag refl refl refl refl))
      s.f2 r₅ (section-read pattern_field hexadecimal f2_tag refl (length s.f2) 0 s.f2 r₅ (singles s.f2) (all-patterns s.f2 p.f2-fits) (s₅ pattern_field hexadecimal f2_tag refl refl refl))
      s.points _ (section-read pattern_field hexadecimal point_tag refl (length s.points) 0 s.points _ (singles s.points) (all-patterns s.points p.points-fit) (s₆ pattern_field hexadecimal point_tag refl refl))

  triplets-back : rows whole_field triplet_tag 3 (section signed triplet_tag 3 (length s.triplets / 3) s.triplets) ≡ read s.triplets []
  unfolding absent
  triplets-back =
      ap (rows whole_field triplet_tag 3) (sym (append-nil (section signed triplet_tag 3 (length s.triplets / 3) s.triplets)))
      ∙ section-read whole_field signed triplet_tag refl (length s.triplets / 3) 2 s.triplets [] p.whole-triplets (all-signed s.triplets p.triplets-fit) tt

  all-clean : Clean (study_lines s)
  unfolding absent study_lines head_lines
  all-clean = (
    clean_line whole_field signed grid_tag refl (s.head.bz_grid_type ∷ s.head.d0 ∷ s.head.d1 ∷ s.head.d2 ∷ []) (all-signed (s.head.bz_grid_type ∷ s.head.d0 ∷ s.head.d1 ∷ s.head.d2 ∷ []) p.grid-fits),
    (
      clean_line whole_field signed diag_tag refl (s.head.diag ∷ []) (all-signed (s.head.diag ∷ []) p.diag-fits),
      (
        clean_line whole_field signed type_tag refl (s.head.tp_type ∷ []) (all-signed (s.head.tp_type ∷ []) p.type-fits),
        (
          clean_line whole_field signed bands_tag refl (s.head.num_band1 ∷ s.head.num_band2 ∷ []) (all-signed (s.head.num_band1 ∷ s.head.num_band2 ∷ []) p.bands-fit),
          (clean-append (section signed addr_tag 3 (length s.addresses / 3) s.addresses) r₂ (clean-section whole_field signed addr_tag refl 3 (length s.addresses / 3) s.addresses (all-signed s.addresses p.addresses-fit))
              (clean-append (section signed map_tag 1 (length s.gp-map) s.gp-map) r₃ (clean-section whole_field signed map_tag refl 1 (length s.gp-map) s.gp-map (all-signed s.gp-map p.map-fits))
              (clean-append (section hexadecimal f1_tag 1 (length s.f1) s.f1) r₄ (clean-section pattern_field hexadecimal f1_tag refl 1 (length s.f1) s.f1 (all-patterns s.f1 p.f1-fits))
              (clean-append (section hexadecimal f2_tag 1 (length s.f2) s.f2) r₅ (clean-section pattern_field hexadecimal f2_tag refl 1 (length s.f2) s.f2 (all-patterns s.f2 p.f2-fits))
              (clean-append (section hexadecimal point_tag 1 (length s.points) s.points) (section signed triplet_tag 3 (length s.triplets / 3) s.triplets) (clean-section pattern_field hexadecimal point_tag refl 1 (length s.points) s.points (all-patterns s.points p.points-fit))
              (clean-section whole_field signed triplet_tag refl 3 (length s.triplets / 3) s.triplets (all-signed s.triplets p.triplets-fit))))))),
        ),
      ),
    ),
  )

  ends : ends_line (printed s) ≡ true
  unfolding ends_line printed study_lines head_lines
  ends = eq-eqb _ 10 (last_byte _ _)

  cut-lines : ended 10 (printed s) ≡ study_lines s
  unfolding printed
  cut-lines = lines-read (study_lines s) all-clean

  -- printing and reading give the study back
  pub read-printed : study_in (printed s) ≡ Some s
  read-printed =
      study-read (printed s) p.short ends s.head r₁ (ap head_part cut-lines ∙ head-back) (s.addresses, s.gp-map) r₃ grid-back (s.f1, s.f2, s.points) _ floats-back
      s.triplets [] triplets-back refl

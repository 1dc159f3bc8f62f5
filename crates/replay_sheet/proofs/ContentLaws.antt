-- A sheet's content read, and held to the stored one, list by list. Assumes nothing.
use Prim.Native.Nat.{ℕ}
use mathlib.Core.Path.{◌≡◌, refl}
use mathlib.Core.Bool.{Bool, ◌&&◌}
use mathlib.Core.List.{List}
use lib.Dec.{eqb}
use lib.IntN.{ℤ, pos}
use lib.Ieee.{Float, nan}
use lib.ListN.{length}
use Rattle.list_laws.specs.Signed.{eq_z}
use Rattle.replay_compare.specs.Sameness.{same_bits}
use Rattle.replay_compare.proofs.AgreeLaws.{entries-below}
use Rattle.replay_input.specs.Fields.{after_count, bits_at, after_bits, real_at, real_from, whole_from, after_whole, flag_at, mark_at, field_place, value_from, agrees_from}
use Rattle.replay_input.specs.declared.reader.Reader.{Reader}
use Rattle.replay_sheet.specs.Content.{flag_from, mark_from, bits_from, same_weights, same_flags, same_marks, same_answers, same_counts, same_sheet, after_sheet}

-- ---- a list that agrees with the fields from a place on, by its places

module _ (text : List ℕ) (at : ℕ) where
  pub weights-agree : (w : List Float) → agrees_from same_bits w (value_from real_at after_bits text at) ≡ same_weights text at w
  unfolding agrees_from same_weights value_from real_at real_from
  weights-agree w = entries-below same_bits w _ nan

  pub flags-agree : (f : List ℤ) → agrees_from eq_z f (value_from flag_at after_whole text at) ≡ same_flags text at f
  unfolding agrees_from same_flags value_from flag_at flag_from whole_from
  flags-agree f = entries-below eq_z f _ (pos 0)

  pub marks-agree : (m : List ℕ) → agrees_from eqb m (value_from mark_at after_count text at) ≡ same_marks text at m
  unfolding agrees_from same_marks value_from mark_at mark_from
  marks-agree m = entries-below eqb m _ 0

  pub answers-agree : (a : List ℕ) → agrees_from eqb a (value_from bits_at after_bits text at) ≡ same_answers text at a
  unfolding agrees_from same_answers value_from bits_from
  answers-agree a = entries-below eqb a _ 0

  pub counts-agree : (t : List ℕ) → length t ≡ 16 → agrees_from eqb t (value_from bits_at after_bits text at) ≡ same_counts text at t
  unfolding same_answers same_counts
  counts-agree t e = rw (answers-agree t, e) refl

-- ---- a reader that moves on from list to list

module _ (r s t u : Reader) where
  pub sheet-same : (w : List Float) (f : List ℤ) (m : List ℕ) {a b d : Bool} → a ≡ agrees_from same_bits w (value_from real_at after_bits r.text.now r.at) → s ≡ record r { at = field_place (after_bits r.text.now) r.at (length w) }
      → b ≡ agrees_from eq_z f (value_from flag_at after_whole s.text.now s.at) → t ≡ record s { at = field_place (after_whole s.text.now) s.at (length f) }
      → d ≡ agrees_from eqb m (value_from mark_at after_count t.text.now t.at) → u ≡ record t { at = field_place (after_count t.text.now) t.at (length m) }
      → ((a && b) && d ≡ same_sheet r.text.now r.at w f m) × (u ≡ record r { at = after_sheet r.text.now r.at (length w) (length f) (length m) })
  unfolding same_sheet after_sheet
  sheet-same w f m e₁ g₁ e₂ g₂ e₃ g₃ =
      rw (g₃, e₃, marks-agree t.text.now t.at m, g₂, e₂, flags-agree s.text.now s.at f, g₁, e₁, weights-agree r.text.now r.at w) (refl, refl)

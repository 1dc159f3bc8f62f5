-- A reader that moves on over its text. Assumes nothing.
use Prim.Native.Nat.{ℕ, ◌+◌}
use mathlib.Core.Path.{◌≡◌, ◌∙◌, ap, refl}
use mathlib.Core.List.{List, [], ◌∷◌}
use lib.IntN.{ℤ}
use native.Mathlib.Numerals.{add-one}
use Rattle.replay_input.specs.Fields.{after_whole, field_place, value_from, whole_at, whole_from}
use Rattle.list_laws.specs.Lists.{tabulate}
use Rattle.replay_input.specs.declared.reader.Reader.{Reader}

-- a reader moved on twice is moved on
pub moved : (r s : Reader) {i j k : ℕ} → r ≡ record s { at = i } → j ≡ k → ◌≡◌ {A = Reader} (record r { at = j }) (record s { at = k })
moved r s e w = rw (e, w)

-- the next number that a reader gives, and where it is then
module _ {A : Type 0} (value : List ℕ → ℕ → A) (after : List ℕ → ℕ → ℕ) (r s : Reader) {t : Reader} (i : ℕ) {x : A} where
  pub filled-next : r ≡ record s { at = field_place (after s.text.now) s.at i } → x ≡ value r.text.now r.at → t ≡ record r { at = after r.text.now r.at }
      → (x ≡ value_from value after s.text.now s.at i) × (t ≡ record s { at = field_place (after s.text.now) s.at (i + 1) })
  unfolding value_from field_place
  filled-next e v w = (v ∙ ap (λ (q : Reader). value q.text.now q.at) e, rw add-one (w ∙ ap (λ (q : Reader). record q { at = after q.text.now q.at }) e))

-- three whole numbers, one after the other
pub three-wholes : (s : Reader) {p q r : Reader} {x y z : ℤ} → x ≡ whole_at s.text.now s.at → p ≡ record s { at = after_whole s.text.now s.at }
    → y ≡ whole_at p.text.now p.at → q ≡ record p { at = after_whole p.text.now p.at } → z ≡ whole_at q.text.now q.at → r ≡ record q { at = after_whole q.text.now q.at }
    → (x ∷ y ∷ z ∷ [] ≡ tabulate 3 (whole_from s.text.now s.at)) × (r ≡ record s { at = field_place (after_whole s.text.now) s.at 3 })
unfolding tabulate whole_from field_place
three-wholes s a b c d e f = rw (f, e, d, c, b, a) (refl, refl)

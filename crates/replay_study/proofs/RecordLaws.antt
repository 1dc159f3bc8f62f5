-- Records put together of the lists that were read one after the other. Assumes nothing.
use Prim.Native.Nat.{ℕ}
use mathlib.Core.Path.{◌≡◌, sym, ap, subst, ◌∙◌}
use mathlib.Core.List.{List}
use lib.IntN.{ℤ}
use lib.Ieee.{Float}
use lib.ListN.{length}
use Rattle.list_laws.specs.Lists.{tabulate}
use Rattle.replay_input.specs.Fields.{after_count, after_bits, whole_at, after_whole, field_place, whole_from, real_at, ListRead, WholesRead, RealsRead}
use Rattle.replay_input.specs.declared.reader.Reader.{Reader}
use Rattle.replay_input.proofs.FieldLaws.{wholes-read, reals-read}
use Rattle.replay_study.specs.Records.{after_list, grid_lists, GridRead, ValuesRead}

module _ (text : List ℕ) where
  wholes-end : (at n next : ℕ) (a b : List ℤ) → WholesRead text at a b n next → next ≡ after_list (after_whole text) text at (length a)
  unfolding WholesRead after_list
  wholes-end at n next a b h = h.1 ∙ ap (field_place (after_whole text) (after_count text at)) h.0

  reals-end : (at n next : ℕ) (a b : List Float) → RealsRead text at a b n next → next ≡ after_list (after_bits text) text at (length a)
  unfolding RealsRead after_list
  reals-end at n next a b h = h.1 ∙ ap (field_place (after_bits text) (after_count text at)) h.0

  pub grid-read : (at p q s n m next : ℕ) (kind : ℤ) (mesh a b u v : List ℤ) → kind ≡ whole_at text at → p ≡ after_whole text at
      → mesh ≡ tabulate 3 (whole_from text p) → q ≡ field_place (after_whole text) p 3
      → WholesRead text q a b n s → WholesRead text s u v m next → GridRead text at kind mesh a b n u v m next
  unfolding GridRead grid_lists
  grid-read at p q s n m next kind mesh a b u v e f g h one two = rw (sym f, sym h, sym (wholes-end q n s a b one)) (e, g, one, two)

  pub values-read : (at s t n m k next : ℕ) (a b u v x y : List Float) → RealsRead text at a b n s → RealsRead text s u v m t → RealsRead text t x y k next
      → ValuesRead text at a b n u v m x y k next
  unfolding ValuesRead
  values-read at s t n m k next a b u v x y one two three = rw (sym (reals-end at n s a b one), sym (reals-end s m t u v two)) (one, two, three)

-- ---- read by a reader, which moves on from list to list

-- a reader that moved on reads the same text
same-text : (r s : Reader) {i : ℕ} → r ≡ record s { at = i } → r.text.now ≡ s.text.now
same-text r s e = ap (λ (q : Reader). q.text.now) e

module _ (r₀ r₁ r₂ r₃ r₄ : Reader) where
  pub grid-is : (n m : ℕ) (kind : ℤ) (mesh a b u v : List ℤ) → kind ≡ whole_at r₀.text.now r₀.at → r₁ ≡ record r₀ { at = after_whole r₀.text.now r₀.at }
      → mesh ≡ tabulate 3 (whole_from r₁.text.now r₁.at) → r₂ ≡ record r₁ { at = field_place (after_whole r₁.text.now) r₁.at 3 }
      → ListRead whole_at after_whole r₂.text.now r₂.at a b n r₃.at → r₃ ≡ record r₂ { at = r₃.at }
      → ListRead whole_at after_whole r₃.text.now r₃.at u v m r₄.at → GridRead r₀.text.now r₀.at kind mesh a b n u v m r₄.at
  grid-is n m kind mesh a b u v k e₁ g e₂ one e₃ two =
      let t₁ : r₁.text.now ≡ r₀.text.now = same-text r₁ r₀ e₁ in
      let t₂ : r₂.text.now ≡ r₀.text.now = same-text r₂ r₁ e₂ ∙ t₁ in
      let t₃ : r₃.text.now ≡ r₀.text.now = same-text r₃ r₂ e₃ ∙ t₂ in
      let p : r₂.at ≡ field_place (after_whole r₀.text.now) r₁.at 3 = ap (λ (q : Reader). q.at) e₂ ∙ ap (λ (l : List ℕ). field_place (after_whole l) r₁.at 3) t₁ in
      grid-read r₀.text.now r₀.at r₁.at r₂.at r₃.at n m r₄.at kind mesh a b u v k (ap (λ (q : Reader). q.at) e₁)
      (g ∙ ap (λ (l : List ℕ). tabulate 3 (whole_from l r₁.at)) t₁) p
      (wholes-read _ _ _ _ _ _ (subst (λ (l : List ℕ). ListRead whole_at after_whole l r₂.at a b n r₃.at) t₂ one))
      (wholes-read _ _ _ _ _ _ (subst (λ (l : List ℕ). ListRead whole_at after_whole l r₃.at u v m r₄.at) t₃ two))

module _ (r₀ r₁ r₂ r₃ : Reader) where
  pub values-are : (n m k : ℕ) (a b u v x y : List Float) → ListRead real_at after_bits r₀.text.now r₀.at a b n r₁.at → r₁ ≡ record r₀ { at = r₁.at }
      → ListRead real_at after_bits r₁.text.now r₁.at u v m r₂.at → r₂ ≡ record r₁ { at = r₂.at }
      → ListRead real_at after_bits r₂.text.now r₂.at x y k r₃.at → ValuesRead r₀.text.now r₀.at a b n u v m x y k r₃.at
  values-are n m k a b u v x y one e₁ two e₂ three =
      let t₁ : r₁.text.now ≡ r₀.text.now = same-text r₁ r₀ e₁ in
      let t₂ : r₂.text.now ≡ r₀.text.now = same-text r₂ r₁ e₂ ∙ t₁ in
      values-read r₀.text.now r₀.at r₁.at r₂.at n m k r₃.at a b u v x y (reals-read _ _ _ _ _ _ one)
      (reals-read _ _ _ _ _ _ (subst (λ (l : List ℕ). ListRead real_at after_bits l r₁.at u v m r₂.at) t₁ two))
      (reals-read _ _ _ _ _ _ (subst (λ (l : List ℕ). ListRead real_at after_bits l r₂.at x y k r₃.at) t₂ three))

-- Lists that agree, entry by entry. Assumes nothing.
use mathlib.Core.Path.{◌≡◌, refl, ap, sym, ◌∙◌}
use mathlib.Core.Bool.{Bool, true, false, ◌&&◌}
use mathlib.Core.List.{List, [], ◌∷◌, ◌++◌}
use Prim.Native.Nat.{ℕ, zero, suc, ◌+◌, ◌<◌, ◌≤◌}
use native.Mathlib.Numerals.{add-one}
use native.Mathlib.Omega.{arith}
use lib.ListN.{length, get_or, take}
use lib.Seq.{length-take-le, take-length, take-suc}
use Rattle.list_laws.specs.Lists.{all_below, tabulate}
use Rattle.list_laws.proofs.FillLaws.{length-tabulate}
use Rattle.replay_compare.specs.Sameness.{entries_agree}

and-true : (a : Bool) → (a && true) ≡ a
and-true true = refl
and-true false = refl

and-assoc : (a b c : Bool) → (a && (b && c)) ≡ ((a && b) && c)
and-assoc true b c = refl
and-assoc false b c = refl

module _ {A : Type 0} (agrees : A → A → Bool) where
  -- an entry more at the end of both
  entries-more : (xs ys : List A) (x y : A) → length xs ≡ length ys → entries_agree agrees (xs ++ (x ∷ [])) (ys ++ (y ∷ [])) ≡ (entries_agree agrees xs ys && agrees x y)
  entries-more [] [] x y e = and-true (agrees x y)
  entries-more [] (b ∷ ys) x y e = absurd (omega (arith, e))
  entries-more (a ∷ xs) [] x y e = absurd (omega (arith, e))
  entries-more (a ∷ xs) (b ∷ ys) x y e =
      ap (λ (q : Bool). agrees a b && q) (entries-more xs ys x y (omega (arith, e))) ∙ and-assoc (agrees a b) (entries_agree agrees xs ys) (agrees x y)

  module _ (xs : List A) (f : ℕ → A) where
    -- the entries up to a place against f 0, f 1, ..
    entries-suc : (d : A) (i : ℕ) → i < length xs → entries_agree agrees (take (suc i) xs) (tabulate (suc i) f) ≡ (entries_agree agrees (take i xs) (tabulate i f) && agrees (get_or xs i d) (f i))
    unfolding tabulate
    entries-suc d i h =
        rw (take-suc xs i d h)
        (entries-more (take i xs) (tabulate i f) (get_or xs i d) (f i) (length-take-le i xs (omega (arith, h)) ∙ sym (length-tabulate i f)))

    pub entries-next : (i : ℕ) (x : A) {v : A} {ok this : Bool} → i < length xs → x ≡ get_or xs i x → v ≡ f i → ok ≡ entries_agree agrees (take i xs) (tabulate i f) → this ≡ agrees x v
        → (ok && this) ≡ entries_agree agrees (take (i + 1) xs) (tabulate (i + 1) f)
    entries-next i x h e w k t = rw (add-one, entries-suc x i h, ← e, k, t, w) refl

    pub entries-all : {i : ℕ} {ok : Bool} → length xs ≡ i → ok ≡ entries_agree agrees (take i xs) (tabulate i f) → ok ≡ entries_agree agrees xs (tabulate (length xs) f)
    entries-all {i} e k =
        k ∙ ap (λ (n : ℕ). entries_agree agrees (take n xs) (tabulate n f)) (sym e) ∙ ap (λ (l : List A). entries_agree agrees l (tabulate (length xs) f)) (take-length xs)

    front-below : (d : A) (n : ℕ) → n ≤ length xs → entries_agree agrees (take n xs) (tabulate n f) ≡ all_below n (λ k. agrees (get_or xs k d) (f k))
    unfolding tabulate all_below
    front-below d zero h = refl
    front-below d (suc n) h =
        entries-suc d n (omega (arith, h)) ∙ ap (λ (q : Bool). q && agrees (get_or xs n d) (f n)) (front-below d n (omega (arith, h)))

    -- by their places
    pub entries-below : (d : A) → entries_agree agrees xs (tabulate (length xs) f) ≡ all_below (length xs) (λ k. agrees (get_or xs k d) (f k))
    entries-below d =
        ap (λ (l : List A). entries_agree agrees l (tabulate (length xs) f)) (sym (take-length xs)) ∙ front-below d (length xs) (omega arith)

-- A text of pieces f 0, f 1, .. behind a front. Assumes nothing.
use Prim.Native.Nat.{ℕ, zero, suc, ◌+◌, ◌≤◌, ◌<◌}
use mathlib.Core.Path.{◌≡◌, refl, sym, ap, ◌∙◌}
use mathlib.Core.List.{List, ◌++◌, append_assoc}
use mathlib.Core.Logic.{◌⊎◌, inl, inr}
use native.Mathlib.Nat.{eq-or-lt_of_le}
use native.Mathlib.Numerals.{add-one}
use native.Mathlib.Omega.{arith}
use lib.ListN.{length, take, drop, length-append, length-take}
use lib.Seq.{take-append-le, take-append-add, take-length, take-take}
use Rattle.list_laws.specs.Lists.{rows}
use Rattle.reading.proofs.PassedLaws.{Stand, stand-second}

pub rows_ext : (n : ℕ) (f g : ℕ → List ℕ) → ((i : ℕ) → i < n → f i ≡ g i) → rows n f ≡ rows n g
unfolding rows
rows_ext zero f g h = refl
rows_ext (suc n) f g h = cc (rows_ext n f g (λ i l. h i (omega arith)), h n (omega arith))

-- pieces as long as others
pub rows_long : (n : ℕ) (f g : ℕ → List ℕ) → ((i : ℕ) → length (f i) ≡ length (g i)) → length (rows n f) ≡ length (rows n g)
unfolding rows
rows_long zero f g h = refl
rows_long (suc n) f g h = omega (arith, length-append (rows n f) (f n), length-append (rows n g) (g n), rows_long n f g h, h n)

-- the first pieces
pub rows_take : (f : ℕ → List ℕ) (n k : ℕ) → k ≤ n → take (length (rows k f)) (rows n f) ≡ rows k f
unfolding rows
rows_take f zero k h = let e : k ≡ 0 = omega arith in rw e refl
rows_take f (suc n) k h = go (eq-or-lt_of_le {n = k} {m = suc n} h) (rows_take f n k)
  where
    shorter : take (length (rows k f)) (rows n f) ≡ rows k f → length (rows k f) ≤ length (rows n f)
    shorter e = omega (arith, ap length e, length-take (length (rows k f)) (rows n f))

    go : (k ≡ suc n) ⊎ (k < suc n) → (k ≤ n → take (length (rows k f)) (rows n f) ≡ rows k f) → take (length (rows k f)) (rows n f ++ f n) ≡ rows k f
    go (inl e) r = rw e (take-length (rows n f ++ f n))
    go (inr l) r = take-append-le (length (rows k f)) (rows n f) (f n) (shorter (r (omega arith))) ∙ r (omega arith)

-- of pieces that stand somewhere, number k
pub rows-stand : (f : ℕ → List ℕ) (n k at : ℕ) (text : List ℕ) → Stand (rows n f) at text → k < n → Stand (f k) (at + length (rows k f)) text
unfolding rows
rows-stand f n k at text s h =
    stand-second (rows k f) (f k) at text
    (sym (take-take (length (rows (suc k) f)) (length (rows n f)) (drop at text) shorter) ∙ (ap (take (length (rows (suc k) f))) s ∙ rows_take f n (suc k) h))
  where
    shorter : length (rows (suc k) f) ≤ length (rows n f)
    shorter = omega (arith, ap length (rows_take f n (suc k) h), length-take (length (rows (suc k) f)) (rows n f))

module _ (front : List ℕ) (f : ℕ → List ℕ) where
  -- a front and pieces, and one piece more
  pub one_more_lem : (k : ℕ) → front ++ rows (k + 1) f ≡ front ++ rows k f ++ f k
  unfolding rows
  one_more_lem k = rw add-one (sym (append_assoc front (rows k f) (f k)))

  -- of the whole text the first pieces stand at its beginning
  pub front-stands : (n k : ℕ) (text : List ℕ) → text ≡ front ++ rows n f → k ≤ n → Stand (front ++ rows k f) 0 text
  front-stands n k text e h =
      rw e
      (ap (λ (j : ℕ). take j (front ++ rows n f)) (length-append front (rows k f))
      ∙ (take-append-add front (rows n f) (length (rows k f)) ∙ ap (λ (l : List ℕ). front ++ l) (rows_take f n k h)))

  -- and piece number k where they end
  pub piece-stands : (n k at : ℕ) (text : List ℕ) → text ≡ front ++ rows n f → k < n → at ≡ length (front ++ rows k f) → Stand (f k) at text
  piece-stands n k at text e h a =
      let s : Stand (front ++ rows k f ++ f k) 0 text = rw (one_more_lem k) at (front-stands n (k + 1) text e (omega arith)) in
      let z : at ≡ 0 + length (front ++ rows k f) = omega (arith, a) in
      rw z (stand-second (front ++ rows k f) (f k) 0 text s)

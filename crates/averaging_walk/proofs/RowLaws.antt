-- Rows of a square matrix: one that is filled with one value, one that is summed or searched by itself. Assumes nothing.
use mathlib.Core.Path.{◌≡◌, refl, sym, ap, ◌∙◌}
use mathlib.Core.List.{List, [], ◌∷◌, ◌++◌, append_assoc}
use Prim.Native.Nat.{ℕ, zero, suc, ◌+◌, ◌-◌, ◌*◌, ◌≤◌, ◌<◌}
use native.Mathlib.Numerals.{add-one}
use native.Mathlib.Omega.{arith}
use borrow.Rule.Slice.PartMut.{put_mid}
use lib.ListN.{length, get_or, set, take, drop, replicate, length-append, length-drop, get_or-append}
use lib.Seq.{get_or-take, get_or-drop, length-take-le, drop-cons}
use Rattle.std.proofs.lemmas.List.{get_or-append_right, get_or-replicate, length-replicate, replicate-append-replicate, set_at}
use Rattle.list_laws.specs.Matrix.{Filled}
use lib.Ieee.{Float, nan, binary64, add}
use lib.IntN.{ℤ, pos}
use mathlib.Core.Bool.{◌||◌}
use Rattle.list_laws.specs.Signed.{eq_z}
use Rattle.averaging_blocks.specs.Weights.{row_sum}
use Rattle.averaging_flags.specs.Flags.{row_has_zero}
use Rattle.list_laws.proofs.ProductLaws.{row-le}

module _ {A : Type 0} (d v : A) (m : List A) (from to : ℕ) (h : from ≤ to) (l : to ≤ length m) where
  pub filled-mid : (row : List A) → row ≡ replicate (to - from) v → length row ≡ to - from → Filled d from to v to m (put_mid from (to - from) m row)
  filled-mid row e mid =
      let wide : ℕ = to - from in
      let rest : List A = drop wide (drop from m) in
      let front : length (take from m) ≡ from = length-take-le from m (omega arith) in
      record {
        low = h;
        high = omega arith;
        same_length = omega (arith, length-append (take from m) (row ++ rest), length-append row rest, length-drop wide (drop from m), length-drop from m);
        before = λ k u. get_or-append (take from m) (row ++ rest) d k (omega arith) ∙ get_or-take from m k d u;
        inside = λ k u w.
            get_or-append_right (take from m) (row ++ rest) from k d front u
            ∙ get_or-append row rest d (k - from) (omega arith)
            ∙ ap (λ (ys : List A). get_or ys (k - from) d) e
            ∙ get_or-replicate wide (k - from) v d (omega arith);
        after = λ k u.
            get_or-append_right (take from m) (row ++ rest) from k d front (omega arith)
            ∙ get_or-append_right row rest wide (k - from) d mid (omega arith)
            ∙ get_or-drop wide (drop from m) (k - from - wide) d
            ∙ get_or-drop from m (wide + (k - from - wide)) d
            ∙ ap (λ (j : ℕ). get_or m j d) (omega arith);
      }

-- one entry more of a list becomes v
pub replicated-more : {A : Type 0} (v : A) (s : List A) (i : ℕ) → i < length s → set (replicate i v ++ drop i s) i v ≡ replicate (i + 1) v ++ drop (i + 1) s
replicated-more {A} v s i h =
    ap (λ (l : List A). set (replicate i v ++ l) i v) (drop-cons s i v h)
    ∙ set_at (replicate i v) (get_or s i v) (drop (suc i) s) v i (length-replicate i v)
    ∙ sym (append_assoc (replicate i v) (v ∷ []) (drop (suc i) s))
    ∙ ap (λ (l : List A). l ++ drop (suc i) s) (replicate-append-replicate i 1 v)
    ∙ ap (λ (k : ℕ). replicate (i + 1) v ++ drop k s) (sym (add-one i))

-- a row of a square matrix lies within it
pub row_within : {n r left right length : ℕ} → length ≡ n * n → r < n → left ≤ right → right ≤ n → (r * n + left ≤ r * n + right) × (r * n + right ≤ length)
row_within {n} e h u w = let inside = row-le n h in omega (arith, inside)

-- an entry of a part
part-entry : {A : Type 0} (d : A) (m : List A) (from wide k : ℕ) → k < wide → get_or (take wide (drop from m)) (0 + k) d ≡ get_or m (from + k) d
part-entry d m from wide k h =
    ap (λ (n : ℕ). get_or (take wide (drop from m)) n d) {x = 0 + k} {y = k} (omega arith) ∙ get_or-take wide (drop from m) k d h ∙ get_or-drop from m k d

-- the sum of the first k weights of a part
pub part-sum : (z : Float) (m : List Float) (from wide k : ℕ) → k ≤ wide → row_sum z (take wide (drop from m)) 0 k ≡ row_sum z m from k
unfolding row_sum
part-sum z m from wide zero h = refl
part-sum z m from wide (suc k) h =
    rw (part-sum z m from wide k (omega arith)) (ap (add binary64 (row_sum z m from k)) (part-entry nan m from wide k (omega arith)))

-- whether one of the first k flags of a part is 0
pub part-zero : (m : List ℤ) (from wide k : ℕ) → k ≤ wide → row_has_zero (take wide (drop from m)) 0 k ≡ row_has_zero m from k
unfolding row_has_zero
part-zero m from wide zero h = refl
part-zero m from wide (suc k) h =
    rw (part-zero m from wide k (omega arith)) (ap (λ (x : ℤ). row_has_zero m from k || eq_z x (pos 0)) (part-entry (pos 0) m from wide k (omega arith)))

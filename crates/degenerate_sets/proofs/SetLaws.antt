-- Laws of degenerate sets: what `end_of` and `start_of` are, that every place of a set has the same two, and which places are first. Assumes nothing.
use mathlib.Core.Path.{◌≡◌, refl, sym, ap, ◌∙◌, subst}
use mathlib.Core.Logic.{⊎_elim}
use mathlib.Core.Bool.{Bool, true, false, cond, true≢false}
use Prim.Native.Nat.{ℕ, zero, suc, ◌+◌, ◌-◌, ◌≤◌, ◌<◌}
use native.Mathlib.Nat.{add-suc, add-zero}
use native.Mathlib.Numerals.{add-one}
use native.Mathlib.Omega.{arith}
use Rattle.list_laws.specs.Lists.{first_at}
use Rattle.list_laws.proofs.BoolLaws.{true-or-false, lt-eq-gt, lt-or-le}
use Rattle.degenerate_sets.specs.Sets.{start_of, next_from, end_of}
use Rattle.degenerate_sets.specs.Blocks.{is_first}

-- what the place after the last of the set of b is
pub record Ends (p : ℕ → Bool) (n b e : ℕ) : Type 0 where
  pub after : b < e
  pub upto : e ≤ n
  pub none : (k : ℕ) → b < k → k < e → p k ≡ false
  pub stop : e < n → p e ≡ true

module _ (p : ℕ → Bool) where
  pub next-hit : (fuel k : ℕ) → p k ≡ true → next_from p fuel k ≡ k
  unfolding next_from
  next-hit zero k h = refl
  next-hit (suc fuel) k h = rw h

  pub next-miss : (fuel k : ℕ) → p k ≡ false → next_from p (suc fuel) k ≡ next_from p fuel (suc k)
  unfolding next_from
  next-miss fuel k h = rw h

  -- the first place from k on that starts a set, or the end
  pub next-found : (n fuel k : ℕ) → k + fuel ≡ n → first_at p k fuel n ≡ next_from p fuel k
  unfolding next_from first_at
  next-found n zero k h = omega arith
  next-found n (suc fuel) k h = ap (cond (p k) k) (next-found n fuel (suc k) (omega arith))

  pub end-first : (n b : ℕ) → end_of p n b ≡ next_from p (n - (b + 1)) (b + 1)
  unfolding end_of
  end-first n b = rw add-one

  next-ends : (n b fuel k : ℕ) → b < k → k + fuel ≡ n → ((j : ℕ) → b < j → j < k → p j ≡ false) → Ends p n b (next_from p fuel k)
  unfolding next_from
  next-ends n b zero k h e none =
      record { after = h; upto = omega arith; none = none; stop = λ l. absurd (omega arith) }
  next-ends n b (suc fuel) k h e none =
      ⊎_elim
      (λ hit. subst (λ (x : ℕ). Ends p n b x) (sym (next-hit (suc fuel) k hit))
      (record { after = h; upto = omega arith; none = none; stop = λ l. hit }))
      (λ miss. subst (λ (x : ℕ). Ends p n b x) (sym (next-miss fuel k miss))
      (next-ends n b fuel (suc k) (omega arith) (omega arith)
      (λ j l g. ⊎_elim (λ u. none j l u) (λ w. ⊎_elim (λ q. subst (λ (x : ℕ). p x ≡ false) (sym q) miss) (λ q. absurd (omega arith)) w) (lt-eq-gt j k))))
      (true-or-false (p k))

  pub ends : (n b : ℕ) → b < n → Ends p n b (end_of p n b)
  unfolding end_of
  ends n b h = next-ends n b (n - suc b) (suc b) (omega arith) (omega arith) (λ j l g. absurd (omega arith))

  -- there is one such place
  pub ends-unique : (n b d e : ℕ) → Ends p n b d → Ends p n b e → d ≡ e
  ends-unique n b d e x y =
      ⊎_elim
      (λ l. absurd (true≢false (sym (x.stop (omega (arith, y.upto))) ∙ y.none d x.after l)))
      (λ w. ⊎_elim (λ q. q) (λ l. absurd (true≢false (sym (y.stop (omega (arith, x.upto))) ∙ x.none e y.after l))) w)
      (lt-eq-gt d e)

  -- each place of a set ends where its first place does
  pub end_same : (n s b : ℕ) → s < n → s ≤ b → b < end_of p n s → end_of p n b ≡ end_of p n s
  end_same n s b h l g =
      let x = ends n s h in
      ends-unique n b (end_of p n b) (end_of p n s) (ends n b (omega (arith, x.upto)))
      (record { after = g; upto = x.upto; none = λ k u v. x.none k (omega arith) v; stop = x.stop })

  start-add : (s j : ℕ) → ((k : ℕ) → s < k → k < s + suc j → p k ≡ false) → start_of p (s + j) ≡ start_of p s
  unfolding start_of
  start-add s zero none = ap (start_of p) (add-zero s)
  start-add s (suc j) none =
      ap (start_of p) (add-suc s j)
      ∙ ap (λ (b : Bool). cond b (suc (s + j)) (start_of p (s + j))) (none (suc (s + j)) (omega arith) (omega arith))
      ∙ start-add s j (λ k u v. none k u (omega arith))

  -- each place of a set starts where its first place does
  pub start-same : (n s b : ℕ) → s < n → s ≤ b → b < end_of p n s → start_of p b ≡ start_of p s
  start-same n s b h l g =
      let x = ends n s h in
      let e : s + (b - s) ≡ b = omega arith in
      sym (ap (start_of p) e) ∙ start-add s (b - s) (λ k u v. x.none k u (omega arith))

  pub start-hit : (b : ℕ) → p b ≡ true → start_of p b ≡ b
  unfolding start_of
  start-hit zero h = refl
  start-hit (suc b) h = rw h

  start-zero : start_of p 0 ≡ 0
  unfolding start_of
  start-zero = refl

  pub start-le : (b : ℕ) → start_of p b ≤ b
  unfolding start_of
  start-le zero = omega arith
  start-le (suc b) =
      ⊎_elim (λ t. rw t (omega arith)) (λ t. rw t (omega (arith, start-le b))) (true-or-false (p (suc b)))

  -- a walk from set to set: bounds of the next start
  pub next-bounds : {n s e : ℕ} → s < n → e ≡ end_of p n s → (s < e) × (e ≤ n)
  next-bounds {n} {s} {e} h q = let x = ends n s h in omega (arith, x.after, x.upto)

  -- ---- the first place of a set

  -- no later place of the set, up to b, starts one
  start_none : (b k : ℕ) → start_of p b < k → k ≤ b → p k ≡ false
  unfolding start_of
  start_none zero k h l = absurd (omega arith)
  start_none (suc b) k h l =
      ⊎_elim
      (λ t. let h' : suc b < k = rw t at h in absurd (omega arith))
      (λ t.
      let h' : start_of p b < k = rw t at h in
      ⊎_elim (λ g. start_none b k h' (omega arith)) (λ g. let e : k ≡ suc b = omega arith in ap p e ∙ t) (lt-or-le k (suc b)))
      (true-or-false (p (suc b)))

  -- the first place of a set, by the test
  pub start_first : (b : ℕ) → is_first p (start_of p b) ≡ true
  unfolding start_of
  start_first zero = refl
  start_first (suc b) =
      ⊎_elim
      (λ t. let e : cond (p (suc b)) (suc b) (start_of p b) ≡ suc b = rw t in ap (is_first p) e ∙ t)
      (λ t. let e : cond (p (suc b)) (suc b) (start_of p b) ≡ start_of p b = rw t in ap (is_first p) e ∙ start_first b)
      (true-or-false (p (suc b)))

  pub first-start : (b : ℕ) → is_first p b ≡ true → start_of p b ≡ b
  first-start zero t = start-zero
  first-start (suc b) t = start-hit (suc b) t

  pub first-later : (b k : ℕ) → b < k → is_first p k ≡ p k
  first-later b zero h = absurd (omega arith)
  first-later b (suc k) h = refl

  -- the first place of a set is its own
  pub start-start : (b : ℕ) → start_of p (start_of p b) ≡ start_of p b
  unfolding start_of
  start-start zero = refl
  start-start (suc b) =
      ⊎_elim
      (λ t. let e : cond (p (suc b)) (suc b) (start_of p b) ≡ suc b = rw t in ap (start_of p) e ∙ start-hit (suc b) t ∙ sym e)
      (λ t. let e : cond (p (suc b)) (suc b) (start_of p b) ≡ start_of p b = rw t in ap (start_of p) e ∙ start-start b ∙ sym e)
      (true-or-false (p (suc b)))

  -- a walk from set to set: the end of a set is the first place of the next
  pub next-first : {n s e : ℕ} → s < n → e ≡ end_of p n s → e < n → is_first p e ≡ true
  next-first {n} {s} {e} h q l =
      let x = ends n s h in
      first-later s e (omega (arith, x.after)) ∙ subst (λ (k : ℕ). p k ≡ true) (sym q) (x.stop (omega arith))

  -- the set of the first place ends where the set of b does
  pub end-start : (n b : ℕ) → b < n → end_of p n (start_of p b) ≡ end_of p n b
  end-start n b h =
      let x = ends n b h in
      ends-unique n (start_of p b) (end_of p n (start_of p b)) (end_of p n b) (ends n (start_of p b) (omega (arith, start-le b)))
      (record {
        after = omega (arith, start-le b, x.after);
        upto = x.upto;
        none = λ k u v. ⊎_elim (λ g. x.none k g v) (λ g. start_none b k u g) (lt-or-le b k);
        stop = x.stop;
      })

-- The sets of an id list: they follow one another from the first band to the last, and each band is in exactly one. Assumes nothing.
use mathlib.Core.Path.{◌≡◌, refl, sym, ap, ◌∙◌, subst}
use mathlib.Core.Logic.{⊎_elim}
use mathlib.Core.Bool.{Bool, true, false, ◌&&◌}
use mathlib.Core.List.{List, [], ◌∷◌, ◌++◌, map, map-append}
use Prim.Native.Nat.{ℕ, zero, suc, ◌+◌, ◌≤◌, ◌<◌}
use native.Mathlib.Omega.{arith}
use lib.Dec.{leb, ltb, eqb}
use lib.IntN.{ℤ}
use borrow.Author.Tests.{ltb-true, leb-true, eqb-true, eqb-false, lt-ltb, le-ltb, le-leb}
use Rattle.list_laws.specs.Lists.{one_if, places_below, how_many, Each}
use Rattle.list_laws.proofs.BoolLaws.{and_left, and_right, true-or-false, lt-or-le}
use Rattle.list_laws.proofs.MapLaws.{count-ext}
use Rattle.list_laws.proofs.CountLaws.{count_none, count-one, many-map, many-places, places-next, each_map, each-place}
use Rattle.degenerate_sets.specs.Sets.{starts_at, start_of, end_of}
use Rattle.degenerate_sets.specs.Blocks.{DegenerateSet, degenerate_set, has_place, is_first, set_from, sets_below, sets_of, Follow}
use Rattle.degenerate_sets.proofs.SetLaws.{ends, start-same, end_same, start-le, start_first, first-start, first-later, next-first, end-start}

-- ---- the sets, by a test p

-- what each set of the list is
abbrev pub IsSet : (ℕ → Bool) → ℕ → DegenerateSet → Type 0
IsSet p n s = (s.start < n) × ((start_of p s.start ≡ s.start) × (s.end ≡ end_of p n s.start))

module _ (p : ℕ → Bool) (n : ℕ) where
  pub sets-are : Each (IsSet p n) (sets_below p n n)
  sets-are =
      each_map (IsSet p n) (set_from p n) (places_below n (is_first p))
      (each-place (λ k. IsSet p n (set_from p n k)) n (is_first p) (λ k l h. (l, (first-start p k h, refl))))

  -- the sets that start before the end of a set are those before it, and it
  pub sets-next : (s e : ℕ) → s < n → is_first p s ≡ true → e ≡ end_of p n s → sets_below p n e ≡ sets_below p n s ++ (degenerate_set s e ∷ [])
  sets-next s e h f q =
      let x = ends p n s h in
      ap (map (set_from p n)) (places-next (is_first p) s e f (omega (arith, x.after)) (λ k u v. first-later p s k u ∙ x.none k u (omega arith)))
      ∙ map-append (set_from p n) (places_below s (is_first p)) (s ∷ [])
      ∙ ap (λ (x : ℕ). sets_below p n s ++ (degenerate_set s x ∷ [])) (sym q)

-- the place k of a set: its first place and its end are the set's
pub set_own : (p : ℕ → Bool) (n k : ℕ) (s : DegenerateSet) → IsSet p n s → s.start ≤ k → k < s.end → (s.start ≡ start_of p k) × (s.end ≡ end_of p n k)
set_own p n k s x low high =
    let high' : k < end_of p n s.start = subst (λ (e : ℕ). k < e) x.1.1 high in (
      sym (start-same p n s.start k x.0 low high' ∙ x.1.0),
      x.1.1 ∙ sym (end_same p n s.start k x.0 low high'),
    )

-- ---- each place is in exactly one

module _ (p : ℕ → Bool) (n k s : ℕ) (l : k < n) (g : s < n) where
  -- the set that starts at s has the place k where s is the first place of the set of k
  start_has : eqb s (start_of p k) ≡ true → (is_first p s && (leb s k && ltb k (end_of p n s))) ≡ true
  start_has t =
      let e : s ≡ start_of p k = eqb-true s (start_of p k) t in
      let hit : is_first p s ≡ true = ap (is_first p) e ∙ start_first p k in
      let end : end_of p n s ≡ end_of p n k = ap (end_of p n) e ∙ end-start p n k l in
      let x = ends p n k l in
      rw (hit, le-leb s k (omega (arith, start-le p k)), lt-ltb k (end_of p n s) (omega (arith, x.after)))

  -- and only there
  has-start : (is_first p s && (leb s k && ltb k (end_of p n s))) ≡ true → s ≡ start_of p k
  has-start t =
      let both : (leb s k && ltb k (end_of p n s)) ≡ true = and_right (is_first p s) (leb s k && ltb k (end_of p n s)) t in
      let low : s ≤ k = leb-true s k (and_left (leb s k) (ltb k (end_of p n s)) both) in
      let high : k < end_of p n s = ltb-true k (end_of p n s) (and_right (leb s k) (ltb k (end_of p n s)) both) in
      sym (start-same p n s k g low high ∙ first-start p s (and_left (is_first p s) (leb s k && ltb k (end_of p n s)) t))

  has-is : (is_first p s && (leb s k && ltb k (end_of p n s))) ≡ eqb s (start_of p k)
  has-is =
      ⊎_elim
      (λ t. start_has t ∙ sym t)
      (λ t.
      ⊎_elim
      (λ u. absurd (eqb-false s (start_of p k) t (has-start u)))
      (λ u. u ∙ sym t)
      (true-or-false (is_first p s && (leb s k && ltb k (end_of p n s)))))
      (true-or-false (eqb s (start_of p k)))

-- a set has the place k where it starts at the first place of k's
pub has-place : (p : ℕ → Bool) (n k s : ℕ) → k < n → s < n → start_of p s ≡ s → (leb s k && ltb k (end_of p n s)) ≡ eqb s (start_of p k)
has-place p n k s l g e =
    let hit : is_first p s ≡ true = sym (ap (is_first p) e) ∙ start_first p s in
    ap (λ (b : Bool). b && (leb s k && ltb k (end_of p n s))) (sym hit) ∙ has-is p n k s l g

-- no set reaches past the last band
beyond : (p : ℕ → Bool) (n k s : ℕ) → n ≤ k → s < n → (is_first p s && (leb s k && ltb k (end_of p n s))) ≡ false
beyond p n k s h g =
    let x = ends p n s g in
    rw (le-ltb k (end_of p n s) (omega (arith, x.upto))) (neither (is_first p s) (leb s k))
  where
    neither : (a b : Bool) → (a && (b && false)) ≡ false
    neither true true = refl
    neither true false = refl
    neither false b = refl

-- the sets cover the bands: each band is in exactly one, and no other place is in any
pub sets-cover : (n : ℕ) (ids : List ℤ) (k : ℕ) → how_many (has_place k) (sets_of n ids) ≡ one_if (ltb k n)
sets-cover n ids k =
    let p : ℕ → Bool = starts_at ids in
    let own : ℕ → Bool = λ s. is_first p s && (leb s k && ltb k (end_of p n s)) in
    many-map (has_place k) (set_from p n) (places_below n (is_first p))
    ∙ many-places n (is_first p) (λ s. leb s k && ltb k (end_of p n s))
    ∙ ⊎_elim
    (λ l.
    count-ext n own (λ s. eqb s (start_of p k)) (λ s g. has-is p n k s l g)
    ∙ count-one n (start_of p k) (omega (arith, start-le p k))
    ∙ sym (ap one_if (lt-ltb k n l)))
    (λ l. count_none n own (λ s g. beyond p n k s l g) ∙ sym (ap one_if (le-ltb k n l)))
    (lt-or-le k n)

-- ---- in order

follow-more : (from mid to : ℕ) (sets : List DegenerateSet) → Follow from mid sets → mid < to → Follow from to (sets ++ (degenerate_set mid to ∷ []))
follow-more from mid to [] e h = (sym e, (omega arith, refl))
follow-more from mid to (s ∷ sets) e h = (e.0, (e.1.0, follow-more s.end mid to sets e.1.1 h))

module _ (p : ℕ → Bool) (n : ℕ) where
  -- one set more
  follow-next : (s : ℕ) → s < n → is_first p s ≡ true → Follow 0 s (sets_below p n s) → Follow 0 (end_of p n s) (sets_below p n (end_of p n s))
  follow-next s h f before =
      let x = ends p n s h in
      subst (λ (sets : List DegenerateSet). Follow 0 (end_of p n s) sets) (sym (sets-next p n s (end_of p n s) h f refl))
      (follow-more 0 s (end_of p n s) (sets_below p n s) before x.after)

  -- from set to set, up to the last
  follow-on : (fuel s : ℕ) → n ≤ s + fuel → s ≤ n → (s < n → is_first p s ≡ true) → Follow 0 s (sets_below p n s) → Follow 0 n (sets_below p n n)
  follow-on zero s far le f before =
      let e : s ≡ n = omega arith in subst (λ (x : ℕ). Follow 0 x (sets_below p n x)) e before
  follow-on (suc fuel) s far le f before =
      ⊎_elim
      (λ h.
      let x = ends p n s h in
      follow-on fuel (end_of p n s) (omega (arith, x.after)) x.upto (next-first p h refl) (follow-next s h (f h) before))
      (λ h. let e : s ≡ n = omega arith in subst (λ (x : ℕ). Follow 0 x (sets_below p n x)) e before)
      (lt-or-le s n)

-- the sets follow one another, from the first band to the last
pub sets-follow : (n : ℕ) (ids : List ℤ) → Follow 0 n (sets_of n ids)
unfolding places_below
sets-follow n ids = follow-on (starts_at ids) n n 0 (omega arith) (omega arith) (λ h. refl) refl

-- What is read was printed so: fields, lines, sections, and the lines of a text. Assumes nothing.
use Prim.Native.Nat.{ℕ, zero, suc, ◌+◌, ◌-◌, ◌*◌, ◌^◌, ◌≤◌, ◌<◌}
use mathlib.Core.Path.{◌≡◌, refl, sym, ap, subst, ◌∙◌}
use mathlib.Core.Bool.{Bool, true, false, cond}
use mathlib.Core.List.{List, [], ◌∷◌, ◌++◌, append-nil}
use native.Mathlib.Nat.{zero-mul, suc-mul}
use native.Mathlib.Numerals.{add-one}
use native.Mathlib.Omega.{arith}
use lib.Dec.{eqb, leb, ltb}
use lib.IntN.{ℤ}
use lib.ListN.{length, get_or, take, drop, length-append}
use lib.Seq.{take_at, drop_at}
use borrow.Author.Tests.{eqb-true, eqb-false, leb-true}
use Rattle.list_laws.specs.Lists.{Each}
use Rattle.list_laws.proofs.CountLaws.{each_append}
use Rattle.text.specs.Fields.{digit_of, value, bits}
use Rattle.text.specs.Pieces.{after, index, onto, cut_or, split, ended, split_from, same}
use Rattle.text.specs.Spelled.{signed, hexadecimal}
use Rattle.text.proofs.RoundTrip.{Text, plain, minus, whole-only, bits-only}
use Rattle.text.proofs.SpelledLaws.{decimal-is}
use Rattle.std.specs.Prelude.{Option, Some, None}
use Rattle.sections.specs.Lines.{front, next, values, tag_of, after_tag, Part, read, wrong, joined, rows, once, whole_field, pattern_field}
use Rattle.text.proofs.PieceLaws.{same-is}
use Rattle.study_print.specs.Printed.{fields, line, section, text_of, Signed64, Pattern64}

-- ---- one field

-- the field s spells v, and v has the property P
pub record Spelled {A : Type 0} (spell : A → List ℕ) (P : A → Type 0) (s : List ℕ) (v : A) : Type 0 where
  pub spelled : s ≡ spell v
  pub kept : P v

-- every field that is read spells its value
abbrev pub Only : {A : Type 0} → (List ℕ → Option A) → (A → List ℕ) → (A → Type 0) → Type 0
Only {A} field spell P = (s : List ℕ) (v : A) → field s ≡ Some v → Spelled spell P s v

text-is : (z : ℤ) (s : List ℕ) → Text z s → Spelled signed Signed64 s z
unfolding signed
text-is z s (plain {n} {k} h w) = record { spelled = decimal-is n k (omega arith) w; kept = h }
text-is z s (minus {n} {k} h w) = record { spelled = ap (λ (l : List ℕ). 45 ∷ l) (decimal-is (suc n) k (omega arith) w); kept = h }

pub only-signed : Only whole_field signed Signed64
only-signed s z e = text-is z s (whole-only s z e)

-- a number that is read is within the limit
value-limit : (base limit : ℕ) (s : List ℕ) (a m : ℕ) → value base limit s a ≡ Some m → m ≤ limit
unfolding value
value-limit base limit [] a m e = go (leb a limit) refl e
  where
    go : (t : Bool) → leb a limit ≡ t → cond t (Some a) None ≡ Some m → m ≤ limit
    go true l e = let q : a ≡ m = cc in omega (arith, leb-true a limit l, q)
    go false l e = absurd (let q : ◌≡◌ {A = ℕ} 0 1 = cc in omega arith)
value-limit base limit (b ∷ s) a m e = go (ltb (digit_of b) base) e (value-limit base limit s (a * base + digit_of b) m)
  where
    go : (t : Bool) → cond t (value base limit s (a * base + digit_of b)) None ≡ Some m → (value base limit s (a * base + digit_of b) ≡ Some m → m ≤ limit) → m ≤ limit
    go true e r = r e
    go false e r = absurd (let q : ◌≡◌ {A = ℕ} 0 1 = cc in omega arith)

bits_fit : (s : List ℕ) (n : ℕ) → bits s ≡ Some n → n < 2 ^ 64
unfolding bits
bits_fit s n e = go (eqb (length s) 16) e
  where
    go : (t : Bool) → cond t (value 16 (2 ^ 64 - 1) s 0) None ≡ Some n → n < 2 ^ 64
    go true e = omega (arith, value-limit 16 (2 ^ 64 - 1) s 0 n e)
    go false e = absurd (let q : ◌≡◌ {A = ℕ} 0 1 = cc in omega arith)

pub only-pattern : Only pattern_field hexadecimal Pattern64
unfolding hexadecimal
only-pattern s n e = record { spelled = bits-only s n e; kept = bits_fit s n e }

-- ---- a list cut at a byte is its pieces with that byte between

-- pieces with a tab before each
tabbed : List (List ℕ) → List ℕ
tabbed [] = []
tabbed (f ∷ fs) = 9 ∷ (f ++ tabbed fs)

tabbed-onto : (x : ℕ) (t : List ℕ) (ps : List (List ℕ)) → tabbed ps ≡ 9 ∷ t → tabbed (onto x ps) ≡ 9 ∷ (x ∷ t)
unfolding tabbed
tabbed-onto x t [] e = absurd (let q : ◌≡◌ {A = ℕ} 0 1 = cc in omega arith)
tabbed-onto x t (p ∷ ps) e = let q : p ++ tabbed ps ≡ t = cc in rw q

tabbed-split : (t : List ℕ) → tabbed (split 9 t) ≡ 9 ∷ t
unfolding tabbed split
tabbed-split [] = refl
tabbed-split (x ∷ t) = go (eqb x 9) refl (tabbed-split t)
  where
    go : (c : Bool) → eqb x 9 ≡ c → tabbed (split 9 t) ≡ 9 ∷ t → tabbed (cut_or c x (split 9 t)) ≡ 9 ∷ (x ∷ t)
    go true e r = cc (eqb-true x 9 e)
    go false e r = tabbed-onto x t (split 9 t) r

-- a list that has a byte, around the first of them
around : (b : ℕ) (s : List ℕ) → index b s < length s → s ≡ take (index b s) s ++ (b ∷ drop (suc (index b s)) s)
unfolding index
around b [] h = absurd (omega (arith, h))
around b (x ∷ s) h = go (eqb x b) refl h (around b s)
  where
    go : (c : Bool) → eqb x b ≡ c → after c (index b s) < suc (length s) → (index b s < length s → s ≡ take (index b s) s ++ (b ∷ drop (suc (index b s)) s))
        → x ∷ s ≡ take (after c (index b s)) (x ∷ s) ++ (b ∷ drop (suc (after c (index b s))) (x ∷ s))
    go true e h r = ap (λ (y : ℕ). y ∷ s) (eqb-true x b e)
    go false e h r = ap (λ (l : List ℕ). x ∷ l) (r (omega arith))

-- lines with a newline after each
text_of-onto : (x : ℕ) (ps : List (List ℕ)) → 0 < length ps → text_of (onto x ps) ≡ x ∷ text_of ps
unfolding text_of
text_of-onto x [] h = absurd (omega (arith, h))
text_of-onto x (p ∷ ps) h = refl

some-piece : (c : Bool) (x : ℕ) (ps : List (List ℕ)) → 0 < length (cut_or c x ps)
some-piece true x ps = omega arith
some-piece false x [] = omega arith
some-piece false x (p ∷ ps) = omega arith

some-line : (y : ℕ) (s : List ℕ) → 0 < length (ended 10 (y ∷ s))
unfolding ended
some-line y s = some-piece (eqb y 10) y (ended 10 s)

-- a text that ends with a newline is its lines
pub lines-only : (s : List ℕ) → (0 < length s → get_or s (length s - 1) 0 ≡ 10) → text_of (ended 10 s) ≡ s
unfolding text_of ended
lines-only [] h = refl
lines-only (x ∷ s) h = go s (eqb x 10) refl (let q : suc (length s) - 1 ≡ length s = omega arith in rw q at (h (omega arith))) (lines-only s)
  where
    go : (s : List ℕ) (c : Bool) → eqb x 10 ≡ c → get_or (x ∷ s) (length s) 0 ≡ 10 → ((0 < length s → get_or s (length s - 1) 0 ≡ 10) → text_of (ended 10 s) ≡ s) → text_of (cut_or c x (ended 10 s)) ≡ x ∷ s
    go [] true e h r = cc (eqb-true x 10 e)
    go [] false e h r = absurd (eqb-false x 10 e h)
    go (y ∷ s) true e h r =
        let q : suc (length s) - 1 ≡ length s = omega arith in
        cc (eqb-true x 10 e, r (λ l. rw q h))
    go (y ∷ s) false e h r =
        let q : suc (length s) - 1 ≡ length s = omega arith in
        text_of-onto x (ended 10 (y ∷ s)) (some-line y s) ∙ ap (λ (l : List ℕ). x ∷ l) (r (λ l. rw q h))

-- ---- lines and sections

-- each of n fields spells its value: together they are the printed fields
record AllSpelled {A : Type 0} (spell : A → List ℕ) (P : A → Type 0) (n : ℕ) (fs : List (List ℕ)) (vs : List A) : Type 0 where
  pub together : tabbed fs ≡ fields spell vs
  pub count : length vs ≡ n
  pub all-kept : Each P vs

-- the line l is that of vs
pub record Lined {A : Type 0} (spell : A → List ℕ) (P : A → Type 0) (tag : List ℕ) (n : ℕ) (l : List ℕ) (vs : List A) : Type 0 where
  pub lined : l ≡ line spell tag vs
  pub count : length vs ≡ n
  pub all-kept : Each P vs

-- the lines ls are k rows that hold vs, and the lines that are left
pub record Sectioned {A : Type 0} (spell : A → List ℕ) (P : A → Type 0) (tag : List ℕ) (n : ℕ) (ls : List (List ℕ)) (vs : List A) (rest : List (List ℕ)) : Type 0 where
  pub k : ℕ
  pub lines : ls ≡ section spell tag n k vs ++ rest
  pub count : length vs ≡ k * n
  pub all-kept : Each P vs

module _ {A : Type 0} (field : List ℕ → Option A) (spell : A → List ℕ) (P : A → Type 0) (only : Only field spell P) where
  values-only : (n : ℕ) (fs : List (List ℕ)) (vs : List A) → values field n fs ≡ Some vs → AllSpelled spell P n fs vs
  unfolding values next front fields tabbed
  values-only zero [] [] e = record { together = refl; count = refl; all-kept = tt }
  values-only zero [] (v ∷ vs) e = absurd (let q : ◌≡◌ {A = ℕ} 0 1 = cc in omega arith)
  values-only zero (f ∷ fs) vs e = absurd (let q : ◌≡◌ {A = ℕ} 0 1 = cc in omega arith)
  values-only (suc n) [] vs e = absurd (let q : ◌≡◌ {A = ℕ} 0 1 = cc in omega arith)
  values-only (suc n) (f ∷ fs) vs e = go (field f) refl (values field n fs) refl vs e (values-only n fs)
    where
      go : (g : Option A) → field f ≡ g → (r : Option (List A)) → values field n fs ≡ r → (vs : List A) → next g r ≡ Some vs → ((us : List A) → values field n fs ≡ Some us → AllSpelled spell P n fs us) → AllSpelled spell P (suc n) (f ∷ fs) vs
      go None p r q vs e i = absurd (let q : ◌≡◌ {A = ℕ} 0 1 = cc in omega arith)
      go (Some v) p None q vs e i = absurd (let q : ◌≡◌ {A = ℕ} 0 1 = cc in omega arith)
      go (Some v) p (Some us) q vs e i =
          let w : AllSpelled spell P n fs us = i us q in
          let s : Spelled spell P f v = only f v p in
          let m : v ∷ us ≡ vs = cc in
          subst (λ (l : List A). AllSpelled spell P (suc n) (f ∷ fs) l) m
          (record { together = cc (s.spelled, w.together); count = ap suc w.count; all-kept = (s.kept, w.all-kept) })

  -- a line with its tag, whose fields are read
  line-only : (tag : List ℕ) (n : ℕ) (l : List ℕ) (vs : List A) → same (tag_of l) tag ≡ true → values field (suc n) (after_tag l) ≡ Some vs → Lined spell P tag (suc n) l vs
  unfolding tag_of after_tag split_from line values
  line-only tag n l vs s e = go (leb (index 9 l + 1) (length l)) refl e
    where
      go : (c : Bool) → leb (index 9 l + 1) (length l) ≡ c → values field (suc n) (cond c (split 9 (drop (index 9 l + 1) l)) []) ≡ Some vs → Lined spell P tag (suc n) l vs
      go true h e =
          let w : AllSpelled spell P (suc n) (split 9 (drop (index 9 l + 1) l)) vs = values-only (suc n) (split 9 (drop (index 9 l + 1) l)) vs e in
          let f : 9 ∷ drop (index 9 l + 1) l ≡ fields spell vs = sym (tabbed-split (drop (index 9 l + 1) l)) ∙ w.together in
          let a : l ≡ take (index 9 l) l ++ (9 ∷ drop (index 9 l + 1) l) = rw add-one (around 9 l (omega (arith, leb-true (index 9 l + 1) (length l) h))) in
          record { lined = a ∙ cc (f, same-is (take (index 9 l) l) tag s); count = w.count; all-kept = w.all-kept }
      go false h e = absurd (let q : ◌≡◌ {A = ℕ} 0 1 = cc in omega arith)

  pub once-only : (tag : List ℕ) (n : ℕ) (l : List ℕ) (ls : List (List ℕ)) (vs : List A) (rest : List (List ℕ)) → once field tag (suc n) (l ∷ ls) ≡ read vs rest → (ls ≡ rest) × Lined spell P tag (suc n) l vs
  unfolding once joined
  once-only tag n l ls vs rest e = go (same (tag_of l) tag) refl (values field (suc n) (after_tag l)) refl e
    where
      go : (c : Bool) → same (tag_of l) tag ≡ c → (r : Option (List A)) → values field (suc n) (after_tag l) ≡ r → cond c (joined r (read [] ls)) wrong ≡ read vs rest → (ls ≡ rest) × Lined spell P tag (suc n) l vs
      go true s None q e = absurd (let q : ◌≡◌ {A = ℕ} 0 1 = cc in omega arith)
      go true s (Some us) q e = (cc, line-only tag n l vs s (q ∙ ap Some (let m : us ++ [] ≡ vs = cc in sym (append-nil us) ∙ m)))
      go false s r q e = absurd (let q : ◌≡◌ {A = ℕ} 0 1 = cc in omega arith)

  pub rows-only : (tag : List ℕ) (n : ℕ) (ls : List (List ℕ)) (vs : List A) (rest : List (List ℕ)) → rows field tag (suc n) ls ≡ read vs rest → Sectioned spell P tag (suc n) ls vs rest
  unfolding rows section joined
  rows-only tag n [] vs rest e =
      let m : [] ≡ vs = cc in
      subst (λ (v : List A). Sectioned spell P tag (suc n) [] v rest) m (record { k = 0; lines = cc; count = sym (zero-mul (suc n)); all-kept = tt })
  rows-only tag n (l ∷ ls) vs rest e = go (same (tag_of l) tag) refl (values field (suc n) (after_tag l)) refl (rows field tag (suc n) ls) refl vs e (rows-only tag n ls)
    where
      go : (c : Bool) → same (tag_of l) tag ≡ c → (r : Option (List A)) → values field (suc n) (after_tag l) ≡ r → (p : Part (List A)) → rows field tag (suc n) ls ≡ p → (vs : List A) → cond c (joined r p) (read [] (l ∷ ls)) ≡ read vs rest
          → ((us : List A) (rest' : List (List ℕ)) → rows field tag (suc n) ls ≡ read us rest' → Sectioned spell P tag (suc n) ls us rest') → Sectioned spell P tag (suc n) (l ∷ ls) vs rest
      go false s r q p f vs e i =
          let m : [] ≡ vs = cc in
          subst (λ (v : List A). Sectioned spell P tag (suc n) (l ∷ ls) v rest) m (record { k = 0; lines = cc; count = sym (zero-mul (suc n)); all-kept = tt })
      go true s None q p f vs e i = absurd (let q : ◌≡◌ {A = ℕ} 0 1 = cc in omega arith)
      go true s (Some us) q wrong f vs e i = absurd (let q : ◌≡◌ {A = ℕ} 0 1 = cc in omega arith)
      go true s (Some us) q (read ws rest') f vs e i =
          let w : Sectioned spell P tag (suc n) ls ws rest = i ws rest (f ∙ ap (read ws) (cc)) in
          let d : Lined spell P tag (suc n) l us = line-only tag n l us s q in
          let m : us ++ ws ≡ vs = cc in
          subst (λ (v : List A). Sectioned spell P tag (suc n) (l ∷ ls) v rest) m
          (record {
            k = suc w.k;
            lines = cc (d.lined, w.lines, take_at us ws (suc n) d.count, drop_at us ws (suc n) d.count);
            count = omega (arith, length-append us ws, d.count, w.count, suc-mul w.k (suc n));
            all-kept = each_append P us ws d.all-kept w.all-kept;
          })

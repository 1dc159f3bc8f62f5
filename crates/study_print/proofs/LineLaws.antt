-- What is printed is read back: fields, lines, sections, and the lines of a text. Assumes nothing.
use Prim.Native.Nat.{ℕ, zero, suc, ◌+◌, ◌-◌, ◌*◌}
use mathlib.Core.Path.{◌≡◌, refl, ap, subst, ◌∙◌}
use mathlib.Core.Bool.{Bool, true, false, cond}
use mathlib.Core.List.{List, [], ◌∷◌, ◌++◌, append-nil}
use native.Mathlib.Nat.{zero-mul, suc-mul}
use native.Mathlib.Omega.{arith}
use lib.Dec.{eqb}
use lib.ListN.{length, get_or, take, drop, length-append, length-drop, take-append-drop}
use lib.Seq.{take-append_seam, drop-append-add, length-take-le, get_or-append_seam, get_or-append-add}
use borrow.Author.Tests.{eq-eqb, le-leb}
use Rattle.text.specs.Pieces.{after, index, onto, cut_or, split, ended, split_from, same}
use Rattle.std.specs.Prelude.{Option, Some}
use Rattle.sections.specs.Lines.{front, next, values, tag_of, after_tag, read, joined, rows, once}
use Rattle.text.proofs.PieceLaws.{same-yes}
use Rattle.study_print.specs.Printed.{fields, line, section, text_of}

-- a byte does not stand in a list
unfoldable pub absent : ℕ → List ℕ → Bool
absent b [] = true
absent b (x ∷ s) = cond (eqb x b) false (absent b s)

-- ---- cutting at a byte

module _ (b : ℕ) where
  -- the index of a byte that stands behind a list without it
  pub index-behind : (s t : List ℕ) → absent b s ≡ true → index b (s ++ (b ∷ t)) ≡ length s
  unfolding absent index
  index-behind [] t e = rw (eq-eqb b b refl)
  index-behind (x ∷ s) t e = go (eqb x b) e (index-behind s t)
    where
      go : (c : Bool) → cond c false (absent b s) ≡ true → (absent b s ≡ true → index b (s ++ (b ∷ t)) ≡ length s) → after c (index b (s ++ (b ∷ t))) ≡ suc (length s)
      go true e r = absurd (let z : ◌≡◌ {A = ℕ} 0 1 = cc in omega arith)
      go false e r = ap suc (r e)

  -- the first piece, where a byte b ends it
  pub ended-front : (s t : List ℕ) → absent b s ≡ true → ended b (s ++ (b ∷ t)) ≡ s ∷ ended b t
  unfolding absent ended
  ended-front [] t e = rw (eq-eqb b b refl)
  ended-front (x ∷ s) t e = go (eqb x b) e (ended-front s t)
    where
      go : (c : Bool) → cond c false (absent b s) ≡ true → (absent b s ≡ true → ended b (s ++ (b ∷ t)) ≡ s ∷ ended b t) → cut_or c x (ended b (s ++ (b ∷ t))) ≡ (x ∷ s) ∷ ended b t
      go true e r = absurd (let z : ◌≡◌ {A = ℕ} 0 1 = cc in omega arith)
      go false e r = ap (onto x) (r e)

  pub split-front : (s t : List ℕ) → absent b s ≡ true → split b (s ++ (b ∷ t)) ≡ s ∷ split b t
  unfolding absent split
  split-front [] t e = rw (eq-eqb b b refl)
  split-front (x ∷ s) t e = go (eqb x b) e (split-front s t)
    where
      go : (c : Bool) → cond c false (absent b s) ≡ true → (absent b s ≡ true → split b (s ++ (b ∷ t)) ≡ s ∷ split b t) → cut_or c x (split b (s ++ (b ∷ t))) ≡ (x ∷ s) ∷ split b t
      go true e r = absurd (let z : ◌≡◌ {A = ℕ} 0 1 = cc in omega arith)
      go false e r = ap (onto x) (r e)

  pub split-last : (s : List ℕ) → absent b s ≡ true → split b s ≡ s ∷ []
  unfolding absent split
  split-last [] e = refl
  split-last (x ∷ s) e = go (eqb x b) e (split-last s)
    where
      go : (c : Bool) → cond c false (absent b s) ≡ true → (absent b s ≡ true → split b s ≡ s ∷ []) → cut_or c x (split b s) ≡ (x ∷ s) ∷ []
      go true e r = absurd (let z : ◌≡◌ {A = ℕ} 0 1 = cc in omega arith)
      go false e r = ap (onto x) (r e)

  pub absent-append : (s t : List ℕ) → absent b s ≡ true → absent b t ≡ true → absent b (s ++ t) ≡ true
  unfolding absent
  absent-append [] t e f = f
  absent-append (x ∷ s) t e f = go (eqb x b) e (λ k. absent-append s t k f)
    where
      go : (c : Bool) → cond c false (absent b s) ≡ true → (absent b s ≡ true → absent b (s ++ t) ≡ true) → cond c false (absent b (s ++ t)) ≡ true
      go true e r = e
      go false e r = r e

-- ---- values spelled so that their field gives them back

-- a printed value: no tab and no newline in it, and its field reads as it
pub record Spells {A : Type 0} (field : List ℕ → Option A) (spell : A → List ℕ) (v : A) : Type 0 where
  pub read_back : field (spell v) ≡ Some v
  pub no-tab : absent 9 (spell v) ≡ true
  pub no-newline : absent 10 (spell v) ≡ true

abbrev pub AllSpell : {A : Type 0} → (List ℕ → Option A) → (A → List ℕ) → List A → Type 0
AllSpell field spell [] = Unit
AllSpell field spell (v ∷ vs) = Spells field spell v × AllSpell field spell vs

pub all_take : {A : Type 0} (field : List ℕ → Option A) (spell : A → List ℕ) (n : ℕ) (vs : List A) → AllSpell field spell vs → AllSpell field spell (take n vs)
all_take field spell zero vs w = tt
all_take field spell (suc n) [] w = tt
all_take field spell (suc n) (v ∷ vs) w = (w.0, all_take field spell n vs w.1)

pub all_drop : {A : Type 0} (field : List ℕ → Option A) (spell : A → List ℕ) (n : ℕ) (vs : List A) → AllSpell field spell vs → AllSpell field spell (drop n vs)
all_drop field spell zero vs w = w
all_drop field spell (suc n) [] w = tt
all_drop field spell (suc n) (v ∷ vs) w = all_drop field spell n vs w.1

module _ {A : Type 0} (field : List ℕ → Option A) (spell : A → List ℕ) where
  -- the fields behind the first tab
  pub values-read : (v : A) (vs : List A) → AllSpell field spell (v ∷ vs) → values field (suc (length vs)) (split 9 (spell v ++ fields spell vs)) ≡ Some (v ∷ vs)
  unfolding values next front fields
  values-read v [] w = rw (append-nil (spell v), split-last 9 (spell v) w.0.no-tab, w.0.read_back)
  values-read v (u ∷ vs) w = rw (split-front 9 (spell v) (spell u ++ fields spell vs) w.0.no-tab, w.0.read_back, values-read u vs w.1)

  pub fields-no-newline : (vs : List A) → AllSpell field spell vs → absent 10 (fields spell vs) ≡ true
  unfolding fields absent
  fields-no-newline [] w = refl
  fields-no-newline (v ∷ vs) w = absent-append 10 (spell v) (fields spell vs) w.0.no-newline (fields-no-newline vs w.1)

  module _ (tag : List ℕ) (clean : absent 9 tag ≡ true) where
    pub tag_read : (v : A) (vs : List A) → tag_of (line spell tag (v ∷ vs)) ≡ tag
    unfolding tag_of line fields
    tag_read v vs = rw (index-behind 9 tag (spell v ++ fields spell vs) clean) (take-append_seam tag (9 ∷ (spell v ++ fields spell vs)))

    pub row_read : (v : A) (vs : List A) → AllSpell field spell (v ∷ vs) → values field (suc (length vs)) (after_tag (line spell tag (v ∷ vs))) ≡ Some (v ∷ vs)
    unfolding after_tag split_from line fields
    row_read v vs w =
        let t = spell v ++ fields spell vs in
        rw (index-behind 9 tag t clean, le-leb (length tag + 1) (length (tag ++ (9 ∷ t))) (omega (arith, length-append tag (9 ∷ t))), drop-append-add tag (9 ∷ t) 1) (values-read v vs w)

    -- a line that stands once
    pub once-read : (v : A) (vs : List A) (ls : List (List ℕ)) → AllSpell field spell (v ∷ vs) → once field tag (suc (length vs)) (line spell tag (v ∷ vs) ∷ ls) ≡ read (v ∷ vs) ls
    unfolding once joined
    once-read v vs ls w = rw (tag_read v vs, same-yes tag tag refl, row_read v vs w) (ap (λ (l : List A). read l ls) (append-nil (v ∷ vs)))

    -- no line with this tag follows
    abbrev pub Stops : List (List ℕ) → Type 0
    Stops [] = Unit
    Stops (l ∷ ls) = same (tag_of l) tag ≡ false

    rows-stop : (n : ℕ) (ls : List (List ℕ)) → Stops ls → rows field tag n ls ≡ read [] ls
    unfolding rows
    rows-stop n [] w = refl
    rows-stop n (l ∷ ls) w = rw w

    -- a section of k rows
    pub section-read : (k m : ℕ) (vs : List A) (ls : List (List ℕ)) → length vs ≡ k * suc m → AllSpell field spell vs → Stops ls → rows field tag (suc m) (section spell tag (suc m) k vs ++ ls) ≡ read vs ls
    unfolding rows section joined
    section-read zero m [] ls e w s = rows-stop (suc m) ls s
    section-read zero m (v ∷ vs) ls e w s = absurd (omega (arith, e, zero-mul (suc m)))
    section-read (suc k) m [] ls e w s = absurd (omega (arith, e, suc-mul k (suc m)))
    section-read (suc k) m (v ∷ vs) ls e w s =
        let l : m + k * suc m ≡ length vs = omega (arith, e, suc-mul k (suc m)) in
        let r : values field (suc m) (after_tag (line spell tag (v ∷ take m vs))) ≡ Some (v ∷ take m vs) =
        subst (λ (n : ℕ). values field (suc n) (after_tag (line spell tag (v ∷ take m vs))) ≡ Some (v ∷ take m vs)) (length-take-le m vs (omega (arith, l))) (row_read v (take m vs) (w.0, all_take field spell m vs w.1)) in
        rw (tag_read v (take m vs), same-yes tag tag refl, r, section-read k m (drop m vs) ls (omega (arith, l, length-drop m vs)) (all_drop field spell m vs w.1) s)
        (ap (λ (x : List A). read (v ∷ x) ls) (take-append-drop m vs))

-- a tag that does not stop at a section of another tag
pub stops_through : {A B : Type 0} (field : List ℕ → Option A) (spell : A → List ℕ) (tag : List ℕ) (clean : absent 9 tag ≡ true) (other : B → List ℕ) (tag' : List ℕ) (clean' : absent 9 tag' ≡ true) (field' : List ℕ → Option B) → same tag' tag ≡ false
    → (k m : ℕ) (vs : List B) (ls : List (List ℕ)) → length vs ≡ k * suc m → Stops field spell tag clean ls → Stops field spell tag clean (section other tag' (suc m) k vs ++ ls)
unfolding section
stops_through field spell tag clean other tag' clean' field' d zero m vs ls e s = s
stops_through field spell tag clean other tag' clean' field' d (suc k) m [] ls e s = absurd (omega (arith, e, suc-mul k (suc m)))
stops_through field spell tag clean other tag' clean' field' d (suc k) m (v ∷ vs) ls e s = ap (λ (x : List ℕ). same x tag) (tag_read field' other tag' clean' v (take m vs)) ∙ d

-- ---- the lines of a text

-- no newline within a line
abbrev pub Clean : List (List ℕ) → Type 0
Clean [] = Unit
Clean (l ∷ ls) = (absent 10 l ≡ true) × Clean ls

pub clean-append : (ls ks : List (List ℕ)) → Clean ls → Clean ks → Clean (ls ++ ks)
clean-append [] ks c d = d
clean-append (l ∷ ls) ks c d = (c.0, clean-append ls ks c.1 d)

pub clean_line : {A : Type 0} (field : List ℕ → Option A) (spell : A → List ℕ) (tag : List ℕ) → absent 10 tag ≡ true → (vs : List A) → AllSpell field spell vs → absent 10 (line spell tag vs) ≡ true
unfolding line
clean_line field spell tag t vs w = absent-append 10 tag (fields spell vs) t (fields-no-newline field spell vs w)

pub clean-section : {A : Type 0} (field : List ℕ → Option A) (spell : A → List ℕ) (tag : List ℕ) → absent 10 tag ≡ true → (n k : ℕ) (vs : List A) → AllSpell field spell vs → Clean (section spell tag n k vs)
unfolding section
clean-section field spell tag t n zero vs w = tt
clean-section field spell tag t n (suc k) vs w =
    (clean_line field spell tag t (take n vs) (all_take field spell n vs w), clean-section field spell tag t n k (drop n vs) (all_drop field spell n vs w))

-- the text of lines is cut into these lines
pub lines-read : (ls : List (List ℕ)) → Clean ls → ended 10 (text_of ls) ≡ ls
unfolding ended text_of
lines-read [] c = refl
lines-read (l ∷ ls) c = ended-front 10 l (text_of ls) c.0 ∙ ap (λ (x : List (List ℕ)). l ∷ x) (lines-read ls c.1)

-- and ends with a newline
pub last_byte : (l : List ℕ) (ls : List (List ℕ)) → get_or (text_of (l ∷ ls)) (length (text_of (l ∷ ls)) - 1) 0 ≡ 10
unfolding text_of
last_byte l [] =
    let q : length (l ++ (10 ∷ [])) - 1 ≡ length l = omega (arith, length-append l (10 ∷ [])) in
    rw q (get_or-append_seam l 10 [] 0)
last_byte l (k ∷ ls) =
    let t = text_of (k ∷ ls) in
    let p : length t ≡ length k + suc (length (text_of ls)) = length-append k (10 ∷ text_of ls) in
    let q : length (l ++ (10 ∷ t)) - 1 ≡ length l + suc (length t - 1) = omega (arith, p, length-append l (10 ∷ t)) in
    rw q (get_or-append-add l (10 ∷ t) (suc (length t - 1)) 0 ∙ last_byte k ls)

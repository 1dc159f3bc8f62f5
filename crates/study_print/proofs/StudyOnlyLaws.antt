-- A text that holds a study is that study printed, and the study can be printed. With `read-printed`: a text is well formed exactly when it is the
-- printing of a study. Assumes nothing.
use Prim.Native.Nat.{ℕ, suc, ◌-◌, ◌*◌, ◌/◌, ◌≤◌}
use mathlib.Core.Path.{◌≡◌, refl, sym, ap, subst, ◌∙◌}
use mathlib.Core.Bool.{Bool, true, false, cond, ◌&&◌}
use mathlib.Core.List.{List, [], ◌∷◌, ◌++◌, append-nil}
use native.Mathlib.Nat.{mul-one}
use native.Mathlib.Omega.{arith}
use lib.Dec.{eqb, leb}
use lib.IntN.{ℤ}
use lib.ListN.{length, get_or}
use borrow.Author.Tests.{eqb-true, ne_eqb, leb-true}
use Rattle.list_laws.specs.Lists.{Each}
use Rattle.list_laws.specs.Lists.{at}
use Rattle.list_laws.specs.Signed.{is_between}
use Rattle.text.specs.Pieces.{ended}
use Rattle.text.specs.Spelled.{signed, hexadecimal}
use Rattle.std.specs.Prelude.{Option, Some, None}
use Rattle.sections.specs.Lines.{Part, read, wrong, and_then, rows, once, whole_field, pattern_field}
use Rattle.study_head.specs.declared.Head.{Head}
use Rattle.study.specs.Studies.{StudyText, whole, study_in, study_of_lines, grid_part, floats_part, addr_tag, map_tag, f1_tag, f2_tag, point_tag, triplet_tag}
use Rattle.study_head.specs.Heads.{ends_line, head_part, head_from, grid_tag, diag_tag, type_tag, bands_tag}
use Rattle.study_print.specs.Printed.{line, section, text_of, head_lines, study_lines, printed, Signed64, Pattern64, Printable}
use Rattle.study_print.proofs.StudyTextLaws.{read-printed}
use Rattle.study_print.proofs.OnlyLaws.{Only, only-signed, only-pattern, lines-only, once-only, Sectioned, rows-only}

-- ---- parts one after another

-- what the first part gave, and what the rest made of it
record Went {A B : Type 0} (p : Part A) (f : A → List (List ℕ) → Part B) (b : B) (rest : List (List ℕ)) : Type 0 where
  pub value : A
  pub left : List (List ℕ)
  pub first : p ≡ read value left
  pub second : f value left ≡ read b rest

went : {A B : Type 0} (p : Part A) (f : A → List (List ℕ) → Part B) (b : B) (rest : List (List ℕ)) → and_then p f ≡ read b rest → Went p f b rest
went wrong f b rest e = absurd (let q : ◌≡◌ {A = ℕ} 0 1 = cc in omega arith)
went (read a ls) f b rest e = record { value = a; left = ls; first = refl; second = e }

-- a line that stands once, and the lines after it
record Single (tag : List ℕ) (n : ℕ) (ls : List (List ℕ)) (vs : List ℤ) (rest : List (List ℕ)) : Type 0 where
  pub lines : ls ≡ line signed tag vs ∷ rest
  pub count : length vs ≡ n
  pub fit : Each Signed64 vs

single : (tag : List ℕ) (n : ℕ) (ls : List (List ℕ)) (vs : List ℤ) (rest : List (List ℕ)) → once whole_field tag (suc n) ls ≡ read vs rest → Single tag (suc n) ls vs rest
unfolding once
single tag n [] vs rest e = absurd (let q : ◌≡◌ {A = ℕ} 0 1 = cc in omega arith)
single tag n (l ∷ ls) vs rest e =
    let o : _ = once-only whole_field signed Signed64 only-signed tag n l ls vs rest e in
    record { lines = cc (o.0, o.1.lined); count = o.1.count; fit = o.1.all-kept }

one-of : (g : List ℤ) → length g ≡ 1 → g ≡ at g 0 ∷ []
one-of [] e = absurd (omega (arith, e))
one-of (a ∷ []) e = refl
one-of (a ∷ b ∷ g) e = absurd (omega (arith, e))

two-of : (g : List ℤ) → length g ≡ 2 → g ≡ at g 0 ∷ at g 1 ∷ []
two-of [] e = absurd (omega (arith, e))
two-of (a ∷ []) e = absurd (omega (arith, e))
two-of (a ∷ b ∷ []) e = refl
two-of (a ∷ b ∷ c ∷ g) e = absurd (omega (arith, e))

four-of : (g : List ℤ) → length g ≡ 4 → g ≡ at g 0 ∷ at g 1 ∷ at g 2 ∷ at g 3 ∷ []
four-of [] e = absurd (omega (arith, e))
four-of (a ∷ []) e = absurd (omega (arith, e))
four-of (a ∷ b ∷ []) e = absurd (omega (arith, e))
four-of (a ∷ b ∷ c ∷ []) e = absurd (omega (arith, e))
four-of (a ∷ b ∷ c ∷ d ∷ []) e = refl
four-of (a ∷ b ∷ c ∷ d ∷ x ∷ g) e = absurd (omega (arith, e))

-- ---- the head

record HeadOnly (h : Head) (ls rest : List (List ℕ)) : Type 0 where
  pub lines : ls ≡ head_lines h ++ rest
  pub grid-fits : Each Signed64 (h.bz_grid_type ∷ h.d0 ∷ h.d1 ∷ h.d2 ∷ [])
  pub diag-fits : Each Signed64 (h.diag ∷ [])
  pub type-fits : Each Signed64 (h.tp_type ∷ [])
  pub bands-fit : Each Signed64 (h.num_band1 ∷ h.num_band2 ∷ [])
  pub diag-range : is_between 0 3 h.diag ≡ true

-- from its four lines
module _ (g d t b : List ℤ) (ls l₁ l₂ l₃ l₄ : List (List ℕ)) (p : Single grid_tag 4 ls g l₁) (q : Single diag_tag 1 l₁ d l₂) (r : Single type_tag 1 l₂ t l₃) (u : Single bands_tag 2 l₃ b l₄) where
  of-four-lines : is_between 0 3 (at d 0) ≡ true → HeadOnly (head_from g d t b) ls l₄
  unfolding head_from head_lines
  of-four-lines w =
      let g' : _ = four-of g p.count in
      let d' : _ = one-of d q.count in
      let t' : _ = one-of t r.count in
      let b' : _ = two-of b u.count in
      record {
        lines = cc (p.lines, q.lines, r.lines, u.lines);
        grid-fits = subst (Each Signed64) g' p.fit;
        diag-fits = subst (Each Signed64) d' q.fit;
        type-fits = subst (Each Signed64) t' r.fit;
        bands-fit = subst (Each Signed64) b' u.fit;
        diag-range = w;
      }

head-only : (h : Head) (ls rest : List (List ℕ)) → head_part ls ≡ read h rest → HeadOnly h ls rest
unfolding head_part
head-only h ls rest e =
    let a : _ = went (once whole_field grid_tag 4 ls) _ h rest e in
    let b : _ = went (once whole_field diag_tag 1 a.left) _ h rest a.second in
    let c : _ = went (once whole_field type_tag 1 b.left) _ h rest b.second in
    let d : _ = went (once whole_field bands_tag 2 c.left) _ h rest c.second in
    go a.value b.value c.value d.value a.left b.left c.left d.left
    (single grid_tag 3 ls a.value a.left a.first) (single diag_tag 0 a.left b.value b.left b.first)
    (single type_tag 0 b.left c.value c.left c.first) (single bands_tag 1 c.left d.value d.left d.first)
    (is_between 0 3 (at b.value 0)) refl d.second
  where
    go : (g d t b : List ℤ) (l₁ l₂ l₃ l₄ : List (List ℕ)) → Single grid_tag 4 ls g l₁ → Single diag_tag 1 l₁ d l₂ → Single type_tag 1 l₂ t l₃ → Single bands_tag 2 l₃ b l₄
        → (w : Bool) → is_between 0 3 (at d 0) ≡ w → cond w (read (head_from g d t b) l₄) wrong ≡ read h rest → HeadOnly h ls rest
    go g d t b l₁ l₂ l₃ l₄ p q r u true v e =
        let m : head_from g d t b ≡ h = cc in
        let k : l₄ ≡ rest = cc in
        subst (λ (x : Head). HeadOnly x ls rest) m (subst (λ (x : List (List ℕ)). HeadOnly (head_from g d t b) ls x) k (of-four-lines g d t b ls l₁ l₂ l₃ l₄ p q r u v))
    go g d t b l₁ l₂ l₃ l₄ p q r u false v e = absurd (let q : ◌≡◌ {A = ℕ} 0 1 = cc in omega arith)

-- ---- sections

-- rows of three, and rows of one
by_three : (n k : ℕ) → n ≡ k * 3 → k ≡ n / 3
by_three n k e = omega arith

by_one : (n k : ℕ) → n ≡ k * 1 → k ≡ n
by_one n k e = omega (arith, e, mul-one k)

record WholeSection (tag : List ℕ) (ls : List (List ℕ)) (vs : List ℤ) (rest : List (List ℕ)) : Type 0 where
  pub lines : ls ≡ section signed tag 3 (length vs / 3) vs ++ rest
  pub whole-triples : length vs ≡ length vs / 3 * 3
  pub fit : Each Signed64 vs

triples : (tag : List ℕ) (ls : List (List ℕ)) (vs : List ℤ) (rest : List (List ℕ)) → rows whole_field tag 3 ls ≡ read vs rest → WholeSection tag ls vs rest
triples tag ls vs rest e =
    let w : Sectioned signed Signed64 tag 3 ls vs rest = rows-only whole_field signed Signed64 only-signed tag 2 ls vs rest e in
    let q : w.k ≡ length vs / 3 = by_three (length vs) w.k w.count in
    record {
      lines = w.lines ∙ ap (λ (k : ℕ). section signed tag 3 k vs ++ rest) q;
      whole-triples = omega (arith, w.count);
      fit = w.all-kept;
    }

record SingleSection {A : Type 0} (spell : A → List ℕ) (P : A → Type 0) (tag : List ℕ) (ls : List (List ℕ)) (vs : List A) (rest : List (List ℕ)) : Type 0 where
  pub lines : ls ≡ section spell tag 1 (length vs) vs ++ rest
  pub fit : Each P vs

singles : {A : Type 0} (field : List ℕ → Option A) (spell : A → List ℕ) (P : A → Type 0) → Only field spell P → (tag : List ℕ) (ls : List (List ℕ)) (vs : List A) (rest : List (List ℕ)) → rows field tag 1 ls ≡ read vs rest → SingleSection spell P tag ls vs rest
singles field spell P only tag ls vs rest e =
    let w : Sectioned spell P tag 1 ls vs rest = rows-only field spell P only tag 0 ls vs rest e in
    record { lines = w.lines ∙ ap (λ (k : ℕ). section spell tag 1 k vs ++ rest) (by_one (length vs) w.k w.count); fit = w.all-kept }

record GridOnly (a m : List ℤ) (ls rest : List (List ℕ)) : Type 0 where
  pub left : List (List ℕ)
  pub addresses : WholeSection addr_tag ls a left
  pub gp-map : SingleSection signed Signed64 map_tag left m rest

grid-only : (g : List ℤ × List ℤ) (ls rest : List (List ℕ)) → grid_part ls ≡ read g rest → GridOnly g.0 g.1 ls rest
unfolding grid_part
grid-only g ls rest e =
    let a : _ = went (rows whole_field addr_tag 3 ls) _ g rest e in
    let m : _ = went (rows whole_field map_tag 1 a.left) _ g rest a.second in
    let f : read (a.value, m.value) m.left ≡ read g rest = m.second in
    let v : (a.value, m.value) ≡ g = cc in
    let w : m.left ≡ rest = cc in
    subst (λ (x : List ℤ × List ℤ). GridOnly x.0 x.1 ls rest) v
    (record {
      left = a.left;
      addresses = triples addr_tag ls a.value a.left a.first;
      gp-map = singles whole_field signed Signed64 only-signed map_tag a.left m.value rest (m.first ∙ ap (read m.value) w);
    })

record FloatsOnly (f1 f2 points : List ℕ) (ls rest : List (List ℕ)) : Type 0 where
  pub left₁ : List (List ℕ)
  pub left₂ : List (List ℕ)
  pub first : SingleSection hexadecimal Pattern64 f1_tag ls f1 left₁
  pub second : SingleSection hexadecimal Pattern64 f2_tag left₁ f2 left₂
  pub pointed : SingleSection hexadecimal Pattern64 point_tag left₂ points rest

floats-only : (f : List ℕ × List ℕ × List ℕ) (ls rest : List (List ℕ)) → floats_part ls ≡ read f rest → FloatsOnly f.0 f.1 f.2 ls rest
unfolding floats_part
floats-only f ls rest e =
    let a : _ = went (rows pattern_field f1_tag 1 ls) _ f rest e in
    let b : _ = went (rows pattern_field f2_tag 1 a.left) _ f rest a.second in
    let p : _ = went (rows pattern_field point_tag 1 b.left) _ f rest b.second in
    let z : read (a.value, b.value, p.value) p.left ≡ read f rest = p.second in
    let v : (a.value, b.value, p.value) ≡ f = cc in
    let w : p.left ≡ rest = cc in
    subst (λ (x : List ℕ × List ℕ × List ℕ). FloatsOnly x.0 x.1 x.2 ls rest) v
    (record {
      left₁ = a.left;
      left₂ = b.left;
      first = singles pattern_field hexadecimal Pattern64 only-pattern f1_tag ls a.value a.left a.first;
      second = singles pattern_field hexadecimal Pattern64 only-pattern f2_tag a.left b.value b.left b.first;
      pointed = singles pattern_field hexadecimal Pattern64 only-pattern point_tag b.left p.value rest (p.first ∙ ap (read p.value) w);
    })

-- ---- the study

whole-only : (p : Part StudyText) (s : StudyText) → whole p ≡ Some s → p ≡ read s []
unfolding whole
whole-only wrong s e = absurd (let q : ◌≡◌ {A = ℕ} 0 1 = cc in omega arith)
whole-only (read t []) s e = cc
whole-only (read t (l ∷ ls)) s e =
    let n : eqb (suc (length ls)) 0 ≡ false = ne_eqb (suc (length ls)) 0 (λ z. omega (arith, z)) in
    absurd (let q : ◌≡◌ {A = ℕ} 0 1 = cc in omega arith)

-- all of `Printable` but the bound on the length
record LinesOnly (s : StudyText) (ls : List (List ℕ)) : Type 0 where
  pub left : List (List ℕ)
  pub lines : ls ≡ study_lines s
  pub head : HeadOnly s.head ls left
  pub addresses-fit : Each Signed64 s.addresses
  pub map-fits : Each Signed64 s.gp-map
  pub f1-fits : Each Pattern64 s.f1
  pub f2-fits : Each Pattern64 s.f2
  pub points-fit : Each Pattern64 s.points
  pub triplets-fit : Each Signed64 s.triplets
  pub whole-addresses : length s.addresses ≡ length s.addresses / 3 * 3
  pub whole-triplets : length s.triplets ≡ length s.triplets / 3 * 3

-- part after part
in_order : (s : StudyText) (l₀ l₁ l₂ l₃ l₄ l₅ l₆ : List (List ℕ)) → l₀ ≡ head_lines s.head ++ l₁ → l₁ ≡ section signed addr_tag 3 (length s.addresses / 3) s.addresses ++ l₂ → l₂ ≡ section signed map_tag 1 (length s.gp-map) s.gp-map ++ l₃
    → l₃ ≡ section hexadecimal f1_tag 1 (length s.f1) s.f1 ++ l₄ → l₄ ≡ section hexadecimal f2_tag 1 (length s.f2) s.f2 ++ l₅ → l₅ ≡ section hexadecimal point_tag 1 (length s.points) s.points ++ l₆
    → l₆ ≡ section signed triplet_tag 3 (length s.triplets / 3) s.triplets ++ [] → l₀ ≡ study_lines s
unfolding study_lines
in_order s l₀ l₁ l₂ l₃ l₄ l₅ l₆ a b c d e f g =
    rw (a, b, c, d, e, f, g, append-nil (section signed triplet_tag 3 (length s.triplets / 3) s.triplets))

study-lines : (s : StudyText) (ls : List (List ℕ)) → study_of_lines ls ≡ Some s → LinesOnly s ls
unfolding study_of_lines
study-lines s ls e =
    let h : _ = went (head_part ls) _ s [] (whole-only _ s e) in
    let g : _ = went (grid_part h.left) _ s [] h.second in
    let f : _ = went (floats_part g.left) _ s [] g.second in
    let t : _ = went (rows whole_field triplet_tag 3 f.left) _ s [] f.second in
    let r : StudyText = record { head = h.value; addresses = g.value.0; gp-map = g.value.1; f1 = f.value.0; f2 = f.value.1; points = f.value.2; triplets = t.value } in
    let z : read r t.left ≡ read s [] = t.second in
    let v : r ≡ s = cc in
    let w : t.left ≡ [] = cc in
    let ho : HeadOnly h.value ls h.left = head-only h.value ls h.left h.first in
    let go : GridOnly g.value.0 g.value.1 h.left g.left = grid-only g.value h.left g.left g.first in
    let fo : FloatsOnly f.value.0 f.value.1 f.value.2 g.left f.left = floats-only f.value g.left f.left f.first in
    let to : WholeSection triplet_tag f.left t.value [] = triples triplet_tag f.left t.value [] (t.first ∙ ap (read t.value) w) in
    subst (λ (x : StudyText). LinesOnly x ls) v
    (record {
      left = h.left;
      lines = in_order r ls h.left go.left g.left fo.left₁ fo.left₂ f.left ho.lines go.addresses.lines go.gp-map.lines fo.first.lines fo.second.lines fo.pointed.lines to.lines;
      head = ho;
      addresses-fit = go.addresses.fit;
      map-fits = go.gp-map.fit;
      f1-fits = fo.first.fit;
      f2-fits = fo.second.fit;
      points-fit = fo.pointed.fit;
      triplets-fit = to.fit;
      whole-addresses = go.addresses.whole-triples;
      whole-triplets = to.whole-triples;
    })

-- the text is the study's, and the study can be printed
pub record PrintedOnly (text : List ℕ) (s : StudyText) : Type 0 where
  pub text-is : text ≡ printed s
  pub printable : Printable s

module _ (text : List ℕ) (s : StudyText) (l : length text ≤ 16384) (n : ends_line text ≡ true) (w : LinesOnly s (ended 10 text)) where
  spelled : text ≡ printed s
  unfolding printed ends_line
  spelled = sym (lines-only text (λ h. eqb-true (get_or text (length text - 1) 0) 10 n)) ∙ ap text_of w.lines

  of-lines : PrintedOnly text s
  of-lines = record {
    text-is = spelled;
    printable = record {
      grid-fits = w.head.grid-fits;
      diag-fits = w.head.diag-fits;
      type-fits = w.head.type-fits;
      bands-fit = w.head.bands-fit;
      diag-range = w.head.diag-range;
      addresses-fit = w.addresses-fit;
      map-fits = w.map-fits;
      f1-fits = w.f1-fits;
      f2-fits = w.f2-fits;
      points-fit = w.points-fit;
      triplets-fit = w.triplets-fit;
      whole-addresses = w.whole-addresses;
      whole-triplets = w.whole-triplets;
      short = omega (arith, l, ap length spelled);
    };
  }

-- reading and printing give the text back
pub printed-only : (text : List ℕ) (s : StudyText) → study_in text ≡ Some s → PrintedOnly text s
unfolding study_in
printed-only text s e = go (leb (length text) 16384) (ends_line text) refl refl e
  where
    go : (a b : Bool) → leb (length text) 16384 ≡ a → ends_line text ≡ b → cond (a && b) (study_of_lines (ended 10 text)) None ≡ Some s → PrintedOnly text s
    go true true p q e = of-lines text s (leb-true (length text) 16384 p) q (study-lines s (ended 10 text) e)
    go true false p q e = absurd (let q : ◌≡◌ {A = ℕ} 0 1 = cc in omega arith)
    go false b p q e = absurd (let q : ◌≡◌ {A = ℕ} 0 1 = cc in omega arith)

-- a text is well formed exactly when it is the printing of a study, and the study is then the one that it holds
pub exactly-printed : (text : List ℕ) (s : StudyText) → (study_in text ≡ Some s → PrintedOnly text s) × (PrintedOnly text s → study_in text ≡ Some s)
exactly-printed text s = (printed-only text s, λ p. ap study_in p.text-is ∙ read-printed s p.printable)

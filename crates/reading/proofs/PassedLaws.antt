-- Passing over pieces one after another is passing over them at once. Assumes nothing.
use Prim.Native.Nat.{ℕ, suc, ◌+◌, ◌≤◌, ◌<◌}
use mathlib.Core.Path.{◌≡◌, refl, sym, ap, ◌∙◌}
use mathlib.Core.Bool.{Bool, true, false, cond}
use mathlib.Core.List.{List, [], ◌∷◌, ◌++◌}
use mathlib.Core.Logic.{◌⊎◌, inl, inr}
use native.Mathlib.Omega.{arith}
use lib.ListN.{length, get_or, take, drop, length-append, length-drop}
use lib.Seq.{take_all, take-nil, take-add, take-take, drop-drop, drop-cons, take-append_seam, drop-append_seam, take-length, get_or-drop, get_or-take}
use Rattle.list_laws.proofs.BoolLaws.{clash, lt-or-le}
use Rattle.text.specs.Pieces.{same}
use Rattle.text.proofs.FieldLaws.{drop_past}
use Rattle.text.proofs.PieceLaws.{same-yes, same-is, same-no}
use Rattle.reading.specs.Passed.{stands, passed}

-- the bytes stand in the text from index `at` on
abbrev pub Stand : List ℕ → ℕ → List ℕ → Type 0
Stand bytes at text = take (length bytes) (drop at text) ≡ bytes

-- they stand there, or something else does
abbrev pub Either : List ℕ → ℕ → List ℕ → Type 0
Either bytes at text = (Stand bytes at text × (passed bytes at text ≡ at + length bytes)) ⊎ ((Stand bytes at text → ⊥) × (passed bytes at text ≡ length text + 1))

module _ (bytes : List ℕ) (at : ℕ) (text : List ℕ) where
  pub passed-yes : Stand bytes at text → at + length bytes ≡ passed bytes at text
  unfolding passed stands
  passed-yes e = rw (same-yes (take (length bytes) (drop at text)) bytes e)

  pub passed-no : (Stand bytes at text → ⊥) → length text + 1 ≡ passed bytes at text
  unfolding passed stands
  passed-no n = rw (same-no (take (length bytes) (drop at text)) bytes n)

  pub passed-either : Either bytes at text
  unfolding passed stands
  passed-either = go (same (take (length bytes) (drop at text)) bytes) refl
    where
      go : (t : Bool) → same (take (length bytes) (drop at text)) bytes ≡ t
          → (Stand bytes at text × (cond t (at + length bytes) (length text + 1) ≡ at + length bytes)) ⊎ ((Stand bytes at text → ⊥) × (cond t (at + length bytes) (length text + 1) ≡ length text + 1))
      go true e = inl (same-is (take (length bytes) (drop at text)) bytes e, refl)
      go false e = inr ((λ s. clash (sym e ∙ same-yes (take (length bytes) (drop at text)) bytes s)), refl)

  -- what stands there has room
  pub stand-room : Stand bytes at text → (length bytes ≡ 0) ⊎ (at + length bytes ≤ length text)
  stand-room e = go (lt-or-le (length (drop at text)) (length bytes))
    where
      go : (length (drop at text) < length bytes) ⊎ (length bytes ≤ length (drop at text)) → (length bytes ≡ 0) ⊎ (at + length bytes ≤ length text)
      go (inl l) = absurd (omega (arith, l, ap length (sym (take_all (length bytes) (drop at text) (omega arith)) ∙ e)))
      go (inr l) = last (lt-or-le at (length text)) l
        where
          last : (at < length text) ⊎ (length text ≤ at) → length bytes ≤ length (drop at text) → (length bytes ≡ 0) ⊎ (at + length bytes ≤ length text)
          last (inl h) l = inr (omega (arith, l, length-drop at text))
          last (inr h) l = inl (omega (arith, l, length-drop at text))

  -- an index within the text is behind the bytes
  pub passed-in : passed bytes at text ≤ length text → Stand bytes at text × (passed bytes at text ≡ at + length bytes)
  passed-in h = go passed-either
    where
      go : Either bytes at text → Stand bytes at text × (passed bytes at text ≡ at + length bytes)
      go (inl y) = y
      go (inr n) = absurd (omega (arith, n.1, h))

  -- no room for them
  pub no-room : length text < at + length bytes → at ≤ length text → Stand bytes at text → ⊥
  no-room h l s = go (stand-room s)
    where
      go : (length bytes ≡ 0) ⊎ (at + length bytes ≤ length text) → ⊥
      go (inl e) = omega (arith, e, h, l)
      go (inr e) = omega (arith, e, h)

-- behind the end nothing stands
pub lost-stays : (bytes : List ℕ) (at : ℕ) (text : List ℕ) → at ≡ length text + 1 → length text + 1 ≡ passed bytes at text
lost-stays bytes at text p = go (passed-either bytes at text)
  where
    go : Either bytes at text → length text + 1 ≡ passed bytes at text
    go (inl y) =
        let e : bytes ≡ [] = sym y.0 ∙ ap (take (length bytes)) (drop_past text at (omega arith)) ∙ take-nil (length bytes) in
        omega (arith, y.1, ap length e)
    go (inr n) = sym n.1

-- two pieces, one behind the other
module _ (a b : List ℕ) (at : ℕ) (text : List ℕ) where
  both-parts : take (length (a ++ b)) (drop at text) ≡ take (length a) (drop at text) ++ take (length b) (drop (at + length a) text)
  both-parts =
      ap (λ (k : ℕ). take k (drop at text)) (length-append a b)
      ∙ (take-add (length a) (length b) (drop at text)
      ∙ ap (λ (l : List ℕ). take (length a) (drop at text) ++ take (length b) l) (drop-drop (length a) at text))

  pub stand-both : Stand a at text → Stand b (at + length a) text → Stand (a ++ b) at text
  stand-both e f = both-parts ∙ cc (e, f)

  pub stand-first : Stand (a ++ b) at text → Stand a at text
  stand-first e =
      sym (take-take (length a) (length (a ++ b)) (drop at text) (omega (arith, length-append a b)))
      ∙ (ap (take (length a)) e ∙ take-append_seam a b)

  pub stand-second : Stand (a ++ b) at text → Stand b (at + length a) text
  stand-second e =
      let f : a ++ take (length b) (drop (at + length a) text) ≡ a ++ b = ap (λ (l : List ℕ). l ++ take (length b) (drop (at + length a) text)) (sym (stand-first e)) ∙ (sym both-parts ∙ e) in
      sym (drop-append_seam a (take (length b) (drop (at + length a) text))) ∙ (ap (drop (length a)) f ∙ drop-append_seam a b)

  pub passed-append : passed (a ++ b) at text ≡ passed b (passed a at text) text
  passed-append = go (passed-either a at text)
    where
      second : passed a at text ≡ at + length a → Stand a at text → Either b (at + length a) text
          → passed (a ++ b) at text ≡ passed b (at + length a) text
      second q s (inl y) = sym (passed-yes (a ++ b) at text (stand-both s y.0)) ∙ omega (arith, y.1, length-append a b)
      second q s (inr n) = sym (passed-no (a ++ b) at text (λ w. n.0 (stand-second w))) ∙ sym n.1

      go : Either a at text → passed (a ++ b) at text ≡ passed b (passed a at text) text
      go (inl y) = rw y.1 (second y.1 y.0 (passed-either b (at + length a) text))
      go (inr n) = sym (passed-no (a ++ b) at text (λ w. n.0 (stand-first w))) ∙ lost-stays b (passed a at text) text n.1

-- a piece, and behind it one that depends on where it begins
pub passed_then : (a : List ℕ) (g : ℕ → List ℕ) (at p q : ℕ) (text : List ℕ) → p ≡ passed a at text → q ≡ passed (g p) p text
    → q ≡ passed (a ++ g (at + length a)) at text
passed_then a g at p q text e f = f ∙ (go (passed-either a at text) ∙ sym (passed-append a (g (at + length a)) at text))
  where
    go : Either a at text → passed (g p) p text ≡ passed (g (at + length a)) (passed a at text) text
    go (inl y) = let h : p ≡ at + length a = e ∙ y.1 in rw (h, y.1)
    go (inr n) = sym (lost-stays (g p) p text (e ∙ n.1)) ∙ lost-stays (g (at + length a)) (passed a at text) text n.1

-- the whole text is passed over exactly where it is the bytes
pub whole_is : (bytes text : List ℕ) → passed bytes 0 text ≡ length text → text ≡ bytes
whole_is bytes text e =
    let y : Stand bytes 0 text × (passed bytes 0 text ≡ 0 + length bytes) = passed-in bytes 0 text (omega (arith, e)) in
    sym (take_all (length bytes) text (omega (arith, y.1, e))) ∙ y.0

pub whole-passed : (bytes text : List ℕ) → text ≡ bytes → passed bytes 0 text ≡ length text
whole-passed bytes text e =
    sym (passed-yes bytes 0 text (rw e (take-length bytes))) ∙ omega (arith, ap length e)

-- ---- one byte

-- alone
pub stand-one : (b at : ℕ) (text : List ℕ) → at < length text → get_or text at 0 ≡ b → Stand (b ∷ []) at text
stand-one b at text h e = rw (drop-cons text at 0 h) (cc e)

-- the first byte of what stands there
pub stand-byte : (b : ℕ) (rest : List ℕ) (at : ℕ) (text : List ℕ) → Stand ((b ∷ []) ++ rest) at text → get_or text at 0 ≡ b
stand-byte b rest at text s =
    let z : at + 0 ≡ at = omega arith in
    ap (λ (k : ℕ). get_or text k 0) (sym z) ∙ (sym (get_or-drop at text 0 0) ∙ (sym (get_or-take (suc (length rest)) (drop at text) 0 0 (omega arith)) ∙ ap (λ (l : List ℕ). get_or l 0 0) s))

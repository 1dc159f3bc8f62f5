-- What a reader passes over, piece after piece. Assumes nothing.
use Prim.Native.Nat.{ℕ, zero, suc, ◌+◌, ◌-◌, ◌≤◌, ◌<◌}
use mathlib.Core.Path.{◌≡◌, refl, sym, ap, ◌∙◌}
use mathlib.Core.List.{List, [], ◌++◌}
use mathlib.Core.Logic.{◌⊎◌, inl, inr}
use native.Mathlib.Nat.{add-zero, eq-or-lt_of_le}
use native.Mathlib.Numerals.{add-one}
use native.Mathlib.Omega.{arith}
use Rattle.list_laws.specs.Lists.{rows}
use lib.ListN.{length, length-drop, take, drop}
use lib.Seq.{take_all}
use lib.Dec.{eqb}
use borrow.Author.Tests.{eq-eqb, eqb-true}
use mathlib.Core.Bool.{Bool}
use Rattle.std.specs.Bool.{Decides}
use Rattle.std.specs.List.{starts_with}
use Rattle.std.specs.Prelude.{Option, Some, None}
use Rattle.std.proofs.lemmas.Slice.Eq.{slice_eq-Decides}
use Rattle.reading.specs.Passed.{passed}
use Rattle.reading.specs.Passes.{reached, Passes}
use Rattle.reading.specs.declared.kernel.Reader.{Reader}
use Rattle.reading.proofs.PassedLaws.{Stand, passed-yes, passed-no, passed-append, passed_then, lost-stays}
use Rattle.reading.proofs.RowLaws.{one_more_lem}

-- the test whether a text begins with bytes, from an index on
pub begins-Decides : (bytes : List ℕ) (at : ℕ) (text : List ℕ) (r : Bool) → r ≡ starts_with eqb (take (length text - at) (drop at text)) bytes → Decides r (Stand bytes at text)
begins-Decides bytes at text r e =
    let rest : take (length text - at) (drop at text) ≡ drop at text = take_all (length text - at) (drop at text) (omega (arith, length-drop at text)) in
    let d : Decides r (bytes ≡ take (length bytes) (drop at text)) = slice_eq-Decides (λ a b. (eqb-true a b, eq-eqb a b)) bytes (take (length bytes) (drop at text)) r (rw rest at e) in
    ((λ t. sym (d.0 t)), λ s. d.1 (sym s))

module _ {bytes : List ℕ} {u v : Reader} (same : v.text ≡ u.text) where
  -- the bytes stand there, and the reader is behind them
  pub passes-yes : Stand bytes u.at u.text.now → v.at ≡ u.at + length bytes → Passes bytes u v (Some (tt {0}))
  passes-yes s e = record { same-text = same; value = e ∙ passed-yes bytes u.at u.text.now s }

  -- something else stands there
  pub passes-no : (Stand bytes u.at u.text.now → ⊥) → Passes bytes u v None
  passes-no n = record { same-text = same; value = ap (λ (t : _). length t.now + 1) same ∙ passed-no bytes u.at u.text.now n }

-- bytes by another name
pub passes-as : {a b : List ℕ} {u v : Reader} {r : Option (Unit {0})} → a ≡ b → Passes a u v r → Passes b u v r
passes-as {u} {v} {r} e p = rw (← e) p

-- two pieces, one behind the other
module _ (a b : List ℕ) {u v : Reader} where
  pub passes-both : {w : Reader} {r : Option (Unit {0})} → Passes a u v (Some (tt {0})) → Passes b v w r → Passes (a ++ b) u w r
  passes-both {w} {r} p q =
      record {
        same-text = q.same-text ∙ p.same-text;
        value = q.value ∙ (rw (p.same-text, p.value) refl ∙ sym (passed-append a b u.at u.text.now));
      }

  -- the first does not stand there
  pub passes-lost : Passes a u v None → Passes (a ++ b) u v None
  passes-lost p =
      let end : length v.text.now + 1 ≡ length u.text.now + 1 = ap (λ (t : _). length t.now + 1) p.same-text in
      record {
        same-text = p.same-text;
        value = end ∙ (lost-stays b (passed a u.at u.text.now) u.text.now (sym p.value ∙ end) ∙ sym (passed-append a b u.at u.text.now));
      }

-- a piece, and behind it one that depends on where it begins
pub passes_then : (a : List ℕ) (g : List ℕ → ℕ → List ℕ) {u v w : Reader} {r : Option (Unit {0})} → Passes a u v (Some (tt {0})) → Passes (g v.text.now v.at) v w r
    → Passes (a ++ g u.text.now (u.at + length a)) u w r
passes_then a g {u} {v} {w} {r} p q =
    record {
      same-text = q.same-text ∙ p.same-text;
      value = passed_then a (g u.text.now) u.at v.at (reached w r) u.text.now p.value (rw p.same-text at q.value);
    }

-- what is known to stand there was passed over
pub passes-found : {bytes : List ℕ} {u v : Reader} (r : Option (Unit {0})) → Passes bytes u v r → passed bytes u.at u.text.now ≤ length u.text.now → v.at ≡ passed bytes u.at u.text.now
passes-found (Some done) p h = p.value
passes-found None p h = absurd (omega (arith, h, p.value, ap (λ (t : _). length t.now) p.same-text))

-- nothing
pub passes_none : (u : Reader) → Passes [] u u (Some (tt {0}))
passes_none u = passes-yes refl refl (sym (add-zero u.at))

-- once lost, lost for good: of pieces f 0, f 1, .. behind a front
module _ (front : List ℕ) (f : ℕ → List ℕ) {u v : Reader} where
  pub pieces-lost : (k n : ℕ) → k ≤ n → Passes (front ++ rows k f) u v None → Passes (front ++ rows n f) u v None
  pieces-lost k zero h p = let z : k ≡ 0 = omega arith in rw z at p
  pieces-lost k (suc n) h p = go (eq-or-lt_of_le {n = k} {m = suc n} h) (pieces-lost k n)
    where
      go : (k ≡ suc n) ⊎ (k < suc n) → (k ≤ n → Passes (front ++ rows k f) u v None → Passes (front ++ rows n f) u v None) → Passes (front ++ rows (suc n) f) u v None
      go (inl e) r = rw e at p
      go (inr l) r = passes-as (sym (rw add-one at (one_more_lem front f n))) (passes-lost (front ++ rows n f) (f n) (r (omega arith) p))

  -- and a piece more, of which only where it begins is known
  pub pieces-next : (g : List ℕ → ℕ → List ℕ) (k : ℕ) {w : Reader} {r : Option (Unit {0})} → g u.text.now (u.at + length (front ++ rows k f)) ≡ f k
      → Passes (front ++ rows k f) u v (Some (tt {0})) → Passes (g v.text.now v.at) v w r → Passes (front ++ rows (k + 1) f) u w r
  pieces-next g k e p q =
      passes-as (ap (λ (l : List ℕ). front ++ rows k f ++ l) e ∙ sym (one_more_lem front f k)) (passes_then (front ++ rows k f) g p q)

-- Writing bytes one after another is writing them at once. Assumes nothing.
use Prim.Native.Nat.{ℕ, suc, ◌+◌, ◌-◌, ◌≤◌, ◌<◌}
use mathlib.Core.Path.{◌≡◌, refl, sym, ap, ◌∙◌}
use mathlib.Core.List.{List, [], ◌∷◌, ◌++◌, append_assoc}
use native.Mathlib.Nat.{add-zero}
use native.Mathlib.Omega.{arith}
use lib.ListN.{length, set, take, drop, length-append}
use lib.Seq.{sets, sets-eq, length-sets}
use borrow.Rule.Slice.PartMut.{Post-is, put_mid}
use Rattle.writing.specs.Written.{written, HasRoom, Wrote}
use Rattle.writing.specs.declared.kernel.Writer.{Writer}

-- what is written is what setting byte after byte makes
as-sets : (at : ℕ) (a old : List ℕ) → at + length a ≤ length old → written at a old ≡ sets old at a
unfolding written
as-sets at a old h = sym (sets-eq a old at h)

sets-append : (a b old : List ℕ) (at : ℕ) → sets old at (a ++ b) ≡ sets (sets old at a) (at + length a) b
sets-append [] b old at = ap (λ (k : ℕ). sets old k b) (sym (add-zero at))
sets-append (x ∷ a) b old at =
    let q : suc at + length a ≡ at + suc (length a) = omega arith in
    sets-append a b (set old at x) (suc at) ∙ ap (λ (k : ℕ). sets (sets (set old at x) (suc at) a) k b) q

pub length-written : (at : ℕ) (a old : List ℕ) → at + length a ≤ length old → length (written at a old) ≡ length old
length-written at a old h = ap length (as-sets at a old h) ∙ length-sets old at a

pub written_none : (at : ℕ) (old : List ℕ) → at ≤ length old → old ≡ written at [] old
written_none at old h = sym (as-sets at [] old (omega arith))

-- one byte
pub written_one : (at b : ℕ) (old : List ℕ) → at < length old → set old at b ≡ written at (b ∷ []) old
written_one at b old h = sym (as-sets at (b ∷ []) old (omega arith))

-- two pieces, one behind the other
pub written-append : (at : ℕ) (a b old : List ℕ) → at + length (a ++ b) ≤ length old → written (at + length a) b (written at a old) ≡ written at (a ++ b) old
written-append at a b old h =
    let l : length (a ++ b) ≡ length a + length b = length-append a b in
    ap (written (at + length a) b) (as-sets at a old (omega (arith, h, l)))
    ∙ (as-sets (at + length a) b (sets old at a) (omega (arith, h, l, length-sets old at a))
    ∙ sym (as-sets at (a ++ b) old h ∙ sets-append a b old at))

-- a source copied over a part
pub written_part : (at : ℕ) (src old : List ℕ) → put_mid at (at + length src - at) old src ≡ written at src old
unfolding written
written_part at src old =
    ap (λ (l : List ℕ). take at old ++ (src ++ l)) (Post-is at (at + length src) old (omega arith)) ∙ sym (append_assoc (take at old) src (drop (at + length src) old))

-- ---- what a writer wrote

-- room for two pieces
module _ (a b : List ℕ) (u : Writer) (h : HasRoom (a ++ b) u) where
  pub room-first : HasRoom a u
  room-first = omega (arith, length-append a b)

  module _ {v : Writer} (r : Wrote a u v) where
    pub room-next : HasRoom b v
    room-next = omega (arith, r.ends, ap length r.content, length-written u.len a u.buffer.now room-first, length-append a b)

    -- one piece behind the other
    pub wrote-both : {w : Writer} → Wrote b v w → Wrote (a ++ b) u w
    wrote-both q =
        record {
          same-buffer = q.same-buffer ∙ r.same-buffer;
          ends = omega (arith, q.ends, r.ends, length-append a b);
          content = q.content ∙ rw (r.content, r.ends) (written-append u.len a b u.buffer.now h);
        }

-- bytes by another name
pub room_as : {a b : List ℕ} (u : Writer) → a ≡ b → HasRoom a u → HasRoom b u
room_as u e h = rw (← e) h

pub wrote_as : {a b : List ℕ} {u v : Writer} → a ≡ b → Wrote a u v → Wrote b u v
wrote_as {u} {v} e r = rw (← e) r

-- nothing
pub wrote_none : (u : Writer) → u.len ≤ length u.buffer.now → Wrote [] u u
wrote_none u h = record { same-buffer = refl; ends = omega arith; content = written_none u.len u.buffer.now h }

-- what `grind` is given at a function
pub ruleset room_laws = (room-first, room-next)

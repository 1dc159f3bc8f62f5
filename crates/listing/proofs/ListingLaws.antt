-- Lines and weights written one after another. Assumes nothing.
use Prim.Native.Nat.{ℕ, zero, suc, ◌+◌, ◌/◌, ◌%◌, ◌≤◌, ◌<◌}
use mathlib.Core.Path.{◌≡◌}
use mathlib.Core.List.{List, ◌++◌}
use mathlib.Core.Logic.{◌⊎◌, inl, inr}
use native.Mathlib.Nat.{eq-or-lt_of_le}
use native.Mathlib.Numerals.{add-one}
use native.Mathlib.Omega.{arith}
use lib.ListN.{length, length-append}
use lib.Ieee.{Float}
use lib.IntN.{ℤ}
use Rattle.list_laws.specs.Lists.{rows}
use Rattle.listing.specs.Listings.{header, number, front_of, weights_of, flag_at, line_of, lines_of, listing_of, refusal_of}
use Rattle.writing.specs.Written.{HasRoom, Wrote}
use Rattle.writing.specs.declared.kernel.Writer.{Writer}
use Rattle.writing.proofs.WrittenLaws.{room-first, room-next, wrote-both, wrote_none}

-- pieces one after another have room where all of them have
pub rows-room : (f : ℕ → List ℕ) (n i : ℕ) → i < n → length (rows i f ++ f i) ≤ length (rows n f)
unfolding rows
rows-room f zero i h = absurd (omega (arith, h))
rows-room f (suc n) i h = go (eq-or-lt_of_le {n = i} {m = n} (omega arith)) (rows-room f n i)
  where
    go : (i ≡ n) ⊎ (i < n) → (i < n → length (rows i f ++ f i) ≤ length (rows n f)) → length (rows i f ++ f i) ≤ length (rows n f ++ f n)
    go (inl e) r = rw e (omega arith)
    go (inr l) r = omega (arith, r l, length-append (rows n f) (f n))

-- one turn of a loop that writes the pieces f 0, f 1, ..
module _ (f : ℕ → List ℕ) (n : ℕ) (u : Writer) (room : HasRoom (rows n f) u) where
  pub pieces-none : Wrote (rows 0 f) u u
  unfolding rows
  pieces-none = wrote_none u (omega (arith, room))

  module _ (i : ℕ) (h : i < n) {v : Writer} (r : Wrote (rows i f) u v) where
    so-far : HasRoom (rows i f ++ f i) u
    so-far = omega (arith, room, rows-room f n i h)

    pub piece-room : HasRoom (f i) v
    piece-room = room-next (rows i f) (f i) u so-far r

    pub piece-next : {w : Writer} → Wrote (f i) v w → Wrote (rows (i + 1) f) u w
    unfolding rows
    piece-next q = rw add-one (wrote-both (rows i f) (f i) u so-far r q)

-- and all of them
pub pieces_all : (f : ℕ → List ℕ) {i n : ℕ} {u v : Writer} → i ≡ n → Wrote (rows i f) u v → Wrote (rows n f) u v
pieces_all f {u} {v} e r = rw (← e) r

-- five pieces, one behind the other
module _ (a b c d e : List ℕ) (u : Writer) (room : HasRoom (a ++ b ++ c ++ d ++ e) u) where
  four : HasRoom (a ++ b ++ c ++ d) u
  four = room-first (a ++ b ++ c ++ d) e u room

  three : HasRoom (a ++ b ++ c) u
  three = room-first (a ++ b ++ c) d u four

  two : HasRoom (a ++ b) u
  two = room-first (a ++ b) c u three

  pub first-of-five : HasRoom a u
  first-of-five = room-first a b u two

  module _ {v : Writer} (p : Wrote a u v) where
    pub second-of-five : HasRoom b v
    second-of-five = room-next a b u two p

    module _ {w : Writer} (q : Wrote b v w) where
      pub third-of-five : HasRoom c w
      third-of-five = room-next (a ++ b) c u three (wrote-both a b u two p q)

      module _ {x : Writer} (r : Wrote c w x) where
        wrote-three : Wrote (a ++ b ++ c) u x
        wrote-three = wrote-both (a ++ b) c u three (wrote-both a b u two p q) r

        pub fourth-of-five : HasRoom d x
        fourth-of-five = room-next (a ++ b ++ c) d u four wrote-three

        module _ {y : Writer} (s : Wrote d x y) where
          pub fifth-of-five : HasRoom e y
          fifth-of-five = room-next (a ++ b ++ c ++ d) e u room (wrote-both (a ++ b ++ c) d u four wrote-three s)

          pub wrote-five : {z : Writer} → Wrote e y z → Wrote (a ++ b ++ c ++ d ++ e) u z
          wrote-five t = wrote-both (a ++ b ++ c ++ d) e u room (wrote-both (a ++ b ++ c) d u four wrote-three s) t

pub front-lengths : (t p b1 b2 flag : ℕ) → length (front_of t p b1 b2 flag) ≡ length (number t 9) + length (number p 9) + length (number b1 9) + length (number b2 9) + length (number flag 9)
unfolding front_of
front-lengths t p b1 b2 flag =
    let n : ℕ → List ℕ = λ m. number m 9 in
    rw (length-append (n t ++ n p ++ n b1 ++ n b2) (n flag), length-append (n t ++ n p ++ n b1) (n b2), length-append (n t ++ n p) (n b1), length-append (n t) (n p))

pub refusal-length : (n : ℕ) → length (refusal_of n) ≡ 8 + length (number n 10)
unfolding refusal_of
refusal-length n = omega arith

pub listing-length : (points bands1 bands2 channels : ℕ) (weights : List Float) (flags : List ℤ) → length (listing_of points bands1 bands2 channels weights flags) ≡ 27 + length (lines_of points bands1 bands2 channels weights flags)
unfolding listing_of header
listing-length points bands1 bands2 channels weights flags = omega arith

pub line-length : (points bands1 bands2 channels : ℕ) (weights : List Float) (flags : List ℤ) (e : ℕ) → length (line_of points bands1 bands2 channels weights flags e) ≡ length (front_of (e / bands2 / bands1 / points) (e / bands2 / bands1 % points) (e / bands2 % bands1) (e % bands2) (flag_at flags e)) + length (weights_of weights (length flags) e channels)
unfolding line_of
line-length points bands1 bands2 channels weights flags e = length-append (front_of (e / bands2 / bands1 / points) (e / bands2 / bands1 % points) (e / bands2 % bands1) (e % bands2) (flag_at flags e)) (weights_of weights (length flags) e channels)

-- what `grind` is given at a function
pub ruleset five_rooms = (first-of-five, second-of-five, third-of-five, fourth-of-five, fifth-of-five)

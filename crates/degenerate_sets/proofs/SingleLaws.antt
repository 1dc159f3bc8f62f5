-- Averaging over sets of one place each, as with ids 0, 1, 2, .., changes nothing, by any rule that leaves an entry that is a block by itself.
-- Assumes nothing.
use mathlib.Core.Path.{◌≡◌, sym, ap, ◌∙◌}
use mathlib.Core.Logic.{⊎_elim}
use mathlib.Core.Bool.{Bool, true, true≢false}
use mathlib.Core.List.{List}
use Prim.Native.Nat.{ℕ, suc, ◌+◌, ◌*◌, ◌<◌}
use native.Mathlib.Omega.{arith}
use lib.IntN.{ℤ, pos}
use lib.ListN.{length, get_or}
use Rattle.list_laws.specs.Lists.{part, tabulate}
use Rattle.list_laws.specs.Matrix.{Block, block}
use Rattle.list_laws.proofs.BoolLaws.{lt-or-le}
use Rattle.list_laws.proofs.EqualLaws.{nat-itself}
use Rattle.list_laws.proofs.FillLaws.{tabulate-at}
use Rattle.list_laws.proofs.MatrixLaws.{each_same, part-len, square-is}
use Rattle.degenerate_sets.specs.Sets.{starts_at, end_of, block_of}
use Rattle.degenerate_sets.specs.Averages.{Rule, averaged_by, points_by}
use Rattle.degenerate_sets.proofs.SetLaws.{ends, start-hit}

-- each of the first n places starts a set
abbrev pub Singles : ℕ → List ℤ → Type 0
Singles n ids = (k : ℕ) → k < n → starts_at ids k ≡ true

-- the ids 0, 1, 2, ..
pub singles-are : (n : ℕ) → Singles n (tabulate n pos)
unfolding starts_at
singles-are n k h = rw (tabulate-at n pos (pos 0) k h) (nat-itself k)

-- a place that starts a set and is followed by one that does is a set
pub end-single : (p : ℕ → Bool) (n b : ℕ) → ((k : ℕ) → k < n → p k ≡ true) → b < n → end_of p n b ≡ suc b
end-single p n b all h =
    let x = ends p n b h in
    ⊎_elim
    (λ l. absurd (true≢false (sym (all (suc b) (omega (arith, x.upto))) ∙ x.none (suc b) (omega arith) l)))
    (λ l. omega (arith, x.after))
    (lt-or-le (suc b) (end_of p n b))

-- the block of an entry is the entry
block-single : (p q : ℕ → Bool) (n r c : ℕ) → ((k : ℕ) → k < n → p k ≡ true) → ((k : ℕ) → k < n → q k ≡ true) → r < n → c < n
    → block_of p q n r c ≡ block r (suc r) c (suc c)
block-single p q n r c all all' h l =
    cc (start-hit p r (all r h), end-single p n r all h, start-hit q c (all' c l), end-single q n c all' l)

-- the rule leaves an entry that is a block by itself
abbrev pub KeepsSingles : {A : Type 0} → A → Rule A → Type 0
KeepsSingles d rule = (n r c : ℕ) (m : List _) → rule n (block r (suc r) c (suc c)) m r c ≡ get_or m (r * n + c) d

module _ {A : Type 0} (d : A) (rule : Rule A) (keeps : KeepsSingles d rule) where
  pub averaged-single : (n : ℕ) (ids1 ids2 : List ℤ) (m : List A) → Singles n ids1 → Singles n ids2 → length m ≡ n * n → averaged_by rule n ids1 ids2 m ≡ m
  unfolding averaged_by
  averaged-single n ids1 ids2 m s1 s2 len =
      sym
      (square-is d n (λ r c. rule n (block_of (starts_at ids1) (starts_at ids2) n r c) m r c) m len
      (λ r c h l.
      sym
      (ap (λ (b : Block). rule n b m r c) (block-single (starts_at ids1) (starts_at ids2) n r c s1 s2 h l) ∙ keeps n r c m)))

  pub points-single : (bands : ℕ) (ids1 ids2 : List ℤ) (points : ℕ) (w : List A) → Singles bands ids1 → Singles bands ids2
      → length w ≡ points * (bands * bands) → points_by rule bands ids1 ids2 points w ≡ w
  unfolding points_by
  points-single bands ids1 ids2 points w s1 s2 len =
      each_same (bands * bands) (averaged_by rule bands ids1 ids2) points w len
      (λ k h. averaged-single bands ids1 ids2 (part (k * (bands * bands)) (bands * bands) w) s1 s2
      (part-len (bands * bands) k points w h (omega arith)))

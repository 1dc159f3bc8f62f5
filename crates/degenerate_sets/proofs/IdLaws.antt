-- Where question 17 says yes, the first places of sets are the ids equal to their own place, the id of a place is the first place of its set,
-- and a set is the places whose id is its start. Assumes nothing.
use mathlib.Core.Path.{◌≡◌, refl, sym, ap, ◌∙◌}
use mathlib.Core.Logic.{⊎_elim}
use mathlib.Core.Bool.{Bool, true, false, ◌||◌, true≢false}
use mathlib.Core.List.{List}
use Prim.Native.Nat.{ℕ, zero, suc, ◌<◌}
use native.Mathlib.Omega.{arith}
use lib.IntN.{ℤ, pos}
use Rattle.list_laws.specs.Lists.{at, Each}
use Rattle.list_laws.specs.Signed.{eq_z, is_nat}
use Rattle.list_laws.proofs.BoolLaws.{true-or-false, eqb_same}
use Rattle.list_laws.proofs.CountLaws.{each-as}
use Rattle.list_laws.proofs.EqualLaws.{nat-pos, equal_is}
use Rattle.question_values.specs.Averages.{is_degenerate_id, are_degenerate_ids}
use Rattle.question_values.proofs.AverageLaws.{ids_at}
use Rattle.degenerate_sets.specs.Sets.{starts_at, start_of}
use Rattle.degenerate_sets.specs.Blocks.{DegenerateSet, has_place, is_first, sets_of}
use Rattle.degenerate_sets.proofs.CoverLaws.{IsSet, sets-are, has-place}

or-second : (a b : Bool) → (a || b) ≡ true → a ≡ false → b ≡ true
or-second true b h e = absurd (true≢false e)
or-second false b h e = h

start-from : (ids : List ℤ) (n k : ℕ) → ((j : ℕ) → j < n → is_degenerate_id ids j ≡ true) → k < n → at ids k ≡ pos (start_of (starts_at ids) k)
unfolding start_of starts_at is_degenerate_id
start-from ids n zero right l = nat-pos (at ids zero) zero (right zero l)
start-from ids n (suc k) right l =
    ⊎_elim
    (λ t. nat-pos (at ids (suc k)) (suc k) t ∙ ap pos (rw t))
    (λ t.
    equal_is (at ids (suc k)) (at ids k) (or-second (starts_at ids (suc k)) (eq_z (at ids (suc k)) (at ids k)) (right (suc k) l) t)
    ∙ start-from ids n k right (omega arith) ∙ ap pos (rw t))
    (true-or-false (starts_at ids (suc k)))

pub id-is-start : (bands : ℕ) (ids : List ℤ) → are_degenerate_ids bands ids ≡ true → (k : ℕ) → k < bands → at ids k ≡ pos (start_of (starts_at ids) k)
id-is-start bands ids e k l = start-from ids bands k (ids_at bands ids e) l

-- "An id equal to its own place starts a set", and no other place is the first of one
pub first-own : (bands : ℕ) (ids : List ℤ) → are_degenerate_ids bands ids ≡ true → (k : ℕ) → k < bands → is_first (starts_at ids) k ≡ starts_at ids k
unfolding starts_at is_degenerate_id
first-own bands ids e zero l = sym (ids_at bands ids e zero l)
first-own bands ids e (suc k) l = refl

-- the id of a place names the start of its set: a set is the places whose id is its start
pub sets-named : (bands : ℕ) (ids : List ℤ) → are_degenerate_ids bands ids ≡ true
    → Each (λ s. (k : ℕ) → k < bands → has_place k s ≡ is_nat (at ids k) s.start) (sets_of bands ids)
unfolding is_nat
sets-named bands ids e =
    each-as (IsSet (starts_at ids) bands) (λ s. (k : ℕ) → k < bands → has_place k s ≡ is_nat (at ids k) s.start) named
    (sets_of bands ids) (sets-are (starts_at ids) bands)
  where
    named : (s : DegenerateSet) → IsSet (starts_at ids) bands s → (k : ℕ) → k < bands → has_place k s ≡ is_nat (at ids k) s.start
    named s x k l =
        rw (x.1.1, id-is-start bands ids e k l)
        (has-place (starts_at ids) bands k s.start l x.0 x.1.0
        ∙ eqb_same s.start (start_of (starts_at ids) k) (start_of (starts_at ids) k) s.start (λ q. sym q) (λ q. sym q))

-- What the worker's sum and a full count give. Assumes nothing.
use mathlib.Core.Path.{◌≡◌, refl, sym, ◌∙◌}
use mathlib.Core.Bool.{Bool, true, false, ◌&&◌, cond}
use mathlib.Core.List.{List}
use Prim.Native.Nat.{ℕ, ◌+◌, ◌-◌, ◌^◌, ◌≤◌, ◌<◌}
use native.Mathlib.Decide.{dec_lt}
use native.Mathlib.Omega.{arith}
use borrow.Author.Tests.{eqb-false, eqb-true, le-ltb, lt-ltb, ltb-true}
use lib.Dec.{eqb, ltb}
use lib.IntN.{ℤ}
use lib.ListN.{length, get_or, length-set}
use lib.Signed.{mag, non_neg}
use Rattle.list_laws.specs.Signed.{is_below, is_nat}
use lib.Seq.{get_or-set_same, get_or-set_other}
use Rattle.list_laws.proofs.BoolLaws.{and_left}
use Rattle.list_laws.proofs.SignedLaws.{below-lt}
use Rattle.ask.specs.Ask.{first_no, AllYes}
use Rattle.ask.proofs.AskLaws.{all_yes}
use Rattle.sheet_tally.specs.Tallies.{is_worker, is_room, count_of, with_runs, tally_questions}

-- ---- 20 of one count, by the room that it has

pub room-is : (count runs : ℕ) → count < 2 ^ 63 → ltb runs (2 ^ 63 - count) ≡ is_room count runs
unfolding is_room
room-is count runs h = by (dec_lt runs (2 ^ 63 - count))
  where
    by : Dec (runs < 2 ^ 63 - count) → ltb runs (2 ^ 63 - count) ≡ ltb (count + runs) (2 ^ 63)
    by (yes l) = rw (lt-ltb runs (2 ^ 63 - count) l, lt-ltb (count + runs) (2 ^ 63) (omega (arith, h, l)))
    by (no l) = rw (le-ltb runs (2 ^ 63 - count) (omega (arith, l)), le-ltb (count + runs) (2 ^ 63) (omega (arith, h, l)))

pub no_room : (count runs : ℕ) → 2 ^ 63 ≤ count → false ≡ is_room count runs
unfolding is_room
no_room count runs h = rw (le-ltb (count + runs) (2 ^ 63) (omega (arith, h)))

-- ---- 21 and 20

module _ (tally : List ℕ) (worker : ℤ) (runs : ℕ) where
  -- a yes to both: the worker is one of the sixteen, and its count has room
  pub tally-yes : first_no (tally_questions tally worker runs) ≡ 0 → (mag worker < 16) × (count_of tally worker + runs < 2 ^ 63)
  unfolding is_worker is_room
  tally-yes e =
      let y : AllYes (tally_questions tally worker runs) = all_yes (tally_questions tally worker runs) (omega arith, (omega arith, tt)) e in
      (below-lt worker 16 y.0, ltb-true (count_of tally worker + runs) (2 ^ 63) y.1.0)

-- ---- the sixteen counts after a worker's runs

module _ (tally : List ℕ) (worker : ℤ) (runs : ℕ) where
  pub length_moved : length (with_runs tally worker runs) ≡ length tally
  length_moved = length-set tally (mag worker) (count_of tally worker + runs)

  -- "move that count only": the worker's has grown by the runs, any other stays
  pub count-moved : (w : ℕ) → is_worker worker ≡ true → w < length tally → get_or (with_runs tally worker runs) w 0 ≡ get_or tally w 0 + cond (is_nat worker w) runs 0
  unfolding is_worker is_below is_nat
  count-moved w h l = go (eqb (mag worker) w) refl
    where
      go : (u : Bool) → eqb (mag worker) w ≡ u → get_or (with_runs tally worker runs) w 0 ≡ get_or tally w 0 + cond (non_neg worker && eqb (mag worker) w) runs 0
      go true e =
          let p : mag worker ≡ w = eqb-true (mag worker) w e in
          rw (and_left (non_neg worker) (ltb (mag worker) 16) h, e, p) (get_or-set_same tally w (get_or tally w 0 + runs) 0 l)
      go false e =
          rw (and_left (non_neg worker) (ltb (mag worker) 16) h, e) (get_or-set_other tally (mag worker) w (count_of tally worker + runs) 0 (λ z. eqb-false (mag worker) w e (sym z)) ∙ omega arith)

-- by one name, for the attributes of functions
pub ruleset worker_laws = (below-lt)

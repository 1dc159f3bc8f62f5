-- `sheet_play::kernel::play_prepared` meets its contract.
use lib.ListN.{length, length-set}
use mathlib.Core.Path.{◌∙◌, ◌≡◌, refl, sym, subst}
use native.Mathlib.Omega.{arith}
use Prim.Native.Nat.{◌+◌, ◌<◌, ◌≤◌, ◌*◌, ℕ}
use Rattle.list_laws.proofs.FillLaws.{front-next, front-none, rows_end, rows_none, rows_row}
use Rattle.sheet_fill.specs.Kept.{study_in}
use Rattle.sheet_play.proofs.OutcomeLaws.{after_none, common-after, number-next, number_after, outcome-end, sheet-next, tally-next, tally_after, told}
use Rattle.sheet_calls.specs.Calls.{call_at}
use Rattle.sheet_step.specs.Lent.{sheet_of}
use Rattle.sheet_step.specs.Steps.{Call, Sheet}
use Rattle.sheet_turn.specs.Turns.{common_no}
use Rattle.triplet_study.specs.Study.{Study}
use Rattle.sheet_play.proofs.kernel.play_prepared.Goals.{In-loop-i, Start}
use Rattle.sheet_play.proofs.kernel.play_prepared.Goals as goal

-- the study, the sheet and the calls that the list takes
abbrev study : Start → Study
study s = study_in s.args.prepared.now

abbrev start : Start → Sheet
start s = sheet_of s.args.sheet.now s.args.before.runs

abbrev call : Start → ℕ → Call
call s = call_at s.args.list.now.calls.list.now s.args.list.now.calls.ids.now

-- the place of a turn's call, and the room for its sixteen counts
at_call : (t : In-loop-i) → t.loop-i.i < length t.args.list.now.answers.now
at_call t = omega (arith, t.loop-i.invariant.2, t.loop-i-test.true)

room : (t : In-loop-i) → t.loop-i.i * 16 + 16 ≤ length t.loop-i.tallies
room t =
    let h : t.loop-i.i < length t.args.list.now.answers.now = omega (arith, t.loop-i.invariant.2, t.loop-i-test.true) in
    omega (arith, h, t.loop-i.invariant.3, t.args.list.now.room.told)

pub loop-i-init : goal.loop-i-init
loop-i-init c =
    let s = (goal.at.loop-i-init c).Start in (
      omega arith,
      record { weights = refl; flags = refl; marks = refl },
      refl,
      refl,
      after_none (study s) (start s) (call s),
      front-none (number_after (study s) (start s) (call s)) c.args.list.now.answers.now,
      rows_none (tally_after (study s) (start s) (call s)) c.args.list.now.tallies.now,
      c.new-work.ensures,
    )

pub one_turn-turn-requires : goal.one_turn-turn-requires
one_turn-turn-requires c =
    let s = (goal.at.one_turn-turn-requires c).Start in
    record { common = rw c.loop-i.invariant.7 (subst (λ (x : Sheet). common_no (study s) x ≡ 0) (sym c.loop-i.invariant.4) (common-after (study s) (start s) (call s) c.requires c.loop-i.i)) }

pub loop-i-preserved : goal.loop-i-preserved
loop-i-preserved c =
    let s = (goal.at.loop-i-preserved c).Start in
    let x : Sheet = sheet_of c.loop-i.sheet c.loop-i.tally.runs in
    let did = rw (c.call_at-call.ensures, c.loop-i.invariant.7) at c.one_turn-turn.ensures.did in
    let says = told c.loop-i.tally.runs did c.settle.ensures.number c.settle.ensures.tally in
    let row = rows_row (tally_after (study s) (start s) (call s)) c.loop-i.tallies c.store_counts.new.row c.loop-i.i 16 (room (goal.at.loop-i-preserved c).In-loop-i) c.store_counts.auto.row c.loop-i.invariant.6
    (c.store_counts.ensures ∙ tally-next (study s) (start s) (call s) c.loop-i.i x c.loop-i.invariant.4 says) in
    let before = c.loop-i.invariant.1 in
    let kept = c.one_turn-turn.ensures.same in (
      omega (arith, at_call (goal.at.loop-i-preserved c).In-loop-i),
      record { weights = kept.weights ∙ before.weights; flags = kept.flags ∙ before.flags; marks = kept.marks ∙ before.marks },
      simp length-set c.loop-i.invariant.2,
      row.0 ∙ c.loop-i.invariant.3,
      sheet-next (study s) (start s) (call s) c.loop-i.i x c.loop-i.invariant.4 says,
      rw c.loop-i.invariant.5 (front-next (number_after (study s) (start s) (call s)) c.args.list.now.answers.now c.loop-i.i c.settle.result (at_call (goal.at.loop-i-preserved c).In-loop-i) (number-next (study s) (start s) (call s) c.loop-i.i x c.loop-i.invariant.4 says)),
      row.1,
      c.one_turn-turn.ensures.study ∙ c.loop-i.invariant.7,
    )

pub returns-clause-played : goal.returns-clause-played
returns-clause-played c =
    let s = (goal.at.returns-clause-played c).Start in
    let e : length c.args.list.now.answers.now ≡ c.loop-i.i = omega (arith, c.loop-i.invariant.0, c.loop-i.invariant.2, c.loop-i-test.false) in
    let six : length c.args.list.now.calls.list.now ≡ c.loop-i.i * 6 = omega (arith, e, c.args.list.now.room.listed) in
    let all : length c.loop-i.tallies ≡ c.loop-i.i * 16 = omega (arith, e, c.loop-i.invariant.3, c.args.list.now.room.told) in
    let t = rows_end (tally_after (study s) (start s) (call s)) c.loop-i.tallies (c.loop-i.i * 16) c.loop-i.i c.loop-i.i c.loop-i.invariant.6 all refl in
    outcome-end (study s) (start s) c.args.list.now.calls.list.now c.args.list.now.calls.ids.now c.loop-i.i six c.args.list.now.answers.now e c.loop-i.invariant.4 c.loop-i.invariant.5 t

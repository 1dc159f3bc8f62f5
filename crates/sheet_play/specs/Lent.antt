-- A list of calls as a contract names it: what it is answered in, at a call's entry and at its exit.
use Rattle.std.specs.Prelude.{◌≡◌, List}
use Rattle.sheet_calls.specs.Calls.{calls_of}
use Rattle.sheet_step.specs.Steps.{Call, Sheet}
use Rattle.sheet_play.specs.Outcomes.{Outcome, outcome}
use Rattle.sheet_play.specs.declared.list.CallsMut.{CallsMut}

-- its calls
abbrev pub calls_in : CallsMut → List Call
calls_in l = calls_of l.calls.list.now l.calls.ids.now

-- what stands in its buffers, beside a sheet
abbrev pub outcome_in : Sheet → CallsMut → Outcome
outcome_in s l = outcome s l.answers.now l.tallies.now

-- the calls, and which buffers are lent, stay
pub record SameList (before after : CallsMut) : Type 0 where
  pub calls : after.calls ≡ before.calls
  pub answers : after.answers.ghost_name ≡ before.answers.ghost_name
  pub tallies : after.tallies.ghost_name ≡ before.tallies.ghost_name

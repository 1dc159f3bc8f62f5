-- The kinds of the calls of a list.
use Rattle.std.specs.Prelude.{ℕ, cond, eqb}
use Rattle.std.specs.Option.{unwrap_or}
use Rattle.replay_report.specs.Report.{kind_of}
use Rattle.replay_sheet.specs.declared.counts.CallKind.{CallKind}
use Rattle.replay_sheet.specs.declared.counts.CallKind.TheVariants.{OpenCount, Average}
use Rattle.replay_sheet.specs.declared.counts.TheConstants.{CALLS}

-- the kind of a call with any number: an averaging where none of a list's has it; 4 is counted with the open counts
abbrev pub call_kind : ℕ → CallKind
call_kind number = cond (eqb number 4) OpenCount (unwrap_or (kind_of CALLS number) Average)

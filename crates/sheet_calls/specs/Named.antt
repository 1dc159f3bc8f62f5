-- The call that a value of the code names.
use Rattle.sheet_step.specs.Steps.{Call, run, carry, average}
use Rattle.sheet_calls.specs.declared.Call.{Call as CodeCall}
use Rattle.sheet_calls.specs.declared.Call.TheVariants.{Run, CarryOn, Average}

-- a run of a named piece, a carry-on, an averaging
abbrev pub call_named : CodeCall → Call
call_named (Run worker piece) = run worker piece.triplet piece.b1 piece.b2
call_named (CarryOn worker) = carry worker
call_named (Average triplet ids1 ids2) = average triplet ids1.now ids2.now

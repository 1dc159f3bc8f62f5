-- The calls that a list of numbers encodes, six numbers a call: its kind, then five arguments. Every number decodes to some call.
use Rattle.std.specs.Prelude.{Bool, ◌&&◌, cond, List, [], ℕ, ◌+◌, ◌-◌, ◌*◌, ◌/◌, leb, ℤ, length}
use Rattle.std.specs.Int.Signed.{non_neg, mag}
use Rattle.list_laws.specs.Lists.{at, part, tabulate}
use Rattle.list_laws.specs.Signed.{is_nat}
use Rattle.sheet_step.specs.Steps.{Call, run, carry, average}

-- number k of call i
abbrev pub number_at : List ℤ → ℕ → ℕ → ℤ
number_at list i k = at list (i * 6 + k)

-- a start and an end among the ids: neither negative, the start not above the end, the end not beyond the last
unfoldable pub is_part : List ℤ → ℤ → ℤ → Bool
is_part ids start end = ((non_neg start && non_neg end) && leb (mag start) (mag end)) && leb (mag end) (length ids)

-- the ids from a start to an end; a bad part is the empty list
unfoldable pub ids_from : List ℤ → ℤ → ℤ → List ℤ
ids_from ids start end = cond (is_part ids start end) (part (mag start) (mag end - mag start) ids) []

-- kind 0 runs a piece (worker, triplet, b1, b2), kind 1 carries on (worker), any other kind averages (triplet, then the start and the end
-- of the first and of the second id list)
unfoldable pub call_of : List ℤ → ℤ → ℤ → ℤ → ℤ → ℤ → ℤ → Call
call_of ids kind a b c d e = cond (is_nat kind 0) (run a b c d) (cond (is_nat kind 1) (carry a) (average a (ids_from ids b c) (ids_from ids d e)))

-- call i of the list
unfoldable pub call_at : List ℤ → List ℤ → ℕ → Call
call_at list ids i = call_of ids (number_at list i 0) (number_at list i 1) (number_at list i 2) (number_at list i 3) (number_at list i 4) (number_at list i 5)

-- all of them
unfoldable pub calls_of : List ℤ → List ℤ → List Call
calls_of list ids = tabulate (length list / 6) (call_at list ids)

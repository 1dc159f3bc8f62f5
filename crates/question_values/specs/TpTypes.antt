-- Question 8: the type of a triplet, and how many channels it has.
use Rattle.std.specs.Prelude.{Bool, cond, ℕ, ℤ}
use Rattle.list_laws.specs.Signed.{is_nat, is_between}

-- Question 8: "Is the type 2, 3 or 4?"
unfoldable pub is_tp_type : ℤ → Bool
is_tp_type t = is_between 2 4 t

-- the number of outputs: "type 2 gives g2, g0-g1; type 3 adds (g0+g1)+g2; type 4 gives g0"
unfoldable pub channels_of : ℤ → ℕ
channels_of t = cond (is_nat t 2) 2 (cond (is_nat t 3) 3 1)

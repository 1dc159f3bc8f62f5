-- The room for what the calls of a list are answered with.
use Rattle.std.specs.Prelude.{◌≡◌, ℕ, ◌*◌}

-- six numbers a call, and of each call one answer and sixteen counts
pub record HasRoom (list answers tallies : ℕ) : Type 0 where
  pub listed : list ≡ answers * 6
  pub told : tallies ≡ answers * 16

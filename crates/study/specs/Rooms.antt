-- The room for the sections of a study.
use Rattle.std.specs.Prelude.{ℕ, ◌≤◌}

-- a text has at most 16,384 numbers, and a row may be begun behind them
pub record HasRoom (addresses gp-map f1 f2 points triplets : ℕ) : Type 0 where
  pub for_addresses : 16387 ≤ addresses
  pub for_map : 16385 ≤ gp-map
  pub for_f1 : 16385 ≤ f1
  pub for_f2 : 16385 ≤ f2
  pub for_points : 16385 ≤ points
  pub for_triplets : 16387 ≤ triplets

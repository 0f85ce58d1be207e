-- What the tests of powers ask.
use Rattle.std.specs.Prelude.{ℕ, ◌*◌, ◌≤◌, ◌^◌}
use Rattle.units.specs.Limits.{task_limit}
use Rattle.powers.specs.Powers.{most_power}

-- a power that is not too high, and an amount: a field of the sheet, or the total of as many weights as there may be
pub record ReadyForProduct (power amount : ℕ) : Type 0 where
  pub power_range : power ≤ most_power
  pub amount_range : amount ≤ task_limit * 2 ^ 32

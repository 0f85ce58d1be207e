-- What copying the marks asks.
use Rattle.std.specs.Prelude.{ℕ, ◌≤◌, List, length}
use Rattle.units.specs.Limits.{task_limit}

pub record ReadyToCopy (buffer : List ℕ) (n : ℕ) : Type 0 where
  pub room : n ≤ length buffer
  pub few : n ≤ task_limit

-- What the search asks.
use Rattle.bounds.specs.Working.Bounds.{bounds_needed}
use Rattle.std.specs.Prelude.{ℕ, ◌≤◌, ◌<◌, List, length}
use Rattle.table.specs.Working.Table.{Bounded}

pub record ReadyForChain (t b : List ℕ) (n : ℕ) (buffer : List ℕ) : Type 0 where
  pub bounded : Bounded n t
  pub bounds_long : bounds_needed n ≤ length b
  pub some_task : 0 < n
  pub room : n ≤ length buffer

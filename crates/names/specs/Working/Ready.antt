-- What an entry that is put or taken out needs.
use Rattle.std.specs.Prelude.{ℕ, ◌≤◌, ◌<◌}
use Rattle.names.specs.Names.{name_limit}
use Rattle.names.specs.declared.Names.{Names}

pub record ReadyToPut (names : Names) (slot : ℕ) : Type 0 where
  pub held : slot ≤ names.count
  pub room : slot < name_limit
  pub few : names.count ≤ name_limit

pub record ReadyToTake (names : Names) (slot : ℕ) : Type 0 where
  pub held : slot < names.count
  pub few : names.count ≤ name_limit

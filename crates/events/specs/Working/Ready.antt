-- What the functions of events ask of their callers.
use Rattle.std.specs.Prelude.{◌+◌, ◌≤◌, ◌<◌, ◌^◌}
use Rattle.units.specs.Limits.{task_limit}
use Rattle.state.specs.declared.Sums.{Sums}
use Rattle.state.specs.declared.Place.{Place}
use Rattle.rules.specs.Rules.{total_limit, total_of}
use Rattle.carried.specs.declared.Saved.{Saved}

-- what 21 leaves of a place: no position or sum passes its range at the next event
pub record InRange (place : Place) : Type 0 where
  pub position : place.position ≤ task_limit
  pub sums : total_of place.sums ≤ total_limit

-- a copy to go back to: what was kept there is kept still
pub record ReadyToGoBack (place : Place) (copy : Saved) : Type 0 where
  pub here : InRange place
  pub there : copy.position ≤ task_limit
  pub kept : copy.kept ≤ place.sums.kept

-- the weights up to a copy are kept, and what is kept after it fits redone
pub record ReadyToMove (copy : Saved) (sums : Sums) : Type 0 where
  pub kept : copy.kept ≤ sums.kept
  pub fits : sums.redone + sums.kept < 2 ^ 64

-- What the search for a first limit asks, and the search by a limit.
use Rattle.std.specs.Prelude.{ℕ, ◌≤◌, ◌<◌, List}
use Rattle.units.specs.Limits.{none}
use Rattle.bounds.specs.Working.Bounds.{Bounding}
use Rattle.bounds.specs.Working.Bounds.{BoundsOf}
use Rattle.table.specs.Working.Table.{Bounded}

pub record ReadyForNext (t b : List ℕ) (d u n : ℕ) : Type 0 where
  pub bounded : Bounded n t
  pub bounding : Bounding n n t b
  pub disk : d ≤ u
  pub order : u < n

-- r is a position after u, up to n
pub record Next (u n r : ℕ) : Type 0 where
  pub later : u < r
  pub within : r ≤ n

pub record ReadyForCopy (t : List ℕ) (d u mt v : ℕ) : Type 0 where
  pub bounded : Bounded v t
  pub disk : d ≤ u
  pub order : u < v
  pub reached : mt ≤ none

pub record ReadyForLimit (t b : List ℕ) (n : ℕ) : Type 0 where
  pub bounded : Bounded n t
  pub bounds : BoundsOf n t b

pub record ReadyForDisks (t b : List ℕ) (limit n : ℕ) : Type 0 where
  pub ready : ReadyForLimit t b n
  pub limited : limit < none

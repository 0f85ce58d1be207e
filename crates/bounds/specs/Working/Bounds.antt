-- The table that holds bounds on what is still to come: a column each, by position, for `time`, `risk` and `base`; then a square with `after` on and above the diagonal
-- and `part` below it. For n tasks the square has n + 1 rows of n + 1 entries, so that a short chain takes a short table. `bounds_in` are the bounds that it holds.
use Rattle.std.specs.Prelude.{ℕ, ◌+◌, ◌-◌, ◌*◌, ◌≤◌, ◌<◌, ◌^◌, ◌≡◌, List, length, get_or}
use Rattle.units.specs.Unit.{unit, up}
use Rattle.units.specs.Limits.{cost_limit, none}
use Rattle.chain.specs.Working.Bounds.{Apart, Bounds, slope, beyond, part_low, least_disk, Below}
use Rattle.chain.specs.Working.Factors.{disk_cap}
use Rattle.units.specs.Limits.{positions}
use Rattle.table.specs.Working.Table.{pairs_start, cm_start, rd_start, rm_start, column, entry_of, chain_in, disk_recovery_cap}

abbrev pub time_start : ℕ
time_start = 0

abbrev pub risk_start : ℕ
risk_start = time_start + positions

abbrev pub base_start : ℕ
base_start = risk_start + positions

abbrev pub square_start : ℕ
square_start = base_start + positions

-- how long the bounds of n tasks are
abbrev pub bounds_needed : ℕ → ℕ
bounds_needed n = square_start + (n + 1) * (n + 1)

-- as long as for the longest chain
abbrev pub bounds_length : ℕ
bounds_length = square_start + positions * positions

-- where a row and a column of the square of n tasks meet
abbrev pub square_at : (n row at : ℕ) → ℕ
square_at n row at = square_start + (n + 1) * row + at

-- the bounds of n tasks that the table holds
unfoldable pub bounds_in : ℕ → List ℕ → Bounds
bounds_in n b =
    record {
      base = λ u. get_or b (base_start + u) 0;
      part = λ u v. get_or b (square_at n v u) 0;
      time = λ v. get_or b (time_start + v) 0;
      risk = λ v. get_or b (risk_start + v) 0;
      after = λ d u. get_or b (square_at n d u) 0;
    }

-- S of the chain in a table, with its part by the last disk copy apart
unfoldable pub apart_in : List ℕ → Apart
apart_in t =
    record {
      rest = λ u v m Q'. (entry_of t u v).work + up (((entry_of t u v).both - unit) * Q') + up (((entry_of t u v).silent - unit) * column rm_start t m);
      stopped = λ u v. (entry_of t u v).both - (entry_of t u v).silent;
      rd = column rd_start t;
    }

-- bounds of the chain of n tasks in a table, up to the position `top`, and how far they may go
pub record Bounding (n top : ℕ) (t b : List ℕ) : Type 0 where
  pub long : bounds_needed n ≤ length b
  pub within : top ≤ n
  pub few : n < positions
  pub below : Below top (chain_in t) (apart_in t) (bounds_in n b)
  pub parts : (u v : ℕ) → u < v → v ≤ top → (bounds_in n b).part u v ≤ none
  pub times : (v : ℕ) → v ≤ top → (bounds_in n b).time v ≤ none
  pub afters : (d u : ℕ) → d ≤ u → u ≤ top → (bounds_in n b).after d u ≤ none

-- the bounds of the chain in a table, up to its last position
pub record BoundsOf (n : ℕ) (t b : List ℕ) : Type 0 where
  pub bounding : Bounding n n t b
  pub ends : (bounds_in n b).after n n ≡ 0

-- two positions of the square
pub record PlacesFit (n : ℕ) (b : List ℕ) (u v : ℕ) : Type 0 where
  pub long : bounds_needed n ≤ length b
  pub near : u ≤ n
  pub far : v ≤ n

-- two positions of the columns
pub record ColumnsFit (b : List ℕ) (u v : ℕ) : Type 0 where
  pub long : square_start ≤ length b
  pub near : u < positions
  pub far : v < positions

-- What depends on the columns alone is the same whatever n is.
abbrev pub SlopeIs : (b : List ℕ) → (u v r : ℕ) → Type 0
SlopeIs b u v r = (n : ℕ) → r ≡ slope (bounds_in n b) u v

-- the base of u is not more than a recovery may be
pub record ReadyForBeyond (b : List ℕ) (u : ℕ) : Type 0 where
  pub long : square_start ≤ length b
  pub few : u < positions
  pub base : unit * get_or b (base_start + u) 0 ≤ disk_recovery_cap

abbrev pub BeyondIs : (b : List ℕ) → (u x r : ℕ) → Type 0
BeyondIs b u x r = (n : ℕ) → r ≡ beyond (bounds_in n b) u x

-- the most that the bound of a part may be
abbrev pub low_cap : ℕ
low_cap = 2 ^ 40

pub record ReadyForLow (n : ℕ) (b t : List ℕ) (u x v : ℕ) : Type 0 where
  pub fit : PlacesFit n b u v
  pub few : n < positions
  pub table_long : pairs_start ≤ length t
  pub disk : x ≤ disk_cap
  pub part : (bounds_in n b).part u v ≤ none
  pub copy : column cm_start t v ≤ cost_limit

pub record LowIs (n : ℕ) (b t : List ℕ) (u x v r : ℕ) : Type 0 where
  pub value : r ≡ part_low (chain_in t) (bounds_in n b) u x v
  pub cap : r ≤ low_cap

-- the least R_D' + M' at u with the last disk copy d
unfoldable pub disk_in : (n : ℕ) → (t b : List ℕ) → (d u : ℕ) → ℕ
disk_in n t b = least_disk (apart_in t) (bounds_in n b)

-- what of the least R_D' + M' at u, with the last disk copy d, lies beyond the base of u
unfoldable pub since : (n : ℕ) → (t b : List ℕ) → (d u : ℕ) → ℕ
since n t b d u = beyond (bounds_in n b) u (disk_in n t b d u)

pub record ReadyForDiskIn (b t : List ℕ) (d u : ℕ) : Type 0 where
  pub fit : ColumnsFit b d u
  pub table_long : pairs_start ≤ length t
  pub recovery : column rd_start t d ≤ disk_recovery_cap
  pub time : get_or b (time_start + u) 0 ≤ none

pub record DiskIs (b t : List ℕ) (d u r : ℕ) : Type 0 where
  pub value : (n : ℕ) → r ≡ disk_in n t b d u
  pub cap : r ≤ disk_cap

pub record ReadyForSince (b t : List ℕ) (d u : ℕ) : Type 0 where
  pub disk : ReadyForDiskIn b t d u
  pub base : unit * get_or b (base_start + u) 0 ≤ disk_recovery_cap

pub record SinceIs (b t : List ℕ) (d u r : ℕ) : Type 0 where
  pub value : (n : ℕ) → r ≡ since n t b d u
  pub cap : r ≤ disk_cap

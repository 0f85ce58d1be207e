-- How the bounds are filled, stage by stage: from the start on, the parts from each copy and the time, risk and base of the next; then what comes after, from the
-- end down. Each stage states the inequalities of `Below` that hold so far.
use Rattle.std.specs.Prelude.{ℕ, ◌+◌, ◌*◌, ◌≤◌, ◌<◌, ◌≡◌, ◌≢◌, true, List, length, get_or, set}
use Rattle.units.specs.Unit.{unit, up}
use Rattle.units.specs.Limits.{none}
use Rattle.chain.specs.Working.Bounds.{slope_cap, slope, base_ticks, part_low}
use Rattle.chain.specs.Working.Factors.{disk_cap}
use Rattle.units.specs.Limits.{positions}
use Rattle.table.specs.Working.Table.{cm_start, cd_start, column, chain_in, Bounded}
use Rattle.bounds.specs.Working.Bounds.{time_start, risk_start, base_start, square_start, bounds_needed, bounds_in, apart_in, disk_in, since}

-- the parts from the memory copies before e
pub record Parts (e n : ℕ) (t b : List ℕ) : Type 0 where
  pub long : bounds_needed n ≤ length b
  pub first : (m v : ℕ) → m < e → m < v → v ≤ n → (chain_in t).allowed m v ≡ true → (bounds_in n b).part m v ≤ (apart_in t).rest m v m 0 + (apart_in t).stopped m v * (bounds_in n b).base m
  pub step : (m u v : ℕ) → m < e → m < u → u < v → v ≤ n → (chain_in t).allowed u v ≡ true
      → (bounds_in n b).part m v ≤ (bounds_in n b).part m u + (apart_in t).rest u v m ((bounds_in n b).part m u) + (apart_in t).stopped u v * (bounds_in n b).base m
  pub range : (m v : ℕ) → m < e → m < v → v ≤ n → (bounds_in n b).part m v ≤ none

-- the times and risks of the positions before e
pub record Steps (e n : ℕ) (t b : List ℕ) : Type 0 where
  pub times : (u v : ℕ) → u < v → v < e → (bounds_in n b).time v ≤ (bounds_in n b).time u + (bounds_in n b).part u v + column cm_start t v
  pub risks : (u v : ℕ) → u < v → v < e → (chain_in t).allowed u v ≡ true → (bounds_in n b).risk v ≤ (bounds_in n b).risk u + (apart_in t).stopped u v
  pub time_range : (v : ℕ) → v < e → (bounds_in n b).time v ≤ none
  pub risk_range : (v : ℕ) → v < e → (bounds_in n b).risk v ≤ none

-- the bases of the positions before e
pub record Bases (e n : ℕ) (t b : List ℕ) : Type 0 where
  pub low : (d u : ℕ) → d ≤ u → u < e → base_ticks (bounds_in n b) u ≤ disk_in n t b d u

-- the parts from the memory copies before e, and the times, risks and bases of the positions before f
pub record Filled (e f n : ℕ) (t b : List ℕ) : Type 0 where
  pub parts : Parts e n t b
  pub steps : Steps f n t b
  pub bases : Bases f n t b

-- what comes after the copy u, with the last disk copy d
pub record After (n : ℕ) (t b : List ℕ) (d u : ℕ) : Type 0 where
  pub next : (v : ℕ) → u < v → v ≤ n → (bounds_in n b).after d u ≤ part_low (chain_in t) (bounds_in n b) u (since n t b d u) v + (bounds_in n b).after d v
  pub disk : d < u → (bounds_in n b).after d u ≤ column cd_start t u + (bounds_in n b).after u u
  pub range : (bounds_in n b).after d u ≤ none

-- all of it from the copy `from` on
pub record Stage (from n : ℕ) (t b : List ℕ) : Type 0 where
  pub filled : Filled n (n + 1) n t b
  pub afters : (d u : ℕ) → d ≤ u → from ≤ u → u ≤ n → After n t b d u
  pub end : from ≤ n → (bounds_in n b).after n n ≡ 0

-- and of the copy u for the disk copies before k, and for u itself
pub record Column (k u n : ℕ) (t b : List ℕ) : Type 0 where
  pub stage : Stage (u + 1) n t b
  pub own : After n t b u u
  pub own_end : u ≡ n → (bounds_in n b).after u u ≡ 0
  pub others : (d : ℕ) → d < k → After n t b d u

-- the row q has become the parts from m, before e
pub record PutParts (n : ℕ) (b q : List ℕ) (m e : ℕ) (b' : List ℕ) : Type 0 where
  pub long : length b' ≡ length b
  pub here : (v : ℕ) → m < v → v < e → (bounds_in n b').part m v ≡ get_or q v 0
  pub columns : (i : ℕ) → i < square_start → get_or b' i 0 ≡ get_or b i 0
  pub others : (u v : ℕ) → u ≢ m → u < v → v ≤ n → (bounds_in n b').part u v ≡ (bounds_in n b).part u v

-- the least time and the least risk of v
pub record LeastTime (n : ℕ) (b t : List ℕ) (v r : ℕ) : Type 0 where
  pub range : r ≤ none
  pub least : (u : ℕ) → u < v → r ≤ (bounds_in n b).time u + (bounds_in n b).part u v + column cm_start t v

pub record LeastRisk (b t : List ℕ) (v r : ℕ) : Type 0 where
  pub range : r ≤ none
  pub least : (n u : ℕ) → u < v → (chain_in t).allowed u v ≡ true → r ≤ (bounds_in n b).risk u + (apart_in t).stopped u v

-- no recovery from disk at v is below r times 2^24 ticks
pub record LeastBase (b t : List ℕ) (v r : ℕ) : Type 0 where
  pub least : (n d : ℕ) → d ≤ v → unit * r ≤ disk_in n t b d v

-- the time, the risk and the base of v have been put in their places
pub record StepPut (n : ℕ) (b t : List ℕ) (v : ℕ) (b' : List ℕ) : Type 0 where
  pub time : ℕ
  pub risk : ℕ
  pub base : ℕ
  pub least_time : LeastTime n b t v time
  pub least_risk : LeastRisk b t v risk
  pub least_base : LeastBase (set (set b (time_start + v) time) (risk_start + v) risk) t v base
  pub put : b' ≡ set (set (set b (time_start + v) time) (risk_start + v) risk) (base_start + v) base

-- two entries for each position
abbrev pub ahead_length : ℕ
ahead_length = 2 * positions

-- for each v after u and before e: the part from u with the copy at its end, and its slope
pub record Ahead (n : ℕ) (b t : List ℕ) (u e : ℕ) (ahead : List ℕ) : Type 0 where
  pub long : length ahead ≡ ahead_length
  pub parts : (v : ℕ) → u < v → v < e → get_or ahead (2 * v) 0 ≡ (bounds_in n b).part u v + column cm_start t v
  pub slopes : (v : ℕ) → u < v → v < e → get_or ahead (2 * v + 1) 0 ≡ slope (bounds_in n b) u v

-- all entries up to n; from `end` on no part from u is a time with the copy at its end
pub record Looked (b t : List ℕ) (u end n : ℕ) (ahead : List ℕ) : Type 0 where
  pub entries : Ahead n b t u (n + 1) ahead
  pub from : u < end
  pub to : end ≤ n + 1
  pub past : (v : ℕ) → end ≤ v → v ≤ n → none ≤ get_or ahead (2 * v) 0

-- the least of what comes after u by the next memory copy, before `end`
pub record LeastAfter (n : ℕ) (ahead b : List ℕ) (d x u end r : ℕ) : Type 0 where
  pub range : r ≤ none
  pub least : (v : ℕ) → u < v → v < end → r ≤ get_or ahead (2 * v) 0 + up (get_or ahead (2 * v + 1) 0 * x) + (bounds_in n b).after d v

-- what a tick of recovery from disk adds over the stretch, in units
pub record StoppedIs (t : List ℕ) (u v r : ℕ) : Type 0 where
  pub value : (chain_in t).allowed u v ≡ true → r ≡ (apart_in t).stopped u v
  pub range : r ≤ none

-- What each function asks.
pub record ReadyForStopped (t : List ℕ) (u v : ℕ) : Type 0 where
  pub bounded : Bounded v t
  pub order : u < v

pub record ReadyToPutParts (b q : List ℕ) (m n : ℕ) : Type 0 where
  pub long : bounds_needed n ≤ length b
  pub row_long : length q ≡ positions
  pub start : m ≤ n
  pub few : n < positions

-- a table of the right length, for a chain whose numbers are bounded
pub record ReadyForBounds (b t : List ℕ) (n : ℕ) : Type 0 where
  pub long : bounds_needed n ≤ length b
  pub bounded : Bounded n t

pub record ReadyForPart (b q t : List ℕ) (m n : ℕ) : Type 0 where
  pub bounded : Bounded n t
  pub filled : Filled m (m + 1) n t b
  pub row_long : length q ≡ positions
  pub order : m < n

-- the parts from m too; the row that they were found in may be used again
pub record PartFilled (m n : ℕ) (t b q : List ℕ) : Type 0 where
  pub filled : Filled (m + 1) (m + 1) n t b
  pub row_long : length q ≡ positions

pub record ReadyForBase (b t : List ℕ) (v : ℕ) : Type 0 where
  pub bounded : Bounded v t
  pub long : square_start ≤ length b
  pub time : get_or b (time_start + v) 0 ≤ none

pub record ReadyForRisk (b t : List ℕ) (v : ℕ) : Type 0 where
  pub bounded : Bounded v t
  pub long : square_start ≤ length b
  pub risks : (u : ℕ) → u < v → get_or b (risk_start + u) 0 ≤ none

pub record ReadyForStep (n : ℕ) (b t : List ℕ) (v : ℕ) : Type 0 where
  pub bounded : Bounded v t
  pub within : v ≤ n
  pub long : bounds_needed n ≤ length b
  pub parts : (u : ℕ) → u < v → (bounds_in n b).part u v ≤ none
  pub times : (u : ℕ) → u < v → (bounds_in n b).time u ≤ none
  pub risks : (u : ℕ) → u < v → (bounds_in n b).risk u ≤ none

pub record ReadyForAhead (ahead b t : List ℕ) (u n : ℕ) : Type 0 where
  pub bounded : Bounded n t
  pub ahead_long : length ahead ≡ ahead_length
  pub long : bounds_needed n ≤ length b
  pub start : u ≤ n
  pub parts : (v : ℕ) → u < v → v ≤ n → (bounds_in n b).part u v ≤ none

pub record ReadyForAfter (n : ℕ) (ahead b : List ℕ) (d x u end : ℕ) : Type 0 where
  pub ahead_long : length ahead ≡ ahead_length
  pub long : bounds_needed n ≤ length b
  pub disk : d ≤ n
  pub start : u < end
  pub within : end ≤ n + 1
  pub few : n < positions
  pub recovery : x ≤ disk_cap
  pub parts : (v : ℕ) → u < v → v < end → get_or ahead (2 * v) 0 ≤ 2 * none
  pub slopes : (v : ℕ) → u < v → v < end → get_or ahead (2 * v + 1) 0 ≤ slope_cap
  pub afters : (v : ℕ) → u < v → v < end → (bounds_in n b).after d v ≤ none

pub record ReadyForOwn (ahead b t : List ℕ) (u end n : ℕ) : Type 0 where
  pub bounded : Bounded n t
  pub start : u ≤ n
  pub stage : Stage (u + 1) n t b
  pub looked : Looked b t u end n ahead

-- what comes after the disk copy u
pub record OwnIs (b t : List ℕ) (u n r : ℕ) : Type 0 where
  pub range : r ≤ none
  pub least : (v : ℕ) → u < v → v ≤ n → r ≤ part_low (chain_in t) (bounds_in n b) u (since n t b u u) v + (bounds_in n b).after u v
  pub end : u ≡ n → r ≡ 0

pub record ReadyForAfters (b t : List ℕ) (n : ℕ) : Type 0 where
  pub bounded : Bounded n t
  pub stage : Stage (n + 1) n t b

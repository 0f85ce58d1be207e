-- Rows of copies: times and positions before, one entry for each position. They are cut: never too low, and exact where a position is live (`Cut`).
use Rattle.std.specs.Prelude.{ℕ, ◌+◌, ◌≤◌, ◌<◌, ◌≡◌, ◌≢◌, ◌⊎◌, List, length, get_or, replicate}
use Rattle.units.specs.Limits.{none}
use Rattle.chain.specs.Working.Bounds.{low}
use Rattle.chain.specs.Working.Search.{Cost, reach, back, to_memory, least_m, least_d, back_d}
use Rattle.units.specs.Limits.{positions}
use Rattle.table.specs.Working.Table.{rd_start, cd_start, column, chain_in, Bounded}
use Rattle.bounds.specs.Working.Bounds.{bounds_in, Bounding}
use Rattle.verifications.specs.Working.Rows.{sooner, sooner_from}

-- rows of the right length
pub record Rows (time backs : List ℕ) : Type 0 where
  pub times_long : length time ≡ positions
  pub backs_long : length backs ≡ positions

-- a fresh row says 'none yet' at each
pub record FreshRows (time backs : List ℕ) : Type 0 where
  pub times : time ≡ replicate positions none
  pub positions_before : backs ≡ replicate positions 0

-- an arrival at each position w after u and before e, with time c w, has been offered to the rows
pub record Offered (time backs : List ℕ) (u e : ℕ) (c : ℕ → ℕ) (time' backs' : List ℕ) : Type 0 where
  pub times_long : length time' ≡ length time
  pub backs_long : length backs' ≡ length backs
  pub time_at : (w : ℕ) → u < w → w < e → get_or time' w 0 ≡ sooner (c w) (get_or time w 0)
  pub back_at : (w : ℕ) → u < w → w < e → get_or backs' w 0 ≡ sooner_from (c w) (get_or time w 0) u (get_or backs w 0)
  pub time_early : (w : ℕ) → w ≤ u → get_or time' w 0 ≡ get_or time w 0
  pub back_early : (w : ℕ) → w ≤ u → get_or backs' w 0 ≡ get_or backs w 0
  pub time_late : (w : ℕ) → e ≤ w → get_or time' w 0 ≡ get_or time w 0
  pub back_late : (w : ℕ) → e ≤ w → get_or backs' w 0 ≡ get_or backs w 0

-- up to the position `top` no time is too low; where v is live, its time is the least and its position before the earliest
pub record Cut (N b : ℕ) (cost : Cost) (Live : ℕ → Type 0) (top : ℕ) (time back-row : List ℕ) : Type 0 where
  pub times_long : length time ≡ positions
  pub backs_long : length back-row ≡ positions
  pub capped : (v : ℕ) → v ≤ top → get_or time v 0 ≤ N
  pub not_low : (v : ℕ) → v ≤ top → reach N b cost v ≤ get_or time v 0
  pub times : (v : ℕ) → v ≤ top → Live v → get_or time v 0 ≡ reach N b cost v
  pub backs : (v : ℕ) → v ≤ top → v ≢ b → Live v → get_or back-row v 0 ≡ back N b cost v

-- a memory copy after the disk copy d that leaves room for what comes after: less than `left` from d to the end
abbrev pub LiveCopy : (n : ℕ) → (t b : List ℕ) → (d left : ℕ) → ℕ → Type 0
LiveCopy n t b d left v = least_m (chain_in t) none d v + (bounds_in n b).after d v < left

-- a disk copy that may be on the plan of n tasks: n or up to the last disk copy before it, with room for what comes after
pub record OnPlan (t b : List ℕ) (n v : ℕ) : Type 0 where
  pub place : (v ≡ n) ⊎ (v ≤ back_d (chain_in t) none n)
  pub room : least_d (chain_in t) none v + (bounds_in n b).after v v ≤ least_d (chain_in t) none n

-- and the plan is not slower than the limit
pub record LiveDisk (t b : List ℕ) (limit n v : ℕ) : Type 0 where
  pub in_time : least_d (chain_in t) none n ≤ limit
  pub on_plan : OnPlan t b n v

-- r is m or a later memory copy, and no copy after r can matter: v is already reached no later than its bound from m, or what comes after it leaves no room
pub record Far (n : ℕ) (time t b : List ℕ) (d m left top r : ℕ) : Type 0 where
  pub from : m ≤ r
  pub to : r ≤ top
  pub reached : m < r → get_or time m 0 < none
  pub reaches : (v : ℕ) → m < v → v ≤ top
      → low (chain_in t) (bounds_in n b) m (get_or time m 0) (column rd_start t d + get_or time m 0) v < get_or time v 0
      → low (chain_in t) (bounds_in n b) m (get_or time m 0) (column rd_start t d + get_or time m 0) v + (bounds_in n b).after d v < left
      → v ≤ r

-- the arrivals at disk copies from d have been offered, by a cut row of memory copies
pub record OffersDisk (time backs t b : List ℕ) (d left n : ℕ) (time' backs' : List ℕ) : Type 0 where
  pub copies : List ℕ
  pub froms : List ℕ
  pub row : Cut none d (to_memory (chain_in t) none d) (LiveCopy n t b d left) n copies froms
  pub offered : Offered time backs d (n + 1) (λ w. get_or time d 0 + get_or copies w 0 + column cd_start t w) time' backs'

pub record ReadyForCopies (time backs : List ℕ) (u : ℕ) (part copies : List ℕ) (top : ℕ) : Type 0 where
  pub rows : Rows time backs
  pub part_long : length part ≡ positions
  pub copies_long : length copies ≡ positions
  pub start : u ≤ top
  pub few : top < positions
  pub reached : get_or time u 0 ≤ none
  pub parts : (w : ℕ) → u < w → w ≤ top → get_or part w 0 ≤ none

pub record ReadyForFar (n : ℕ) (time t b : List ℕ) (d m top : ℕ) : Type 0 where
  pub long : length time ≡ positions
  pub bounded : Bounded top t
  pub bounding : Bounding n top t b
  pub disk : d ≤ m
  pub start : m ≤ top
  pub capped : (v : ℕ) → v ≤ top → get_or time v 0 ≤ none
  pub not_low : least_m (chain_in t) none d m ≤ get_or time m 0

pub record ReadyForMemory (time backs t : List ℕ) (d m top : ℕ) : Type 0 where
  pub rows : Rows time backs
  pub bounded : Bounded top t
  pub disk : d ≤ m
  pub start : m ≤ top
  pub reached : get_or time m 0 < none

pub record ReadyForMemoryRow (n : ℕ) (time backs t b : List ℕ) (d left top : ℕ) : Type 0 where
  pub fresh : FreshRows time backs
  pub bounded : Bounded top t
  pub bounding : Bounding n top t b
  pub start : d ≤ top
  pub room : left ≤ none

pub record ReadyForDisk (time backs t b : List ℕ) (d left n : ℕ) : Type 0 where
  pub rows : Rows time backs
  pub bounded : Bounded n t
  pub bounding : Bounding n n t b
  pub start : d ≤ n
  pub reached : get_or time d 0 ≤ none
  pub room : left ≤ none

pub record ReadyForDiskRow (time backs t b : List ℕ) (limit n : ℕ) : Type 0 where
  pub fresh : FreshRows time backs
  pub bounded : Bounded n t
  pub bounding : Bounding n n t b
  pub ends : (bounds_in n b).after n n ≡ 0
  pub limited : limit < none

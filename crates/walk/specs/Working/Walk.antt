-- How the marks are found, by walking back from n to the start: what the walk goes by, what a step of it has, and what the place before it is.
-- Each step leaves room for what comes after, so that the cut rows that it reads are exact there.
use Rattle.std.specs.Prelude.{ℕ, ◌+◌, ◌-◌, ◌≤◌, ◌<◌, ◌≡◌, ◌≢◌, List, length, get_or}
use Rattle.units.specs.Limits.{none}
use Rattle.chain.specs.Working.Search.{to_verification, to_memory, least_m, least_d, back_m, back_d, State}
use Rattle.chain.specs.Working.Walk.{Place, Before}
use Rattle.units.specs.Limits.{positions}
use Rattle.bounds.specs.Working.Bounds.{bounds_in, Bounding}
use Rattle.verifications.specs.Working.Rows.{Row}
use Rattle.copies.specs.Working.Copies.{Cut, LiveCopy, OnPlan}
use Rattle.table.specs.Working.Table.{chain_in, Bounded}
use Rattle.walk.specs.declared.Walk.{Walk}

-- the disk row that the search has found: the least time of n tasks, and where that is below none, times and positions before of all disk copies that may be on
-- the plan; and the bounds end with n
pub record Found (t b : List ℕ) (n : ℕ) (time back-row : List ℕ) : Type 0 where
  pub times_long : length time ≡ positions
  pub backs_long : length back-row ≡ positions
  pub least : get_or time n 0 ≡ least_d (chain_in t) none n
  pub times : least_d (chain_in t) none n < none → (v : ℕ) → v ≤ n → OnPlan t b n v → get_or time v 0 ≡ least_d (chain_in t) none v
  pub backs : least_d (chain_in t) none n < none → (v : ℕ) → v ≤ n → v ≢ 0 → OnPlan t b n v → get_or back-row v 0 ≡ back_d (chain_in t) none v
  pub ends : (bounds_in n b).after n n ≡ 0

-- less than this is left from the disk copy d to the end
abbrev pub left_from : List ℕ → (n d : ℕ) → ℕ
left_from t n d = least_d (chain_in t) none n + 1 - least_d (chain_in t) none d

-- the memory row from d up to the position `top`, cut by what is left
abbrev pub CopyRow : (t b : List ℕ) → (n d top : ℕ) → (times copies : List ℕ) → Type 0
CopyRow t b n d top times copies = Cut none d (to_memory (chain_in t) none d) (LiveCopy n t b d (left_from t n d)) top times copies

-- the memory copy m after the disk copy d leaves room for what comes after
abbrev pub HasRoom : (t b : List ℕ) → (n d m : ℕ) → Type 0
HasRoom t b n d m = least_d (chain_in t) none d + least_m (chain_in t) none d m + (bounds_in n b).after d m ≤ least_d (chain_in t) none n

-- a step of the walk: v has mark k and the last copies before it are d and m, with the memory row from d and the row of verifications from m
pub record Walking (t b : List ℕ) (n : ℕ) (w : Walk) : Type 0 where
  pub state : State (chain_in t) none w.k w.d w.m w.v
  pub on_plan : OnPlan t b n w.d
  pub room : HasRoom t b n w.d w.m
  pub copies : CopyRow t b n w.d w.v w.times w.copies
  pub checks : Row none w.m (to_verification (chain_in t) none w.d w.m (least_m (chain_in t) none w.d w.m)) (w.v + 1) w.checks

-- the place of a step
abbrev pub place_of : Walk → Place
place_of w = record { k = w.k; d = w.d; m = w.m; v = w.v }

-- r is the step before w, at 0 where the walk is over
pub record StepsBack (t b : List ℕ) (n : ℕ) (w r : Walk) : Type 0 where
  pub before : Before (chain_in t) none (place_of w) (place_of r)
  pub walking : 0 < r.v → Walking t b n r

-- the row of verifications starts at the memory copy before v, with its time
pub record RowsAt (t : List ℕ) (k d v : ℕ) (times copies : List ℕ) (r : Walk) : Type 0 where
  pub is : r ≡ record { k = k; d = d; m = get_or copies v 0; v = v; times = times; copies = copies; checks = r.checks }
  pub checks : Row none (get_or copies v 0) (to_verification (chain_in t) none d (get_or copies v 0) (get_or times (get_or copies v 0) 0)) (v + 1) r.checks

-- What each function of the walk asks, and the step that it gives.
-- the step at the copy v with mark k, whose last disk copy is d
pub record AtCopy (t b : List ℕ) (n k d v : ℕ) (r : Walk) : Type 0 where
  pub walking : Walking t b n r
  pub k_is : r.k ≡ k
  pub d_is : r.d ≡ d
  pub m_is : r.m ≡ back_m (chain_in t) none d v
  pub v_is : r.v ≡ v

pub record ReadyToWalk (t b : List ℕ) (n : ℕ) (time backs : List ℕ) : Type 0 where
  pub bounded : Bounded n t
  pub bounding : Bounding n n t b
  pub some_task : 0 < n
  pub in_time : least_d (chain_in t) none n < none
  pub found : Found t b n time backs

pub record ReadyAtDisk (t b : List ℕ) (n : ℕ) (time backs : List ℕ) (v : ℕ) : Type 0 where
  pub ready : ReadyToWalk t b n time backs
  pub some_task : 0 < v
  pub within : v ≤ n
  pub on_plan : OnPlan t b n v

pub record ReadyToStep (t b : List ℕ) (n : ℕ) (time backs : List ℕ) (w : Walk) : Type 0 where
  pub ready : ReadyToWalk t b n time backs
  pub within : w.v ≤ n
  pub walking : Walking t b n w

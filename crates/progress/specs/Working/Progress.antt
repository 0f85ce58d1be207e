-- How a price is worked out, task by task: what is carried from one position to the next, and how far its numbers may go. `Progresses` (of `pricing`) ties it to
-- Q, M and D.
use Rattle.std.specs.Prelude.{ℕ, ◌+◌, ◌≤◌, ◌<◌, ◌^◌, ◌≡◌, true, cond}
use Rattle.units.specs.Limits.{cost_limit, none, task_limit}
use Rattle.chain.specs.Time.{disk}
use Rattle.chain.specs.Working.Factors.{stretch_of}
use Rattle.job.specs.Job.{is_allowed}
use Rattle.job.specs.Working.Sound.{CostsBounded}
use Rattle.job.specs.declared.Job.{Job}
use Rattle.marks.specs.Pays.{pays_of}
use Rattle.costs.specs.Costs.{v_at, cm_at, cd_at, rd_at, rm_at}
use Rattle.costs.specs.Working.Factors.{factors_of}
use Rattle.progress.specs.declared.Progress.{Progress}

-- Q(v) from what is carried to v
unfoldable pub arrival_of : Job → Progress → ℕ → ℕ
arrival_of job s v =
    s.q
    + stretch_of (factors_of job.platform s.weight (v_at job v)) (record { disk = rd_at job s.d + s.mt; memory = rm_at job s.m }) s.q

-- what is carried past the mark at v
unfoldable pub past_mark : Job → Progress → (v mark : ℕ) → Progress
past_mark job s v mark =
    let Qv : ℕ = arrival_of job s v in
    let Mv : ℕ = s.mt + Qv + cm_at job v in
    cond (pays_of mark).v
    (cond (pays_of mark).cm
    (cond (pays_of mark).cd
    (record { weight = 0; m = v; d = v; q = 0; mt = 0; dt = s.dt + Mv + cd_at job v })
    (record { weight = 0; m = v; d = s.d; q = 0; mt = Mv; dt = s.dt }))
    (record { weight = 0; m = s.m; d = s.d; q = Qv; mt = s.mt; dt = s.dt }))
    s

-- what is carried, with one task's weight more
abbrev pub weighed : Progress → ℕ → Progress
weighed s w = record { weight = s.weight + w; m = s.m; d = s.d; q = s.q; mt = s.mt; dt = s.dt }

-- what is carried has not passed the time limit
pub record InTime (s : Progress) : Type 0 where
  pub weight : s.weight ≤ cost_limit
  pub time : s.dt + s.mt + s.q < none

-- v is a position, and the copies carried to it lie no later, so that each has its costs
pub record CarriedTo (s : Progress) (v : ℕ) : Type 0 where
  pub position : v ≤ task_limit
  pub memory : s.m ≤ v
  pub disk : s.d ≤ v

-- the most that Q(v) may be, and the three times together
abbrev pub arrival_cap : ℕ
arrival_cap = 2 ^ 44

abbrev pub progress_cap : ℕ
progress_cap = 2 ^ 46

pub record ReadyForArrival (job : Job) (s : Progress) (v : ℕ) : Type 0 where
  pub costs : CostsBounded job.platform
  pub carried : CarriedTo s v
  pub progress : InTime s
  pub allowed : is_allowed job.platform s.weight ≡ true

pub record Arrived (job : Job) (s : Progress) (v r : ℕ) : Type 0 where
  pub value : r ≡ arrival_of job s v
  pub cap : r ≤ arrival_cap

pub record ReadyForMark (job : Job) (s : Progress) (v mark : ℕ) : Type 0 where
  pub costs : CostsBounded job.platform
  pub carried : CarriedTo s v
  pub progress : InTime s
  pub allowed : 0 < mark → is_allowed job.platform s.weight ≡ true
  pub mark_range : mark ≤ disk

pub record Passed (job : Job) (s : Progress) (v mark : ℕ) (r : Progress) : Type 0 where
  pub value : r ≡ past_mark job s v mark
  pub cap : r.dt + r.mt + r.q ≤ progress_cap

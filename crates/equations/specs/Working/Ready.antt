-- What each function of the equations asks: a job that passed checks 3, 7 and 8, positions in their order, and a time that is none at most.
use Rattle.std.specs.Prelude.{ℕ, ◌≤◌, ◌<◌, cond, ltb}
use Rattle.units.specs.Limits.{none}
use Rattle.job.specs.Working.Sound.{Sound}
use Rattle.job.specs.declared.Job.{Job}
use Rattle.equations.specs.declared.Least.{Least}

-- the least so far, with one position more: on a tie the earlier one stays
abbrev pub lesser : Least → (at time : ℕ) → Least
lesser least at time = cond (ltb time least.time) (record { time = time; at = at }) least

pub record ReadyForGrowths (job : Job) (v1 v2 : ℕ) : Type 0 where
  pub sound : Sound job
  pub order : v1 < v2
  pub end : v2 ≤ job.tasks

pub record ReadyForE (job : Job) (d1 m1 mem v1 v2 : ℕ) : Type 0 where
  pub stretch : ReadyForGrowths job v1 v2
  pub copies : d1 ≤ m1
  pub start : m1 ≤ v1
  pub time : mem ≤ none

pub record ReadyForVerification (job : Job) (d1 m1 mem v2 : ℕ) : Type 0 where
  pub sound : Sound job
  pub copies : d1 ≤ m1
  pub start : m1 ≤ v2
  pub end : v2 ≤ job.tasks
  pub time : mem ≤ none

pub record ReadyForMemory (job : Job) (d1 m2 : ℕ) : Type 0 where
  pub sound : Sound job
  pub start : d1 ≤ m2
  pub end : m2 ≤ job.tasks

pub record ReadyForDisk (job : Job) (d2 : ℕ) : Type 0 where
  pub sound : Sound job
  pub end : d2 ≤ job.tasks

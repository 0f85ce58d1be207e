-- The places of the walk back, and what each of its functions asks: least times below none, so that there is a position before.
use Rattle.std.specs.Prelude.{ℕ, ◌≤◌, ◌<◌}
use Rattle.units.specs.Limits.{none}
use Rattle.chain.specs.Working.Walk.{Place, OnWay}
use Rattle.job.specs.Working.Sound.{Sound}
use Rattle.job.specs.declared.Job.{Job}
use Rattle.costs.specs.Stretch.{chain_of}
use Rattle.equations.specs.Equations.{E_disk}
use Rattle.engine.specs.declared.walk_back.Place as code

-- the theory's place of one in code
abbrev pub place_of : code.Place → Place
place_of w = record { k = w.k; d = w.d; m = w.m; v = w.v }

pub record ReadyAtDisk (job : Job) (v : ℕ) : Type 0 where
  pub sound : Sound job
  pub some_task : 0 < v
  pub end : v ≤ job.tasks
  pub in_time : E_disk (chain_of job) none v < none

pub record ReadyToStep (job : Job) (w : code.Place) : Type 0 where
  pub sound : Sound job
  pub end : w.v ≤ job.tasks
  pub on_way : OnWay (chain_of job) none (place_of w)

pub record ReadyForMarks (job : Job) : Type 0 where
  pub sound : Sound job
  pub in_time : E_disk (chain_of job) none job.tasks < none

-- What each function of planning asks.
use Rattle.table.specs.Working.Table.{needed}
use Rattle.bounds.specs.Working.Bounds.{bounds_needed}
use Rattle.std.specs.Prelude.{ℕ, ◌≤◌, List, length}
use Rattle.job.specs.Working.Sound.{Sound}
use Rattle.job.specs.declared.Job.{Job}
use Rattle.costs.specs.Energy.{ProductsFit}
use Rattle.costs.specs.declared.Powers.{Powers}

pub record ReadyForJob (job : Job) (buffer : List ℕ) : Type 0 where
  pub sound : Sound job
  pub room : job.tasks ≤ length buffer

pub record ReadyForPowers (powers : Powers) (job : Job) (buffer : List ℕ) : Type 0 where
  pub ready : ReadyForJob job buffer
  pub products : ProductsFit powers job

-- a table and bounds that are long enough for the job
pub record ReadyForTables (table bounds : List ℕ) (powers : Powers) (job : Job) (buffer : List ℕ) : Type 0 where
  pub ready : ReadyForPowers powers job buffer
  pub table_long : needed job.tasks ≤ length table
  pub bounds_long : bounds_needed job.tasks ≤ length bounds

-- Costs and payments as the code gives them.
use Rattle.std.specs.Prelude.{ℕ, ◌*◌, ◌≤◌, ◌<◌, ◌^◌, ◌≡◌, Bool, cond}
use Rattle.job.specs.declared.Job.{Job}
use Rattle.job.specs.declared.Platform.{Platform}

-- the cost itself; made of so many fields of the sheet, it is below so many times 2^32
pub record CostIs (fields cost r : ℕ) : Type 0 where
  pub value : r ≡ cost
  pub fits : r < fields * 2 ^ 32

-- the cost in every job with this platform
pub record ChargeIs (fields : ℕ) (platform : Platform) (cost : Job → ℕ) (r : ℕ) : Type 0 where
  pub value : (job : Job) → job.platform ≡ platform → r ≡ cost job
  pub fits : r < fields * 2 ^ 32

-- what is paid of a cost: all of it or nothing
pub record PaidIs (pays : Bool) (cost r : ℕ) : Type 0 where
  pub value : r ≡ cond pays cost 0
  pub most : r ≤ cost

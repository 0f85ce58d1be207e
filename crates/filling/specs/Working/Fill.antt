-- How the table is filled from a job and its powers, a near end and a far end, then position by position.
use Rattle.std.specs.Prelude.{ℕ, ◌+◌, ◌*◌, ◌≤◌, ◌<◌, ◌≡◌, ◌⊎◌, List, length}
use Rattle.chain.specs.Working.Same.{SameAllowed}
use Rattle.job.specs.Working.Sound.{Sound}
use Rattle.job.specs.declared.Job.{Job}
use Rattle.costs.specs.Costs.{cm_at, cd_at, rd_at, rm_at}
use Rattle.costs.specs.Energy.{energy_chain, ProductsFit}
use Rattle.costs.specs.Working.Factors.{energy_factors_at, FactorsIfAllowed}
use Rattle.costs.specs.declared.Powers.{Powers}
use Rattle.table.specs.Working.Table.{needed, cm_start, cd_start, rd_start, rm_start, entry_of, column, chain_in, Bounded}

-- the pair (x, y) comes before (u, v)
abbrev pub EarlierPair : (x y u v : ℕ) → Type 0
EarlierPair x y u v = (x < u) ⊎ ((x ≡ u) × (y < v))

-- the stretches of the job before the pair (u, v) have their factors, if allowed
pub record PairsTo (powers : Powers) (job : Job) (u v : ℕ) (t : List ℕ) : Type 0 where
  pub long : needed job.tasks ≤ length t
  pub pairs : (x y : ℕ) → x < y → y ≤ job.tasks → EarlierPair x y u v → FactorsIfAllowed (energy_factors_at powers job x y) (entry_of t x y)

-- all stretches of the job have their factors, if allowed, and the positions before k their costs
pub record TableTo (powers : Powers) (job : Job) (k : ℕ) (t : List ℕ) : Type 0 where
  pub long : needed job.tasks ≤ length t
  pub pairs : (x y : ℕ) → x < y → y ≤ job.tasks → FactorsIfAllowed (energy_factors_at powers job x y) (entry_of t x y)
  pub cm : (v : ℕ) → v < k → column cm_start t v ≡ powers.saving * cm_at job v
  pub cd : (v : ℕ) → v < k → column cd_start t v ≡ powers.saving * cd_at job v
  pub rd : (v : ℕ) → v < k → column rd_start t v ≡ powers.saving * rd_at job v
  pub rm : (v : ℕ) → v < k → column rm_start t v ≡ powers.saving * rm_at job v

-- the table holds the chain of the job in energy, up to its last task and over the allowed stretches, within bounds
pub record TableOf (powers : Powers) (job : Job) (t : List ℕ) : Type 0 where
  pub bounded : Bounded job.tasks t
  pub same : SameAllowed job.tasks (chain_in t) (energy_chain powers job)

-- What each function of the fill asks.
pub record ReadyForCosts (powers : Powers) (job : Job) (t : List ℕ) : Type 0 where
  pub sound : Sound job
  pub products : ProductsFit powers job
  pub filled : PairsTo powers job job.tasks (job.tasks + 1) t

pub record ReadyToFill (powers : Powers) (job : Job) (t : List ℕ) : Type 0 where
  pub sound : Sound job
  pub products : ProductsFit powers job
  pub long : needed job.tasks ≤ length t

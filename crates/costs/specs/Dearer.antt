-- Request 107: two jobs, the second with its costs raised.
use Rattle.std.specs.Prelude.{ℕ, ◌+◌, ◌≤◌, ◌≡◌, ◌⊎◌}
use Rattle.job.specs.declared.Job.{Job}
use Rattle.job.specs.declared.Platform.{Platform}

-- 'any of the five costs': C_D, C_M, V, R_D and R_M
pub data Cost : Type 0 where
  DiskCopy : Cost
  MemoryCopy : Cost
  Verification : Cost
  DiskRecovery : Cost
  MemoryRecovery : Cost

unfoldable pub cost_of : Cost → Platform → ℕ
cost_of DiskCopy p = p.cd
cost_of MemoryCopy p = p.cm
cost_of Verification p = p.v
cost_of DiskRecovery p = p.rd
cost_of MemoryRecovery p = p.rm

-- 'other fields fixed': n, the weights and the two rates
pub record SameButCosts (a b : Job) : Type 0 where
  pub tasks : a.tasks ≡ b.tasks
  pub weights : a.weights ≡ b.weights
  pub failstop : a.platform.failstop ≡ b.platform.failstop
  pub silent : a.platform.silent ≡ b.platform.silent

-- 'raising any of the five costs, other fields fixed': from a to b the cost k is not less, and every other is the same
pub record OneRaised (k : Cost) (a b : Job) : Type 0 where
  pub others : SameButCosts a b
  pub raised : cost_of k a.platform ≤ cost_of k b.platform
  pub fixed : (j : Cost) → (j ≡ k) ⊎ (cost_of j a.platform ≡ cost_of j b.platform)

-- several at once: from a to b no cost is less
pub record CostsRaised (a b : Job) : Type 0 where
  pub others : SameButCosts a b
  pub costs : (k : Cost) → cost_of k a.platform ≤ cost_of k b.platform

-- a job that has the cost k raised by x, and nothing else changed: every job has one (`can_raise`)
pub record CanRaise (k : Cost) (x : ℕ) (a : Job) : Type 0 where
  pub job : Job
  pub one : OneRaised k a job
  pub amount : cost_of k job.platform ≡ cost_of k a.platform + x

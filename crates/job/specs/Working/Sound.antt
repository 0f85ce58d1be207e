-- What a job that passed checks 3, 7 and 8 is known to have, as facts.
use Rattle.std.specs.Prelude.{ℕ, ◌*◌, ◌≤◌, ◌<◌, ◌^◌, ◌≡◌, List, length}
use Rattle.units.specs.Limits.{cost_limit, task_limit}
use Rattle.job.specs.Job.{total, exponent}
use Rattle.job.specs.declared.Platform.{Platform}
use Rattle.job.specs.declared.Job.{Job}

pub record CostsBounded (p : Platform) : Type 0 where
  pub cd : p.cd ≤ cost_limit
  pub cm : p.cm ≤ cost_limit
  pub v : p.v ≤ cost_limit
  pub rd : p.rd ≤ cost_limit
  pub rm : p.rm ≤ cost_limit

-- a task count that passed check 3, and weights for so many
pub record ReadyForWeights (n : ℕ) (w : List ℕ) : Type 0 where
  pub few_tasks : n ≤ task_limit
  pub held : n ≤ length w

-- the weight of the first n tasks, of weights in any range
pub record WeightTo (weights : List ℕ) (n r : ℕ) : Type 0 where
  pub value : r ≡ total weights n
  pub range : r ≤ task_limit * 2 ^ 32

-- an exponent as the code gives it: of a rate of 32 bits and a weight in range
pub record ExponentIs (rate weight r : ℕ) : Type 0 where
  pub value : r ≡ exponent rate weight
  pub range : r ≤ 2 ^ 38

pub record Sound (job : Job) : Type 0 where
  pub some_task : 0 < job.tasks
  pub few_tasks : job.tasks ≤ task_limit
  pub costs : CostsBounded job.platform
  pub sum : total job.weights job.tasks ≤ cost_limit

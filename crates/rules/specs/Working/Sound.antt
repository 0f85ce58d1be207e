-- What an event's arithmetic needs of a state that 21 does not turn down, as facts.
use Rattle.std.specs.Prelude.{ℕ, ◌≤◌, ◌<◌, ◌^◌, ◌≡◌, List}
use Rattle.job.specs.Job.{total, weight_at}
use Rattle.job.specs.Working.Sound.{Sound}
use Rattle.rules.specs.Rules.{total_limit, total_of}
use Rattle.state.specs.declared.Run.{Run}

pub record SoundRun (run : Run) : Type 0 where
  pub values : Sound run.job
  pub position : run.place.position ≤ run.job.tasks
  pub kept : run.place.sums.kept ≡ total run.job.weights run.place.position
  pub sums : total_of run.place.sums ≤ total_limit

-- the weight of task j + 1 as the code gives it, a field of 32 bits
pub record WeightIs (weights : List ℕ) (j r : ℕ) : Type 0 where
  pub value : r ≡ weight_at weights j
  pub fits : r < 2 ^ 32

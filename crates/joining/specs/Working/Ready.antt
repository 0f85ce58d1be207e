-- What the functions of this crate ask of their callers, which are in it, and a refused answer.
use Rattle.std.specs.Prelude.{ℕ, ◌≤◌, length}
use Rattle.units.specs.Limits.{task_limit}
use Rattle.job.specs.declared.Job.{Job}
use Rattle.joining.specs.declared.Joined.{Joined}

-- two jobs of at most 64 tasks each, with a weight for each task
pub record Both (a b : Job) : Type 0 where
  pub few_first : a.tasks ≤ task_limit
  pub few_second : b.tasks ≤ task_limit
  pub held_first : a.tasks ≤ length a.weights
  pub held_second : b.tasks ≤ length b.weights

-- a refused join
abbrev pub refused_join : ℕ → Joined
refused_join number = record { number = number; length = 0 }

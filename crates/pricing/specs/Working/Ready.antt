-- What pricing asks of its callers.
use Rattle.std.specs.Prelude.{ℕ, ◌≡◌, List}
use Rattle.refusals.specs.Refusals.{first}
use Rattle.job.specs.Working.Sound.{Sound}
use Rattle.job.specs.declared.Job.{Job}
use Rattle.marks.specs.Marks.{marks_conditions}

-- values that passed checks 3, 7 and 8, and marks that passed 9 and 10
pub record ReadyForTime (job : Job) (l : List ℕ) : Type 0 where
  pub sound : Sound job
  pub marks : first (marks_conditions job l) ≡ 0

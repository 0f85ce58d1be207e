-- What the test of stretches asks: values that passed checks 3, 7 and 8, and marks that passed check 9.
use Rattle.std.specs.Prelude.{ℕ, ◌≡◌, false, List}
use Rattle.job.specs.Working.Sound.{Sound}
use Rattle.job.specs.declared.Job.{Job}
use Rattle.marks.specs.Marks.{bad_marks}

pub record ReadyForStretches (job : Job) (l : List ℕ) : Type 0 where
  pub sound : Sound job
  pub marks : bad_marks job.tasks l ≡ false

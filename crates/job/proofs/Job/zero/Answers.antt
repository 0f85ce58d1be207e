-- `job::Job::zero` meets its contract. The code is the definition. Assumes nothing.
use mathlib.Core.Path.{refl}
use Rattle.job.specs.Job.{zero_job}
use Rattle.job.proofs.Job.zero.Goals as goal

pub returns : goal.returns
unfolding zero_job
returns c = refl

-- `job::stretch::is_allowed` meets its contract. The two exponents, then the comparison of their sum with the limit. Assumes nothing.
use Rattle.job.specs.Job.{is_allowed}
use Rattle.job.proofs.stretch.is_allowed.Goals as goal

pub returns : goal.returns
unfolding is_allowed
returns c = rw (c.exponent_of.ensures.value, c.exponent_of-2.ensures.value)

-- `job::checks::bad_count` meets its contract. The code is the definition of condition 3. Assumes nothing.
use borrow.Author.Tests.{eq-eqb, ne_eqb}
use Rattle.job.specs.Checks.{bad_count}
use Rattle.job.proofs.checks.bad_count.Goals as goal

pub returns-then-n-eq0 : goal.returns-then-n-eq0
unfolding bad_count
returns-then-n-eq0 c = simp (eq-eqb _ _ c.if-n-eq0.true)

pub returns-else-n-eq0 : goal.returns-else-n-eq0
unfolding bad_count
returns-else-n-eq0 c = simp (ne_eqb _ _ c.if-n-eq0.false)

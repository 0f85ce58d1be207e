-- `job::checks::bad_weight` meets its contract. Each return rewrites the test by the branch that led there. Assumes nothing.
use borrow.Author.Tests.{eq-eqb, ne_eqb}
use Rattle.job.proofs.checks.bad_weight.Goals as goal

pub returns-then-w-eq0 : goal.returns-then-w-eq0
returns-then-w-eq0 c = simp (eq-eqb _ _ c.if-w-eq0.true)

pub returns-else-w-eq0 : goal.returns-else-w-eq0
returns-else-w-eq0 c = simp (ne_eqb _ _ c.if-w-eq0.false)

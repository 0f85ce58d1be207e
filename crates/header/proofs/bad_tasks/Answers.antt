-- `header::bad_tasks` meets its contract. The code is the definition of condition 3. Assumes nothing.
use borrow.Author.Tests.{eq-eqb, ne_eqb}
use Rattle.header.specs.Header.{bad_tasks}
use Rattle.header.proofs.bad_tasks.Goals as goal

pub returns-then-n-eq0 : goal.returns-then-n-eq0
unfolding bad_tasks
returns-then-n-eq0 c = rw (← c.task_count-n.ensures.is, eq-eqb _ _ c.if-n-eq0.true)

pub returns-else-n-eq0 : goal.returns-else-n-eq0
unfolding bad_tasks
returns-else-n-eq0 c = rw (← c.task_count-n.ensures.is, ← c.most_tasks-most.ensures, ne_eqb _ _ c.if-n-eq0.false)

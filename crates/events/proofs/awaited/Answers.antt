-- `events::awaited` meets its contract, by the branch. Assumes nothing.
use borrow.Author.Tests.{eq-eqb, ne_eqb}
use Rattle.events.proofs.awaited.Goals as goal

pub returns-then-mark-eq0 : goal.returns-then-mark-eq0
returns-then-mark-eq0 c = rw (eq-eqb _ _ c.if-mark-eq0.true)

pub returns : goal.returns
returns c = rw (ne_eqb _ _ c.if-mark-eq0.false)

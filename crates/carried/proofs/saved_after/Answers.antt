-- `carried::saved_after` meets its contract, by the branch. Assumes nothing.
use borrow.Author.Tests.{le-leb, lt-leb}
use Rattle.carried.proofs.saved_after.Goals as goal

pub returns-then-least-mark : goal.returns-then-least-mark
returns-then-least-mark c = rw (le-leb _ _ c.if-least-mark.true)

pub returns : goal.returns
returns c = rw (lt-leb _ _ c.if-least-mark.false)

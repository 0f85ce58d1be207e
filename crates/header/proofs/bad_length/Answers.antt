-- `header::bad_length` meets its contract. The code is the definition of condition 1. Assumes nothing.
use borrow.Author.Tests.{lt-ltb, le-ltb}
use Rattle.header.specs.Header.{bad_length}
use Rattle.header.proofs.bad_length.Goals as goal

pub returns-then-s-lt-SHORTEST_SHEET : goal.returns-then-s-lt-SHORTEST_SHEET
unfolding bad_length
returns-then-s-lt-SHORTEST_SHEET c = simp (lt-ltb _ _ c.if-s-lt-SHORTEST_SHEET.true)

pub returns-else-s-lt-SHORTEST_SHEET : goal.returns-else-s-lt-SHORTEST_SHEET
unfolding bad_length
returns-else-s-lt-SHORTEST_SHEET c = simp (le-ltb _ _ c.if-s-lt-SHORTEST_SHEET.false)

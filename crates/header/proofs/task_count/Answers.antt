-- `header::task_count` meets its contract. The byte at its place in the header. Assumes nothing.
use Rattle.header.specs.Header.{tasks}
use borrow.Author.Rules.{rules}
use Rattle.header.proofs.task_count.Goals as goal

pub returns : goal.returns
unfolding tasks
returns c = search rules

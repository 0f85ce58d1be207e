-- `header::offset_of` meets its contract. The field at its place in the pair. Assumes nothing.
use Rattle.header.specs.Header.{offset}
use borrow.Author.Rules.{rules}
use Rattle.header.proofs.offset_of.Goals as goal

pub returns : goal.returns
unfolding offset
returns c = search rules

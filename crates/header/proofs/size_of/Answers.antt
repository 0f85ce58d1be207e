-- `header::size_of` meets its contract. The field at its place in the pair. Assumes nothing.
use Rattle.header.specs.Header.{size}
use borrow.Author.Rules.{rules}
use Rattle.header.proofs.size_of.Goals as goal

pub returns : goal.returns
unfolding size
returns c = search rules

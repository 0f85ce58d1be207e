-- `bounds::beyond` meets its contract. The base of u is not more than a recovery may be, so its ticks fit. Assumes nothing.
use Rattle.bounds.specs.Working.Bounds.{bounds_in}
use borrow.Author.Rules.{rules}
use Rattle.bounds.proofs.beyond.Goals as goal

pub returns : goal.returns
unfolding bounds_in
returns c n = search rules

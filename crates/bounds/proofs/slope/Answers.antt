-- `bounds::slope` meets its contract. The risks of both ends. Assumes nothing.
use borrow.Author.Rules.{rules}
use Rattle.chain.specs.Working.Bounds.{slope}
use Rattle.bounds.specs.Working.Bounds.{bounds_in}
use Rattle.bounds.proofs.slope.Goals as goal

pub returns : goal.returns
unfolding slope bounds_in
returns c n = search rules

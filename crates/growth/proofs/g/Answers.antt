-- `growth::g` meets its contract: G is the sum at its shift. Assumes nothing.
use borrow.Author.Rules.{rules}
use Rattle.growth.specs.Growth.{G}
use Rattle.growth.proofs.g.Goals as goal

pub returns : goal.returns
unfolding G
returns c = search rules

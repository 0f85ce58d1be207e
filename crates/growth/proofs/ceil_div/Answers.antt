-- `growth::ceil_div` meets its contract: the code is the definition. Assumes nothing.
use borrow.Author.Rules.{rules}
use Rattle.growth.specs.Growth.{ceil_div}
use Rattle.growth.proofs.ceil_div.Goals as goal

pub returns : goal.returns
unfolding ceil_div
returns c = search rules

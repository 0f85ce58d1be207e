-- `growth::h` meets its contract: H is the sum at its shift. Assumes nothing.
use borrow.Author.Rules.{rules}
use Rattle.growth.specs.Growth.{H}
use Rattle.growth.proofs.h.Goals as goal

pub returns : goal.returns
unfolding H
returns c = search rules

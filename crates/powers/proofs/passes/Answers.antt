-- `powers::passes` meets its contract. A power in range times a total of weights is below 2^64. Assumes nothing.
use mathlib.Core.Path.{refl}
use Rattle.powers.specs.Powers.{passes}
use Rattle.powers.proofs.passes.Goals as goal

pub returns : goal.returns
unfolding passes
returns c = refl

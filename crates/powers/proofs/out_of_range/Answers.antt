-- `powers::out_of_range` meets its contract. The code is the definition. Assumes nothing.
use Rattle.std.proofs.lemmas.Grind.{common_steps}
use native.Mathlib.Omega.{arith}
use Rattle.powers.specs.Powers.{out_of_range}
use Rattle.powers.proofs.out_of_range.Goals as goal

pub returns : goal.returns
unfolding out_of_range
returns c = grind (arith, common_steps)

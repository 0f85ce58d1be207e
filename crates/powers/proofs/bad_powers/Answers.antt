-- `powers::bad_powers` meets its contract. The first power, then the second. Assumes nothing.
use Rattle.std.proofs.Common.{rules}
use Rattle.powers.specs.Powers.{bad_powers}
use Rattle.powers.proofs.bad_powers.Goals as goal

pub returns-then-bad_computing : goal.returns-then-bad_computing
unfolding bad_powers
returns-then-bad_computing c = search rules

pub returns-else-bad_computing : goal.returns-else-bad_computing
unfolding bad_powers
returns-else-bad_computing c = search rules

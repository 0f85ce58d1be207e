-- The code is the definition.
use Rattle.std.proofs.Common.{rules}
use Rattle.units.specs.Unit.{up}
use Rattle.units.proofs.rounded_up.Goals as goal

pub returns : goal.returns
unfolding up
returns c = search rules

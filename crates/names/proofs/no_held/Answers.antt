-- `names::no_held` meets its contract. Assumes nothing.
use Rattle.names.specs.Names.{held}
use mathlib.Core.Path.{ap}
use Rattle.names.proofs.no_held.Goals as goal

pub returns : goal.returns
returns c = ap (held 0) c.beginning.ensures

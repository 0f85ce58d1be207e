-- `names::Names::none` meets its contract. Assumes nothing.
use mathlib.Core.Path.{ap}
use lib.ListN.{replicate}
use Rattle.names.specs.Names.{name_limit, no_names}
use Rattle.names.specs.declared.Held.{Held}
use Rattle.names.specs.declared.Names.{Names}
use Rattle.names.proofs.Names.none.Goals as goal

-- no name, and this in each entry
all : Held → Names
all h = record { count = 0; entries = replicate name_limit h }

pub returns : goal.returns
unfolding no_names all
returns c = ap all c.no_held.ensures

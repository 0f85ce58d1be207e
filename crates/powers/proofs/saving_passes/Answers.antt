-- `powers::saving_passes` meets its contract. Assumes nothing.
use Rattle.std.proofs.Common.{rules}
use Rattle.std.proofs.iter.runs.Made.{chains}
use Rattle.lists.specs.Lists.{some}
use Rattle.powers.specs.Powers.{saving_passes}
use Rattle.powers.proofs.saving_passes.Goals as goal

pub returns : goal.returns
unfolding saving_passes some
returns c = search (rules, chains)

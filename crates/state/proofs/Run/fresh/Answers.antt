-- `state::Run::fresh` meets its contract: the entries of its tasks, and the beginning. Assumes nothing.
use Rattle.state.specs.State.{fresh}
use Rattle.state.proofs.EntriesTaken.{first_cleared}
use Rattle.state.proofs.Run.fresh.Goals as goal

pub returns : goal.returns
unfolding fresh
returns c = rw (first_cleared _ _ _ c.first_entries-weights.ensures, first_cleared _ _ _ c.first_entries.ensures, c.beginning.ensures)

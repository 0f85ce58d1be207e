-- `state::Run::zero` meets its contract. Its values and its place have every field 0. Assumes nothing.
use Rattle.state.specs.State.{zero_run}
use Rattle.state.proofs.Run.zero.Goals as goal

pub returns : goal.returns
unfolding zero_run
returns c = rw (c.zero.ensures, c.beginning.ensures)

-- `state::first_entries` meets its contract: what is copied to the front are the entries. Assumes nothing.
use Rattle.state.proofs.EntriesTaken.{first_copied}
use Rattle.state.proofs.first_entries.Goals as goal

pub returns : goal.returns
returns g c = rw c.copy_from_slice.ensures.after (first_copied c.args.list.now c.args.n c.entries-most.result c.args.zero c.entries-most.ensures)

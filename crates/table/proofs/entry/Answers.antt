-- `table::entry` meets its contract. The work from its halves and the two growth sums, read at the pair's place. Assumes nothing.
use Rattle.table.specs.Working.Table.{entry_of}
use Rattle.table.proofs.entry.Goals as goal

pub returns : goal.returns
unfolding entry_of
returns c =
    let pair-index = c.pair_index in
    rw (c.from.ensures, c.from-2.ensures, c.from-3.ensures, c.from-4.ensures, pair-index.ensures.value)

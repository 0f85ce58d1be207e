-- `table::column_at` meets its contract. One entry of the table. Assumes nothing.
use Rattle.table.specs.Working.Table.{column}
use Rattle.table.proofs.column_at.Goals as goal

pub returns : goal.returns
unfolding column
returns c =
    c.from.ensures

-- `copies::disk_row` meets its contract. The loop's invariant: the row has had the turns of the positions before d. Assumes nothing.
use Rattle.units.specs.Limits.{none}
use Rattle.chain.specs.Working.Search.{to_disk}
use Rattle.copies.specs.Working.Copies.{LiveDisk}
use Rattle.table.specs.Working.Table.{chain_in}
use Rattle.copies.proofs.Offers.{Turn}
use Rattle.copies.proofs.disk_row.Given as goal

abbrev pub invariant-loop-d : goal.invariant-loop-d
invariant-loop-d l = Turn none 0 (to_disk (chain_in l.t) none) (LiveDisk l.t l.b l.limit l.n) l.n l.d l.time l.backs

-- `copies::memory_row` meets its contract. The loop's invariant: the row has had the turns of the positions before m. Assumes nothing.
use Rattle.units.specs.Limits.{none}
use Rattle.chain.specs.Working.Search.{to_memory}
use Rattle.copies.specs.Working.Copies.{LiveCopy}
use Rattle.table.specs.Working.Table.{chain_in}
use Rattle.copies.proofs.Offers.{Turn}
use Rattle.copies.proofs.memory_row.Given as goal

abbrev pub invariant-loop-m : goal.invariant-loop-m
invariant-loop-m l = Turn none l.d (to_memory (chain_in l.t) none l.d) (LiveCopy l.n l.t l.b l.d l.left) l.top l.m l.time l.backs

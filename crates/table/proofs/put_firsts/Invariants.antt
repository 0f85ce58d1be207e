-- `table::put_firsts` meets its contract. The loop's invariant: the positions before v have their first. Assumes nothing.
use Rattle.table.specs.Working.Table.{FirstsPut}
use Rattle.table.proofs.put_firsts.Given as goal

abbrev pub invariant-loop-v : goal.invariant-loop-v
invariant-loop-v l = FirstsPut l.initial.t l.v l.t

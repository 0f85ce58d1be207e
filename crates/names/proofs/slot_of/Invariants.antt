-- `names::slot_of` meets its contract. The loop's invariant: the entries passed have other names. Assumes nothing.
use lib.ListN.{take}
use Rattle.names.proofs.Slots.{Passed}
use Rattle.names.proofs.slot_of.Given as goal

abbrev pub invariant-loop-j : goal.invariant-loop-j
invariant-loop-j l = Passed l.name (take l.count l.entries) l.j

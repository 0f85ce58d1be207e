-- `names::take_out` meets its contract. The loop's invariant: the entries before j have moved up. Assumes nothing.
use Rattle.names.proofs.Entries.{MovedUp}
use Rattle.names.proofs.take_out.Given as goal

abbrev pub invariant-loop-j : goal.invariant-loop-j
invariant-loop-j l = MovedUp l.initial.entries l.slot l.last l.entries l.j

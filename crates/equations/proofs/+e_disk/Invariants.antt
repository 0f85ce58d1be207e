-- `equations::e_disk` meets its contract: a cycle of its own, whose measure is d_2. The loop's invariant: the least time over the d_1 offered so far, and the earliest that gives it.
-- Assumes nothing.
use Rattle.units.specs.Limits.{none}
use Rattle.costs.specs.Stretch.{chain_of}
use Rattle.equations.specs.Equations.{by_disk}
use Rattle.equations.proofs.Minima.{Offered}
use Rattle.equations.proofs.+e_disk.Given as goal

abbrev pub decreases-e_disk : goal.decreases-e_disk
decreases-e_disk l = l.d2

abbrev pub invariant-loop-d1 : goal.invariant-loop-d1
invariant-loop-d1 l = Offered none 0 l.d2 l.d1 (by_disk (chain_of l.job) none l.d2) l.least

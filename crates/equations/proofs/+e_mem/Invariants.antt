-- `equations::e_mem` meets its contract: a cycle of its own, whose measure is m_2. The loop's invariant: the least time over the m_1 offered so far, and the earliest that gives it.
-- Assumes nothing.
use Rattle.units.specs.Limits.{none}
use Rattle.costs.specs.Stretch.{chain_of}
use Rattle.equations.specs.Equations.{by_memory}
use Rattle.equations.proofs.Minima.{Offered}
use Rattle.equations.proofs.+e_mem.Given as goal

abbrev pub decreases-e_mem : goal.decreases-e_mem
decreases-e_mem l = l.m2

abbrev pub invariant-loop-m1 : goal.invariant-loop-m1
invariant-loop-m1 l = Offered none l.d1 l.m2 l.m1 (by_memory (chain_of l.job) none l.d1 l.m2) l.least

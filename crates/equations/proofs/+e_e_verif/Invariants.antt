-- The cycle of `equations::e` and `equations::e_verif`. The end position falls at each call of E_verif: the measure is 2 v_2 for E and 2 v_2 + 1 for
-- E_verif. The loop's invariant: the least time over the v_1 offered so far, and the earliest that gives it. Assumes nothing.
use Prim.Native.Nat.{◌+◌, ◌*◌}
use Rattle.units.specs.Limits.{none}
use Rattle.costs.specs.Stretch.{chain_of}
use Rattle.equations.specs.Equations.{by_verification}
use Rattle.equations.proofs.Minima.{Offered}
use Rattle.equations.proofs.+e_e_verif.Given as goal

abbrev pub decreases-e : goal.decreases-e
decreases-e l = 2 * l.v2

abbrev pub decreases-e_verif : goal.decreases-e_verif
decreases-e_verif l = 2 * l.v2 + 1

abbrev pub invariant-e_verif-loop-v1 : goal.invariant-e_verif-loop-v1
invariant-e_verif-loop-v1 l = Offered none l.m1 l.v2 l.v1 (by_verification (chain_of l.job) none l.d1 l.m1 l.mem l.v2) l.least

use native.Mathlib.Omega.{arith}
use Rattle.bounds.proofs.Bounds.{recovery_cap}
use Rattle.bounding.proofs.least_after.Goals as goal

pub overflow_add-ahead : goal.overflow_add-ahead
overflow_add-ahead c =
    let rounded-up = c.rounded_up in
    let pre = c.requires in
    let loop = c.loop-v in
    rw rounded-up.ensures (omega (arith, pre.parts loop.v (omega arith) (omega arith), recovery_cap _ _ (pre.slopes loop.v (omega arith) (omega arith)) pre.recovery))

pub overflow_add-ahead-in-loop-v : goal.overflow_add-ahead-in-loop-v
overflow_add-ahead-in-loop-v c =
    let rounded-up = c.rounded_up in
    let after = c.after in
    let pre = c.requires in
    let loop = c.loop-v in
    let recovery = recovery_cap _ _ (pre.slopes loop.v (omega arith) (omega arith)) pre.recovery in
    rw (rounded-up.ensures, after.ensures)
    (omega (arith, pre.parts loop.v (omega arith) (omega arith), pre.afters loop.v (omega arith) (omega arith), recovery))

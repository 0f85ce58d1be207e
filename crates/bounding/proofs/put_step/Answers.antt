-- `bounding::put_step` meets its contract. The base is found with the time of v in its place. Assumes nothing.
use native.Mathlib.Omega.{arith}
use Rattle.bounds.specs.Working.Bounds.{bounds_in}
use Rattle.bounding.proofs.put_step.Goals as goal

pub least_risk-risk-requires : goal.least_risk-risk-requires
unfolding bounds_in
least_risk-risk-requires c =
    let pre = c.requires in
    record { bounded = pre.bounded; long = omega (arith, pre.long); risks = pre.risks }

use mathlib.Core.Path.{◌≡◌}
use native.Mathlib.Omega.{arith}
use Rattle.bounds.specs.Working.Bounds.{bounds_in}
use Rattle.bounding.proofs.least_risk.Goals as goal

pub returns : goal.returns
unfolding bounds_in
returns c =
    let loop = c.loop-u in
    let args = c.args in
    let e : loop.u ≡ args.v = omega arith in record { range = loop.invariant.range; least = λ n w l a. loop.invariant.least w a (omega arith) }

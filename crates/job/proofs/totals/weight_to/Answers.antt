use Prim.Native.Nat.{◌<◌, ◌^◌}
use borrow.Author.Rules.{rules}
use mathlib.Core.Path.{◌≡◌, refl}
use native.Mathlib.Omega.{arith}
use Rattle.job.specs.Job.{total}
use Rattle.job.proofs.Weights.{total_more}
use Rattle.job.proofs.totals.weight_to.Goals as goal

pub loop-j-init : goal.loop-j-init
unfolding total
loop-j-init c = record { to = omega arith; value = refl; range = omega arith }

pub overflow_add-sum : goal.overflow_add-sum
overflow_add-sum c =
    let range : c.from-sum.result < 2 ^ 32 = search rules in
    omega (arith, range)

pub loop-j-preserved : goal.loop-j-preserved
loop-j-preserved c =
    let args = c.args in
    let loop = c.loop-j in
    let range : c.from-sum.result < 2 ^ 32 = search rules in
    record { to = omega arith; value = omega (arith, total_more args.weights loop.j, c.from-sum.ensures); range = omega (arith, range) }

pub returns : goal.returns
returns c =
    let loop = c.loop-j in
    let args = c.args in
    let e : loop.j ≡ args.n = omega arith in record { value = rw (← e) loop.invariant.value; range = omega (arith, loop.invariant.range) }

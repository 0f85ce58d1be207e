use Rattle.job.proofs.Ranges.{weight_range}
use Rattle.job.proofs.Weights.{total_more}
use Prim.Native.Nat.{◌-◌}
use mathlib.Core.Path.{◌≡◌, refl, sym, ◌∙◌}
use mathlib.Core.Bool.{false}
use native.Mathlib.Omega.{arith}
use borrow.Author.Rules.{rules}
use Rattle.lists.specs.Lists.{some}
use Rattle.job.specs.Job.{total}
use Rattle.job.specs.Checks.{bad_weight}
use Rattle.lists.proofs.Lists.{some_holds, some_more}
use Rattle.job.proofs.checks.bad_weights.Goals as goal

pub loop-j-init : goal.loop-j-init
unfolding some total
loop-j-init c = record { to = search rules; clear = refl; value = refl; range = search rules }

pub returns-then-bad_weight : goal.returns-then-bad_weight
unfolding bad_weight
returns-then-bad_weight c =
    let args = c.args in
    let loop = c.loop-j in
    rw (some_holds args.n (bad_weight args.weights.now) loop.j (omega arith) (sym c.bad_weight.ensures ∙ c.if-bad_weight.true))

pub overflow_add-sum : goal.overflow_add-sum
unfolding bad_weight
overflow_add-sum c =
    let args = c.args in
    let loop = c.loop-j in
    omega (arith, weight_range args.weights.now loop.j (sym c.bad_weight.ensures ∙ c.if-bad_weight.false))

pub loop-j-preserved : goal.loop-j-preserved
unfolding bad_weight
loop-j-preserved c =
    let args = c.args in
    let loop = c.loop-j in
    let bad-weight = c.bad_weight in
    record {
      to = omega arith;
      clear = some_more _ _ loop.invariant.clear (sym bad-weight.ensures ∙ c.if-bad_weight.false);
      value = omega (arith, total_more args.weights.now loop.j);
      range = omega (arith, weight_range args.weights.now loop.j (sym bad-weight.ensures ∙ c.if-bad_weight.false));
    }

pub returns : goal.returns
returns c = let e : c.loop-j.j ≡ c.args.n = omega arith in rw (← e, c.loop-j.invariant.clear, ← c.loop-j.invariant.value)

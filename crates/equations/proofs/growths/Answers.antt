-- `equations::growths` meets its contract. The weight of the stretch is the difference of two totals. Assumes nothing.
use mathlib.Core.Path.{refl, ◌∙◌}
use native.Mathlib.Omega.{arith}
use Rattle.job.specs.Job.{between}
use Rattle.job.proofs.Weights.{total_mono}
use Rattle.costs.proofs.Stretches.{factors_ready}
use Rattle.equations.proofs.growths.Goals as goal

pub overflow_sub-w : goal.overflow_sub-w
overflow_sub-w c =
    let args = c.args in
    let pre = c.requires in
    rw (c.weight_to-2.ensures.value, c.weight_to.ensures.value) (total_mono args.job.weights args.v1 args.v2 (omega (arith, pre.order)))

pub stretch_factors-requires : goal.stretch_factors-requires
unfolding between
stretch_factors-requires c =
    let args = c.args in
    let pre = c.requires in
    rw (c.weight_to.ensures.value, c.weight_to-2.ensures.value, (c.v_of.ensures.value c.args.job refl))
    (factors_ready args.job pre.sound args.v1 args.v2 pre.end)

pub returns : goal.returns
unfolding between
returns c =
    c.stretch_factors.ensures ∙ rw (c.weight_to.ensures.value, c.weight_to-2.ensures.value, (c.v_of.ensures.value c.args.job refl))

use native.Mathlib.Omega.{arith}
use Rattle.chain.proofs.Placing.{placed_last}
use Rattle.walk.proofs.Steps.{plan_end, placed_first, placed_next}
use Rattle.walk.proofs.plan_marks.Goals as goal

pub at_disk-w-requires : goal.at_disk-w-requires
at_disk-w-requires c =
    let pre = c.requires in
    record { ready = pre; some_task = pre.some_task; within = omega arith; on_plan = plan_end _ _ _ _ _ pre }

pub loop-w-init : goal.loop-w-init
loop-w-init c =
    let pre = c.requires in
    let at-disk = c.at_disk-w in
    placed_first _ _ _ _ (omega (arith, pre.bounded.few)) at-disk.ensures

pub overflow_sub-marks : goal.overflow_sub-marks
overflow_sub-marks c =
    let if1 = c.loop-w-test in
    omega (arith, if1.true)

pub bounds-marks-v : goal.bounds-marks-v
bounds-marks-v c =
    let loop = c.loop-w in
    let pre = c.requires in
    omega (arith, loop.invariant.placed.within, pre.bounded.few)

pub step_back-w-requires : goal.step_back-w-requires
step_back-w-requires c =
    let pre = c.requires in
    let loop = c.loop-w in
    let if1 = c.loop-w-test in
    record { ready = pre; within = loop.invariant.placed.within; walking = loop.invariant.walking if1.true }

pub loop-w-smaller : goal.loop-w-smaller
loop-w-smaller c =
    let step_back = c.step_back-w in
    step_back.ensures.before.falls

pub loop-w-preserved : goal.loop-w-preserved
loop-w-preserved c =
    let loop = c.loop-w in
    let if1 = c.loop-w-test in
    let step_back = c.step_back-w in
    placed_next _ _ _ _ _ _ loop.invariant if1.true step_back.ensures

pub returns : goal.returns
returns c =
    let loop = c.loop-w in
    let if1 = c.loop-w-test in
    placed_last _ _ _ _ _ loop.invariant.placed if1.false

use native.Mathlib.Omega.{arith}
use Rattle.chain.proofs.Walk.{state_disk}
use Rattle.chain.proofs.Placing.{placed_first, placed_next, placed_last}
use Rattle.units.specs.Limits.{task_limit}
use Rattle.engine.proofs.walk_back.plan_marks.Goals as goal

pub at_disk-w-requires : goal.at_disk-w-requires
at_disk-w-requires c = record { sound = c.requires.sound; some_task = c.requires.sound.some_task; end = omega arith; in_time = c.requires.in_time }

pub loop-w-init : goal.loop-w-init
loop-w-init c =
    let pre = c.requires in
    rw c.at_disk-w.ensures
    (record {
      placed = placed_first _ _ _ task_limit pre.sound.few_tasks;
      on_way = λ _. state_disk _ _ _ pre.sound.some_task pre.in_time;
    })

pub overflow_sub-marks : goal.overflow_sub-marks
overflow_sub-marks c = omega (arith, c.loop-w-test.true)

pub bounds-marks-v : goal.bounds-marks-v
bounds-marks-v c =
    let loop = c.loop-w in
    let pre = c.requires in
    omega (arith, loop.invariant.placed.within, pre.sound.few_tasks, c.loop-w-test.true)

pub step_back-w-requires : goal.step_back-w-requires
step_back-w-requires c =
    let loop = c.loop-w in
    let pre = c.requires in
    record { sound = pre.sound; end = loop.invariant.placed.within; on_way = loop.invariant.on_way c.loop-w-test.true }

pub loop-w-smaller : goal.loop-w-smaller
loop-w-smaller c = c.step_back-w.ensures.falls

pub loop-w-preserved : goal.loop-w-preserved
loop-w-preserved c =
    let loop = c.loop-w in
    record {
      placed = placed_next _ _ _ _ _ _ loop.invariant.placed c.loop-w-test.true c.step_back-w.ensures;
      on_way = c.step_back-w.ensures.on_way;
    }

pub returns : goal.returns
returns c = placed_last _ _ _ _ _ c.loop-w.invariant.placed c.loop-w-test.false

-- `engine::plan_job` meets its contract. E_disk(n) below the limit is the time of a setting, whose marks are copied; at the limit every setting is too slow.
-- Assumes nothing.
use native.Mathlib.Omega.{arith}
use Rattle.costs.proofs.Stretches.{S_rises}
use Rattle.answers.proofs.Promises.{slow_answer, plan_answer}
use Rattle.engine.proofs.plan_job.Goals as goal

pub returns-then-least-ge-NONE : goal.returns-then-least-ge-NONE
returns-then-least-ge-NONE c =
    let pre = c.requires in
    let e-disk = c.e_disk-least in
    let if1 = c.if-least-ge-NONE in
    slow_answer _ (S_rises _) _ pre.sound.some_task _ (omega (arith, if1.true, e-disk.ensures.value))

pub returns : goal.returns
returns c =
    let pre = c.requires in
    let e-disk = c.e_disk-least in
    let if1 = c.if-least-ge-NONE in
    let plan-marks = c.plan_marks-marks in
    let copy-marks = c.copy_marks in
    plan_answer _ (S_rises _) _ pre.sound.some_task _ _ _ _ pre.room plan-marks.ensures copy-marks.ensures e-disk.ensures.value if1.false

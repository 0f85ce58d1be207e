-- `search::plan_chain` meets its contract. Least times below the limit are those of a setting, whose marks are copied; at the limit every setting is too slow. Assumes nothing.
use native.Mathlib.Nat.{le_of_eq, le_trans, lt_of_le_of_lt}
use mathlib.Core.Path.{sym}
use Rattle.answers.proofs.Promises.{slow_answer, plan_answer}
use Rattle.bounds.proofs.Bounds.{chain_in_rises}
use Rattle.search.proofs.plan_chain.Goals as goal

pub returns-then-least-ge-NONE : goal.returns-then-least-ge-NONE
returns-then-least-ge-NONE c =
    let pre = c.requires in
    let if1 = c.if-least-ge-NONE in
    let find = c.find-disks in
    slow_answer _ (chain_in_rises _) _ pre.some_task _ (le_trans if1.true (le_of_eq find.ensures.least))

pub plan_marks-marks-requires : goal.plan_marks-marks-requires
plan_marks-marks-requires c =
    let pre = c.requires in
    let fill-bounds = c.fill_bounds in
    let find = c.find-disks in
    let if1 = c.if-least-ge-NONE in
    record {
      bounded = pre.bounded;
      bounding = fill-bounds.ensures.bounding;
      some_task = pre.some_task;
      in_time = lt_of_le_of_lt (le_of_eq (sym find.ensures.least)) if1.false;
      found = find.ensures;
    }

pub returns : goal.returns
returns c =
    let pre = c.requires in
    let plan-marks = c.plan_marks-marks in
    let copy-marks = c.copy_marks in
    let find = c.find-disks in
    let if1 = c.if-least-ge-NONE in
    plan_answer _ (chain_in_rises _) _ pre.some_task _ _ _ _ pre.room plan-marks.ensures copy-marks.ensures find.ensures.least if1.false

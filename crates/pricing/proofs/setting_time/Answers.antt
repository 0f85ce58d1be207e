use mathlib.Core.Path.{◌≡◌, sym}
use native.Mathlib.Omega.{arith}
use Rattle.marks.proofs.Stretches.{marks_passed, marks_length, marks_range, marks_end}
use Rattle.pricing.proofs.Progresses.{progress_start, progress_carried, progress_past, progress_allowed, progress_slow, progress_time, weight_range}
use borrow.Author.Rules.{rules}
use Rattle.pricing.proofs.setting_time.Goals as goal

pub loop-j-init : goal.loop-j-init
loop-j-init c = record { progress = progress_start _ _; in_time = search rules }

pub overflow_add-s : goal.overflow_add-s
overflow_add-s c =
    let loop = c.loop-j in
    let pre = c.requires in
    let loop-test = c.loop-j-test in
    omega (arith, weight_range _ _ _ _ loop.invariant.progress pre.sound loop-test.true)

pub bounds-marks-j : goal.bounds-marks-j
bounds-marks-j c =
    let pre = c.requires in
    let passed = marks_passed _ _ pre.marks in omega (arith, marks_length _ _ passed.marks)

pub past_mark-s-requires : goal.past_mark-s-requires
past_mark-s-requires c =
    let pre = c.requires in
    let loop = c.loop-j in
    let loop-test = c.loop-j-test in
    let passed = marks_passed _ _ pre.marks in
    record {
      costs = pre.sound.costs;
      carried = progress_carried _ _ _ _ loop.invariant.progress pre.sound loop-test.true;
      progress = record {
        weight = weight_range _ _ _ _ loop.invariant.progress pre.sound loop-test.true;
        time = loop.invariant.in_time;
      };
      allowed = progress_allowed _ _ _ _ loop.invariant.progress passed.stretches loop-test.true;
      mark_range = marks_range _ _ passed.marks _ loop-test.true;
    }

pub returns-then-s-ge-NONE : goal.returns-then-s-ge-NONE
returns-then-s-ge-NONE c =
    let pre = c.requires in
    let loop = c.loop-j in
    let loop-test = c.loop-j-test in
    let past-mark = c.past_mark-s in
    let if1 = c.if-s-ge-NONE in
    let passed = marks_passed _ _ pre.marks in
    let next = progress_past _ _ _ _ loop.invariant.progress (marks_range _ _ passed.marks _ loop-test.true) in
    sym (progress_slow _ _ (marks_end _ _ passed.marks) _ _ next (omega arith) (rw past-mark.ensures.value at if1.true))

pub loop-j-preserved : goal.loop-j-preserved
loop-j-preserved c =
    let pre = c.requires in
    let past-mark = c.past_mark-s in
    let loop = c.loop-j in
    let loop-test = c.loop-j-test in
    let if1 = c.if-s-ge-NONE in
    let passed = marks_passed _ _ pre.marks in
    record {
      progress = rw past-mark.ensures.value (progress_past _ _ _ _ loop.invariant.progress (marks_range _ _ passed.marks _ loop-test.true));
      in_time = if1.false;
    }

pub returns : goal.returns
returns c =
    let pre = c.requires in
    let loop = c.loop-j in
    let args = c.args in
    let passed = marks_passed _ _ pre.marks in
    let e : loop.j ≡ args.job.tasks = omega arith in
    progress_time _ _ (marks_end _ _ passed.marks) _ (rw e at loop.invariant.progress) loop.invariant.in_time

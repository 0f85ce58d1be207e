use Prim.Native.Nat.{◌-◌}
use mathlib.Core.Path.{sym, ◌∙◌, ap}
use mathlib.Core.Bool.{not}
use mathlib.Core.Logic.{⊎_elim}
use native.Mathlib.Nat.{pos_of_ne-zero}
use native.Mathlib.Omega.{arith}
use borrow.Author.Rules.{rules}
use Rattle.marks.proofs.Stretches.{walked_none, walked_range, walked_heavier, walked_lighter, walked_plain, walked_all, marks_length}
use Rattle.marks.proofs.bad_stretches.Goals as goal
use Rattle.marks.proofs.bad_stretches.Goals.{then-marks-j-ne0+then-heaviest-weight, then-marks-j-ne0+else-heaviest-weight, else-marks-j-ne0}

pub loop-j-init : goal.loop-j-init
loop-j-init c = record { to = search rules; walked = walked_none _ _ }

pub offset_bounds-weights-j : goal.offset_bounds-weights-j
offset_bounds-weights-j c = omega arith

pub bounds-weights-j : goal.bounds-weights-j
bounds-weights-j c = omega (arith, c.requires.sound.few_tasks)

pub overflow_add-weight : goal.overflow_add-weight
overflow_add-weight c =
    let pre = c.requires in
    omega (arith, walked_range _ _ _ _ _ c.loop-j.invariant.walked pre.sound c.loop-j-test.true)

pub bounds-marks-j : goal.bounds-marks-j
bounds-marks-j c =
    let pre = c.requires in
    omega (arith, marks_length _ _ pre.marks)

pub loop-j-preserved : goal.loop-j-preserved
loop-j-preserved c =
    let pre = c.requires in
    let loop = c.loop-j in
    let walked = loop.invariant.walked in
    let range = walked_range _ _ _ _ _ walked pre.sound c.loop-j-test.true in
    elim c.if-marks-j-ne0.branch [
      | then-marks-j-ne0+then-heaviest-weight w ↦ record {
        to = omega arith;
        walked = rw (w.heaviest-is, w.weight-is) (walked_heavier _ _ _ _ _ walked (pos_of_ne-zero w.if-marks-j-ne0.true) range w.if-heaviest-weight.true);
      }
      | then-marks-j-ne0+else-heaviest-weight w ↦ record {
        to = omega arith;
        walked = rw (w.heaviest-is, w.weight-is) (walked_lighter _ _ _ _ _ walked (pos_of_ne-zero w.if-marks-j-ne0.true) w.if-heaviest-weight.false);
      }
      | else-marks-j-ne0 w ↦ record {
        to = omega arith;
        walked = rw (w.heaviest-is, w.weight-is) (walked_plain _ _ _ _ _ walked w.if-marks-j-ne0.false);
      }
    ]

pub is_allowed-requires : goal.is_allowed-requires
is_allowed-requires c = c.loop-j.invariant.walked.bounded

pub returns : goal.returns
returns c =
    ap not c.is_allowed.ensures ∙ sym (walked_all _ _ _ _ _ c.loop-j.invariant.walked (omega arith))

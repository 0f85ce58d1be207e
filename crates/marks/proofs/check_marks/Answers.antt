-- `marks::check_marks` meets its contract. Conditions 9 and 10 by the branches, in their order: each return names the first to hold. Assumes nothing.
use mathlib.Core.Path.{sym, ◌∙◌}
use Rattle.refusals.specs.Refusals.{first}
use Rattle.marks.proofs.check_marks.Goals as goal

pub returns-then-bad_marks : goal.returns-then-bad_marks
unfolding first
returns-then-bad_marks c = rw (← c.bad_marks.ensures, c.if-bad_marks.true)

pub bad_stretches-requires : goal.bad_stretches-requires
bad_stretches-requires c =
    let pre = c.requires in
    record { sound = pre; marks = sym c.bad_marks.ensures ∙ c.if-bad_marks.false }

pub returns-then-bad_stretches : goal.returns-then-bad_stretches
unfolding first
returns-then-bad_stretches c =
    let bad-marks = c.bad_marks in
    let if1 = c.if-bad_marks in
    rw (← bad-marks.ensures, if1.false, ← c.bad_stretches.ensures, c.if-bad_stretches.true)

pub returns : goal.returns
unfolding first
returns c =
    let bad-marks = c.bad_marks in
    let if1 = c.if-bad_marks in
    rw (← bad-marks.ensures, if1.false, ← c.bad_stretches.ensures, c.if-bad_stretches.false)

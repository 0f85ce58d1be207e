-- `joining::check_both` meets its contract. The tests in their order: each return names the first to hold. Assumes nothing.
use Rattle.joining.proofs.Both.{both_other, both_many, both_heavy, both_short, both_joined, total_taken, length_taken}
use mathlib.Core.Path.{ap}
use mathlib.Core.Bool.{not}
use native.Mathlib.Omega.{arith}
use Rattle.joining.proofs.check_both.Goals as goal

pub returns-then-not-same : goal.returns-then-not-same
returns-then-not-same c =
    let is_same = c.is_same-same in
    both_other _ _ _ is_same.ensures (ap not c.if-not-same.true)

pub returns-then-n-gt-TASK_LIMIT : goal.returns-then-n-gt-TASK_LIMIT
returns-then-n-gt-TASK_LIMIT c =
    let is_same = c.is_same-same in
    both_many _ _ _ is_same.ensures (ap not c.if-not-same.false) (omega arith)

pub returns-then-total-gt-TOTAL_LIMIT : goal.returns-then-total-gt-TOTAL_LIMIT
returns-then-total-gt-TOTAL_LIMIT c =
    let is_same = c.is_same-same in
    let sum = total_taken c.weight_to.ensures.value c.weight_to-2.ensures.value in
    both_heavy _ _ _ is_same.ensures (ap not c.if-not-same.false) c.if-n-gt-TASK_LIMIT.false sum (omega arith)

pub returns-then-room-size : goal.returns-then-room-size
returns-then-room-size c =
    let is_same = c.is_same-same in
    let sum = total_taken c.weight_to.ensures.value c.weight_to-2.ensures.value in
    let pre = c.requires in
    let size = length_taken _ _ pre c.sheet_length-size.ensures in
    let first_range = c.weight_to.ensures.range in
    let second_range = c.weight_to-2.ensures.range in
    both_short _ _ _ is_same.ensures (ap not c.if-not-same.false) c.if-n-gt-TASK_LIMIT.false sum (omega arith) size c.if-room-size.true

pub returns : goal.returns
returns c =
    let is_same = c.is_same-same in
    let sum = total_taken c.weight_to.ensures.value c.weight_to-2.ensures.value in
    let pre = c.requires in
    let size = length_taken _ _ pre c.sheet_length-size.ensures in
    let first_range = c.weight_to.ensures.range in
    let second_range = c.weight_to-2.ensures.range in
    both_joined _ _ _ is_same.ensures (ap not c.if-not-same.false) c.if-n-gt-TASK_LIMIT.false sum (omega arith) size c.if-room-size.false

-- `events::after_passed` meets its contract. The sums of a place in range are far below 64 bits, and so is what the mark pays. Assumes nothing.
use native.Mathlib.Omega.{arith}
use Rattle.rules.specs.Rules.{total_of}
use Rattle.events.specs.Events.{after_passed}
use Rattle.events.proofs.after_passed.Goals as goal

pub overflow_add-sums : goal.overflow_add-sums
unfolding total_of
overflow_add-sums c =
    let verify-paid = c.verify_paid in
    let pre = c.requires in
    omega (arith, verify-paid.ensures.fits, pre.sums)

pub overflow_add-sums-2 : goal.overflow_add-sums-2
unfolding total_of
overflow_add-sums-2 c =
    let saves-paid = c.saves_paid in
    let pre = c.requires in
    omega (arith, saves-paid.ensures.fits, pre.sums)

pub returns : goal.returns
unfolding after_passed
returns c =
    let saves-paid = c.saves_paid in
    let verify-paid = c.verify_paid in
    let mark_at = c.mark_at-mark in
    λ job e. rw (verify-paid.ensures.value job e, saves-paid.ensures.value job e, mark_at.ensures)

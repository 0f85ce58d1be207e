-- `events::after_done` meets its contract. The sums of a place in range are far below 64 bits. Assumes nothing.
use native.Mathlib.Numerals.{add-one}
use native.Mathlib.Omega.{arith}
use Rattle.rules.specs.Rules.{total_of}
use Rattle.events.specs.Events.{after_done}
use Rattle.events.proofs.after_done.Goals as goal

pub overflow_add-sums : goal.overflow_add-sums
unfolding total_of
overflow_add-sums c =
    let weight-at = c.weight_at in
    let pre = c.requires in
    omega (arith, weight-at.ensures.fits, pre.sums)

pub returns : goal.returns
unfolding after_done
returns c =
    let mark_at = c.mark_at in
    let weight-at = c.weight_at in
    λ job e. rw (c.awaited.ensures, mark_at.ensures, weight-at.ensures.value, e, add-one)

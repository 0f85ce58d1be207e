-- `events::after_stopped` meets its contract. What is kept after the copy is the weight of the tasks after it. Assumes nothing.
use Prim.Native.Nat.{◌<◌, ◌^◌}
use native.Mathlib.Omega.{arith}
use Rattle.std.proofs.Common.{rules}
use Rattle.job.specs.Job.{between}
use Rattle.rules.specs.Rules.{total_of}
use Rattle.events.specs.Events.{back_to_disk}
use Rattle.events.proofs.after_stopped.Goals as goal

pub overflow_add-sums : goal.overflow_add-sums
unfolding total_of
overflow_add-sums c =
    let range : c.from.result < 2 ^ 32 = search rules in
    let pre = c.requires in
    omega (arith, range, pre.here.sums)

pub overflow_add-sums-2 : goal.overflow_add-sums-2
unfolding total_of
overflow_add-sums-2 c =
    let rd-of = c.rd_of in
    let pre = c.requires in
    omega (arith, rd-of.ensures.fits, pre.here.sums)

pub back_to-requires : goal.back_to-requires
unfolding total_of
back_to-requires c =
    let pre = c.requires in
    let range : c.from.result < 2 ^ 32 = search rules in
    record { kept = pre.kept; fits = omega (arith, range, pre.here.sums) }

pub returns : goal.returns
unfolding back_to_disk between
returns c =
    let back_to = c.back_to in
    let rd-of = c.rd_of in
    let range : c.from.result < 2 ^ 32 = search rules in
    λ job e kept. rw (back_to.ensures, c.from.ensures, rd-of.ensures.value job e, ← kept.here, ← kept.there)

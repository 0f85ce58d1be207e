use native.Mathlib.Omega.{arith}
use Rattle.copies.proofs.Copies.{disk_reached, disks_offered, disks_passed}
use Rattle.copies.proofs.Offers.{turn_first, turn_last}
use Rattle.copies.proofs.disk_row.Goals as goal
use Rattle.copies.proofs.disk_row.Goals.{then-start-after, else-start-after}

pub loop-d-init : goal.loop-d-init
loop-d-init c =
    let pre = c.requires in
    turn_first _ _ _ _ _ (disk_reached _ _ _ _ pre.bounding pre.ends pre.limited) (omega arith) pre.bounded.few _ _ pre.fresh.times pre.fresh.positions_before

pub loop-d-preserved : goal.loop-d-preserved
loop-d-preserved c =
    let pre = c.requires in
    let loop = c.loop-d in
    let min = c.min-bound in
    let after = c.after in
    elim c.if-start-after.branch [
      | then-start-after w ↦
          rw (w.time-is, w.backs-is)
          (disks_offered _ _ _ _ pre.bounding pre.ends pre.limited _ _ _ loop.invariant (omega arith) _ min.ensures
          (rw (← after.ensures) w.if-start-after.true) _ _ w.offer_disk.ensures)
      | else-start-after w ↦
          rw (w.time-is, w.backs-is)
          (disks_passed _ _ _ _ pre.bounding pre.ends pre.limited _ _ _ loop.invariant (omega arith) _ min.ensures
          (rw (← after.ensures) w.if-start-after.false))
    ]

pub returns : goal.returns
returns c =
    let pre = c.requires in
    let loop = c.loop-d in
    turn_last _ _ _ _ _ (disk_reached _ _ _ _ pre.bounding pre.ends pre.limited) _ _ _ loop.invariant (omega arith)

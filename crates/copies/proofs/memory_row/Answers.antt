use native.Mathlib.Omega.{arith}
use Rattle.chain.specs.Working.Search.{least_m}
use Rattle.copies.proofs.Copies.{copy_reached, copies_offered, copies_passed}
use Rattle.table.proofs.Table.{bounded_less}
use Rattle.copies.proofs.Offers.{turn_first, turn_last}
use Rattle.copies.proofs.memory_row.Goals as goal
use Rattle.copies.proofs.memory_row.Goals.{then-m-last, else-m-last}

pub loop-m-init : goal.loop-m-init
loop-m-init c =
    let pre = c.requires in
    turn_first _ _ _ _ _ (copy_reached _ _ _ _ _ _ pre.bounding pre.room) pre.start pre.bounded.few _ _ pre.fresh.times pre.fresh.positions_before

pub far-last-requires : goal.far-last-requires
unfolding least_m
far-last-requires c =
    let loop = c.loop-m in
    let pre = c.requires in
    record {
      long = loop.invariant.times_long;
      bounded = pre.bounded;
      bounding = pre.bounding;
      disk = omega arith;
      start = omega arith;
      capped = loop.invariant.capped;
      not_low = loop.invariant.not_low _ (omega arith);
    }

pub offer_memory-requires : goal.offer_memory-requires
offer_memory-requires c =
    let loop = c.loop-m in
    let far = c.far-last in
    let pre = c.requires in
    let if1 = c.if-m-last in
    record {
      rows = record { times_long = loop.invariant.times_long; backs_long = loop.invariant.backs_long };
      bounded = bounded_less _ _ _ far.ensures.to pre.bounded;
      disk = omega arith;
      start = far.ensures.from;
      reached = far.ensures.reached if1.true;
    }

pub loop-m-preserved : goal.loop-m-preserved
loop-m-preserved c =
    let pre = c.requires in
    let loop = c.loop-m in
    let far = c.far-last in
    elim c.if-m-last.branch [
      | then-m-last w ↦
          rw (w.time-is, w.backs-is)
          (copies_offered _ _ _ _ _ _ pre.bounding pre.room _ _ _ loop.invariant (omega arith) (omega arith) _ far.ensures w.if-m-last.true _ _ w.offer_memory.ensures)
      | else-m-last w ↦
          rw (w.time-is, w.backs-is)
          (copies_passed _ _ _ _ _ _ pre.bounding pre.room _ _ _ loop.invariant (omega arith) (omega arith) _ far.ensures w.if-m-last.false)
    ]

pub returns : goal.returns
returns c =
    let pre = c.requires in
    let loop = c.loop-m in
    turn_last _ _ _ _ _ (copy_reached _ _ _ _ _ _ pre.bounding pre.room) _ _ _ loop.invariant (omega arith)

-- `copies::offer_disk` meets its contract. Each v is offered what the cut row of memory copies from d has, with the copy. Assumes nothing.
use native.Mathlib.Omega.{arith}
use Rattle.table.specs.Working.Table.{cd_start}
use Rattle.table.proofs.Table.{column_part, length_column}
use Rattle.copies.proofs.Copies.{offered_agree}
use Rattle.copies.proofs.offer_disk.Goals as goal

pub offer_copies-requires : goal.offer_copies-requires
offer_copies-requires c =
    let pre = c.requires in
    let memory-row = c.memory_row in
    let column-of = c.column_of in
    let args = c.args in
    record {
      rows = pre.rows;
      part_long = memory-row.ensures.times_long;
      copies_long = rw column-of.ensures (length_column cd_start args.t.now (omega (arith, pre.bounded.long)));
      start = pre.start;
      few = pre.bounded.few;
      reached = pre.reached;
      parts = λ w a h. memory-row.ensures.capped w h;
    }

pub returns : goal.returns
returns c =
    let memory-row = c.memory_row in
    let column-of = c.column_of in
    let args = c.args in
    let pre = c.requires in
    let offer-copies = c.offer_copies in
    record {
      copies = _;
      froms = _;
      row = memory-row.ensures;
      offered =
          offered_agree _ _ _ _ _ _ _ _
          (λ w a b. rw (column-of.ensures, column_part cd_start args.t.now w (omega (arith, pre.bounded.few)))) offer-copies.ensures;
    }

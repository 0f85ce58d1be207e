-- `copies::offer_memory` meets its contract. The row of verifications from m is the theory's least Q, and each v is offered that with the copy. Assumes
-- nothing.
use native.Mathlib.Omega.{arith}
use Rattle.chain.proofs.Search.{reach_cap}
use Rattle.table.specs.Working.Table.{cm_start}
use Rattle.table.proofs.Table.{length_column}
use Rattle.copies.proofs.Copies.{table_row, memory_arrival, offered_agree}
use Rattle.copies.proofs.offer_memory.Goals as goal

pub offer_copies-requires : goal.offer_copies-requires
offer_copies-requires c =
    let pre = c.requires in
    let verification-row = c.verification_row in
    let column-of = c.column_of in
    let args = c.args in
    record {
      rows = pre.rows;
      part_long = verification-row.ensures.long;
      copies_long = rw column-of.ensures (length_column cm_start args.t.now (omega (arith, pre.bounded.long)));
      start = pre.start;
      few = pre.bounded.few;
      reached = omega (arith, pre.reached);
      parts = λ w a h. rw (verification-row.ensures.times w (omega arith) (omega arith)) (reach_cap _ _ _ w);
    }

pub returns : goal.returns
returns c =
    let recoveries = c.recoveries-r in
    let verification-row = c.verification_row in
    let column-of = c.column_of in
    let pre = c.requires in
    let offer-copies = c.offer_copies in
    let row = table_row _ _ _ _ _ _ recoveries.ensures.value _ verification-row.ensures in
    offered_agree _ _ _ _ _ _ _ _
    (λ w a b. rw column-of.ensures (memory_arrival _ _ _ (omega (arith, pre.bounded.few)) _ _ _ row w a b)) offer-copies.ensures

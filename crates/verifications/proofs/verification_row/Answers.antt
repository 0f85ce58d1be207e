use native.Mathlib.Omega.{arith}
use Rattle.table.proofs.Table.{bounded_less}
use Rattle.verifications.proofs.Rows.{row_first}
use Rattle.verifications.proofs.verification_row.Goals as goal

pub loop-v-init : goal.loop-v-init
loop-v-init c =
    let pre = c.requires in
    let args = c.args in
    record {
      row = row_first _ _ _ args.time.now pre.long (omega (arith, pre.start, pre.bounded.few));
      end_before = omega arith;
      unreached = λ u a l. absurd (omega arith);
    }

pub verified-q-requires : goal.verified-q-requires
verified-q-requires c =
    let pre = c.requires in
    let loop = c.loop-v in
    record {
      ready =
          record {
            bounded = bounded_less _ _ _ (omega arith) pre.bounded;
            recoveries = pre.recoveries;
            order = omega arith;
            row = loop.invariant.row;
          };
      end_before = loop.invariant.end_before;
      unreached = loop.invariant.unreached;
    }

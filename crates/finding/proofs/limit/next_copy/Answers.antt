use native.Mathlib.Omega.{arith}
use Rattle.bounds.proofs.Bounds.{time_entry, base_cap}
use Rattle.finding.proofs.limit.next_copy.Goals as goal

pub since-x-requires : goal.since-x-requires
since-x-requires c =
    let pre = c.requires in
    record {
      disk =
          record {
            fit = record {
              long = omega (arith, pre.bounding.long);
              near = omega (arith, pre.disk, pre.order, pre.bounded.few);
              far = omega (arith, pre.order, pre.bounded.few);
            };
            table_long = omega (arith, pre.bounded.long);
            recovery = pre.bounded.rd _ (omega (arith, pre.disk, pre.order));
            time = time_entry _ _ _ (pre.bounding.times _ (omega (arith, pre.order)));
          };
      base =
          base_cap _ _ _ _ (pre.bounding.below.base_low _ _ (omega arith) (omega (arith, pre.order))) (pre.bounded.rd _ (omega (arith, pre.order)));
    }

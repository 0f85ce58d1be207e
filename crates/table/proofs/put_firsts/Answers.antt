use Prim.Native.Nat.{◌+◌}
use mathlib.Core.Path.{◌≡◌}
use native.Mathlib.Nat.{le_trans}
use native.Mathlib.Omega.{arith}
use Rattle.table.proofs.Pairs.{needed_less}
use Rattle.table.proofs.Table.{firsts_more}
use Rattle.table.proofs.put_firsts.Goals as goal

pub first_allowed-first-requires : goal.first_allowed-first-requires
first_allowed-first-requires c =
    let loop = c.loop-v in
    let pre = c.requires in
    record {
      long = rw loop.invariant.long (le_trans (needed_less _ _ (omega arith)) pre.long);
      few = omega (arith, pre.few);
    }

pub loop-v-preserved : goal.loop-v-preserved
loop-v-preserved c =
    let loop = c.loop-v in
    let first-allowed = c.first_allowed-first in
    let put-in-column = c.put_in_column in
    let pre = c.requires in
    rw put-in-column.ensures (firsts_more _ _ _ _ loop.invariant (omega (arith, pre.long)) (omega (arith, pre.few)) first-allowed.ensures)

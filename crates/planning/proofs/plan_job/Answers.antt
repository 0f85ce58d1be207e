-- `planning::plan_job` meets its contract. The arrays are long enough for every chain. Assumes nothing.
use mathlib.Core.Path.{sym}
use Prim.Native.Nat.{ℕ}
use native.Mathlib.Omega.{arith}
use lib.ListN.{length-replicate}
use native.Mathlib.Nat.{le_trans, le_of_eq}
use Rattle.table.specs.Working.Table.{table_length}
use Rattle.bounds.specs.Working.Bounds.{bounds_length}
use Rattle.table.proofs.Pairs.{needed_most}
use Rattle.bounds.proofs.Bounds.{bounds_most}
use Rattle.planning.proofs.plan_job.Goals as goal

pub plan_by-requires : goal.plan_by-requires
plan_by-requires c =
    let pre = c.requires in
    let few = pre.ready.sound.few_tasks in
    record {
      ready = pre;
      table_long = le_trans (needed_most _ (omega (arith, few))) (le_of_eq (sym (length-replicate {A = ℕ} table_length 0)));
      bounds_long = le_trans (bounds_most _ (omega (arith, few))) (le_of_eq (sym (length-replicate {A = ℕ} bounds_length 0)));
    }

-- `verifications::verification_row` meets its contract. The loop's invariant: the entries before v are least times, and no position from `end` on is reached. Assumes nothing.
use mathlib.Core.List.{List}
use Prim.Native.Nat.{◌≤◌, ℕ}
use Rattle.chain.specs.declared.Recoveries.{Recoveries}
use Rattle.units.specs.Limits.{none}
use Rattle.verifications.specs.Working.Rows.{Row, Unreached}
use Rattle.table.specs.Working.Table.{arrival_at}
use Rattle.verifications.proofs.verification_row.Given as goal

pub record Row-to (t : List ℕ) (m : ℕ) (r : Recoveries) (time : List ℕ) (end v : ℕ) : Type 0 where
  pub row : Row none m (arrival_at t r) v time
  pub end_before : end ≤ v
  pub unreached : Unreached m (arrival_at t r) end v

abbrev pub invariant-loop-v : goal.invariant-loop-v
invariant-loop-v l = Row-to l.t l.m l.r l.time l.end l.v

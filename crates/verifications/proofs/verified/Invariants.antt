-- `verifications::verified` meets its contract. The loop's invariant: `best` is the least over the ways by the positions before u. From `end` on no position is
-- reached, so that no way is left out. Assumes nothing.
use mathlib.Core.List.{List}
use Prim.Native.Nat.{◌≤◌, ℕ}
use mathlib.Core.Path.{◌≡◌}
use Rattle.chain.specs.declared.Recoveries.{Recoveries}
use Rattle.units.specs.Limits.{none}
use Rattle.chain.specs.Working.Search.{least, way}
use Rattle.table.specs.Working.Table.{arrival_at}
use Rattle.verifications.proofs.verified.Given as goal

pub record Least-to (t : List ℕ) (m v : ℕ) (r : Recoveries) (best u : ℕ) : Type 0 where
  pub from_m : m ≤ u
  pub within : u ≤ v
  pub least_is : best ≡ least none (way none m (arrival_at t r) v) u

abbrev pub invariant-loop-u : goal.invariant-loop-u
invariant-loop-u l = Least-to l.t l.m l.v l.r l.best l.u

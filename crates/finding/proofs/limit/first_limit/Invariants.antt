-- `finding::limit::first_limit` meets its contract. The loop's invariant: d and u are positions in order, and no time is above none. The measure is what is left of the positions. Assumes nothing.
use Prim.Native.Nat.{◌-◌, ◌≤◌, ℕ}
use Rattle.units.specs.Limits.{none}
use Rattle.finding.proofs.limit.first_limit.Given as goal

pub record Placed-at (n d u on_disk in_memory : ℕ) : Type 0 where
  pub order : d ≤ u
  pub within : u ≤ n
  pub disk_range : on_disk ≤ none
  pub memory_range : in_memory ≤ none

abbrev pub invariant-loop-u : goal.invariant-loop-u
invariant-loop-u l = Placed-at l.n l.d l.u l.on_disk l.in_memory

abbrev pub decreases-loop-u : goal.decreases-loop-u
decreases-loop-u l = l.n - l.u

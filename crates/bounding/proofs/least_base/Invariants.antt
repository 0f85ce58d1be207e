-- `bounding::least_base` meets its contract. The loop's invariant: `best` is at most the recovery of v itself and of each disk copy before d. Assumes nothing.
use Prim.Native.Nat.{ℕ, ◌≤◌}
use mathlib.Core.List.{List}
use Rattle.bounds.specs.Working.Bounds.{disk_in}
use Rattle.bounding.proofs.Bounds.{AtMost}
use Rattle.bounding.proofs.least_base.Given as goal

pub record Least (b t : List ℕ) (v best d : ℕ) : Type 0 where
  pub own : (n : ℕ) → best ≤ disk_in n t b v v
  pub others : (n : ℕ) → AtMost (λ w. 0 ≤ w) (λ w. disk_in n t b w v) d best

abbrev pub invariant-loop-d : goal.invariant-loop-d
invariant-loop-d l = Least l.b l.t l.v l.best l.d

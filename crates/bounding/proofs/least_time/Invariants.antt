-- `bounding::least_time` meets its contract. The loop's invariant: `best` is at most each candidate before u. Assumes nothing.
use Prim.Native.Nat.{ℕ, ◌+◌, ◌≤◌}
use mathlib.Core.List.{List}
use Rattle.units.specs.Limits.{none}
use Rattle.bounds.specs.Working.Bounds.{bounds_in}
use Rattle.table.specs.Working.Table.{cm_start, column}
use Rattle.bounding.proofs.Bounds.{AtMost}
use Rattle.bounding.proofs.least_time.Given as goal

-- the time of v by u
abbrev pub candidate : (n : ℕ) → (b t : List ℕ) → (v u : ℕ) → ℕ
candidate n b t v u = (bounds_in n b).time u + (bounds_in n b).part u v + column cm_start t v

pub record Least (n : ℕ) (b t : List ℕ) (v best u : ℕ) : Type 0 where
  pub range : best ≤ none
  pub least : AtMost (λ w. 0 ≤ w) (candidate n b t v) u best

abbrev pub invariant-loop-u : goal.invariant-loop-u
invariant-loop-u l = Least l.n l.b l.t l.v l.best l.u

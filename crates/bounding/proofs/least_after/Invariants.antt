-- `bounding::least_after` meets its contract. The loop's invariant: `best` is at most each candidate before v. Assumes nothing.
use Prim.Native.Nat.{ℕ, ◌+◌, ◌*◌, ◌≤◌, ◌<◌}
use mathlib.Core.List.{List}
use lib.ListN.{get_or}
use Rattle.units.specs.Unit.{up}
use Rattle.units.specs.Limits.{none}
use Rattle.bounds.specs.Working.Bounds.{bounds_in}
use Rattle.bounding.proofs.Bounds.{AtMost}
use Rattle.bounding.proofs.least_after.Given as goal

-- what comes after u by the memory copy w
abbrev pub candidate : (n : ℕ) → (ahead b : List ℕ) → (d x w : ℕ) → ℕ
candidate n ahead b d x w = get_or ahead (2 * w) 0 + up (get_or ahead (2 * w + 1) 0 * x) + (bounds_in n b).after d w

pub record Least (n : ℕ) (ahead b : List ℕ) (d x u best v : ℕ) : Type 0 where
  pub range : best ≤ none
  pub least : AtMost (λ w. u < w) (candidate n ahead b d x) v best

abbrev pub invariant-loop-v : goal.invariant-loop-v
invariant-loop-v l = Least l.n l.ahead l.b l.d l.x l.u l.best l.v

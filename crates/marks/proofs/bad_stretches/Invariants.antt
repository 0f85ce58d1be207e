-- `marks::bad_stretches` meets its contract. The loop's invariant: `heaviest` decides for every stretch that ended, and `weight` is the weight since the last
-- marked position. Assumes nothing.
use Rattle.job.specs.declared.Job.{Job}
use mathlib.Core.List.{List}
use Prim.Native.Nat.{ℕ, ◌-◌, ◌≤◌}
use Rattle.marks.proofs.Stretches.{Walked}
use Rattle.marks.proofs.bad_stretches.Given as goal

pub record Passed (job : Job) (marks : List ℕ) (n j heaviest weight : ℕ) : Type 0 where
  pub to : j ≤ n
  pub walked : Walked job marks j heaviest weight

abbrev pub invariant-loop-j : goal.invariant-loop-j
invariant-loop-j l = Passed l.job l.marks l.n l.j l.heaviest l.weight

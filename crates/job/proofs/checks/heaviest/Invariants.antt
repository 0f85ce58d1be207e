-- `job::checks::heaviest` meets its contract. The loop's invariant: `most` is the heaviest weight passed.
-- Assumes nothing.
use mathlib.Core.List.{List}
use Prim.Native.Nat.{ℕ, ◌-◌, ◌≤◌}
use mathlib.Core.Path.{◌≡◌}
use Rattle.job.specs.Working.Heaviest.{heaviest}
use Rattle.job.proofs.checks.heaviest.Given as goal

pub record Passed (weights : List ℕ) (n most j : ℕ) : Type 0 where
  pub to : j ≤ n
  pub value : most ≡ heaviest weights j

abbrev pub invariant-loop-j : goal.invariant-loop-j
invariant-loop-j l = Passed l.weights l.n l.most l.j

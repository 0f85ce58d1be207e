-- `job::checks::bad_weights` meets its contract. The loop's invariant: the weights passed are in range, and `sum` is their total, so that 64 of them cannot
-- wrap. Assumes nothing.
use mathlib.Core.List.{List}
use Prim.Native.Nat.{ℕ, ◌-◌, ◌*◌, ◌≤◌}
use mathlib.Core.Path.{◌≡◌}
use mathlib.Core.Bool.{false}
use Rattle.units.specs.Limits.{cost_limit}
use Rattle.lists.specs.Lists.{some}
use Rattle.job.specs.Job.{total}
use Rattle.job.specs.Checks.{bad_weight}
use Rattle.job.proofs.checks.bad_weights.Given as goal

pub record Passed (weights : List ℕ) (n sum j : ℕ) : Type 0 where
  pub to : j ≤ n
  pub clear : some j (bad_weight weights) ≡ false
  pub value : sum ≡ total weights j
  pub range : sum ≤ j * cost_limit

abbrev pub invariant-loop-j : goal.invariant-loop-j
invariant-loop-j l = Passed l.weights l.n l.sum l.j

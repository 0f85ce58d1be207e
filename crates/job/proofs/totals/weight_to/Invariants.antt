-- `job::totals::weight_to` meets its contract.
-- The loop's invariant: the sum is the total of the weights passed, each below 2^32, so that it cannot wrap. Assumes
-- nothing.
use mathlib.Core.List.{List}
use Prim.Native.Nat.{ℕ, ◌-◌, ◌*◌, ◌≤◌, ◌^◌}
use mathlib.Core.Path.{◌≡◌}
use Rattle.job.specs.Job.{total}
use Rattle.job.proofs.totals.weight_to.Given as goal

pub record Added (weights : List ℕ) (n sum j : ℕ) : Type 0 where
  pub to : j ≤ n
  pub value : sum ≡ total weights j
  pub range : sum ≤ j * 2 ^ 32

abbrev pub invariant-loop-j : goal.invariant-loop-j
invariant-loop-j l = Added l.weights l.n l.sum l.j

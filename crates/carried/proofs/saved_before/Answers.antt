-- `carried::saved_before` meets its contract. The last copy before v is a place of the array. Assumes nothing.
use Prim.Native.Nat.{ℕ, zero, suc, ◌+◌, ◌≤◌}
use native.Mathlib.Omega.{arith}
use Rattle.units.specs.Limits.{task_limit}
use Rattle.chain.specs.Time.{Marks, last}
use Rattle.rules.specs.Rules.{marks_in}
use Rattle.chain.proofs.Equations.{last_le, last_lt}
use Rattle.carried.proofs.saved_before.Goals as goal

within : (k : ℕ) (f : Marks) (v : ℕ) → v ≤ task_limit + 1 → last k f v ≤ task_limit
within k f zero h = omega (arith, last_le k f 0)
within k f (suc v) h = omega (arith, last_lt k f (suc v) (omega arith))

pub weight_to-kept-requires : goal.weight_to-kept-requires
weight_to-kept-requires c =
    let last-copy = c.last_copy-position in
    omega (arith, last-copy.ensures, within c.args.least (marks_in c.args.run) c.args.v c.requires)

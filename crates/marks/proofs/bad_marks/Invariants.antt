-- `marks::bad_marks` meets its contract. The loop's invariant: no mark passed is above 3. Assumes nothing.
use mathlib.Core.List.{List}
use Prim.Native.Nat.{ℕ, ◌-◌, ◌≤◌}
use mathlib.Core.Path.{◌≡◌}
use mathlib.Core.Bool.{false}
use lib.Dec.{ltb}
use lib.ListN.{get_or}
use Rattle.lists.specs.Lists.{some}
use Rattle.chain.specs.Time.{disk}
use Rattle.marks.proofs.bad_marks.Given as goal

pub record Passed (marks : List ℕ) (n j : ℕ) : Type 0 where
  pub to : j ≤ n
  pub clear : some j (λ i. ltb disk (get_or marks i 0)) ≡ false

abbrev pub invariant-loop-j : goal.invariant-loop-j
invariant-loop-j l = Passed l.marks l.n l.j

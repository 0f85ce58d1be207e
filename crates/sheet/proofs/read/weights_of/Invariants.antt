-- `sheet::read::weights_of` meets its contract. The loop's invariant: the entries passed are the sheet's weights, and 0 stands in the others. The measure is
-- what is left of the tasks. Assumes nothing.
use Prim.Native.Nat.{ℕ, ◌-◌, ◌≤◌}
use mathlib.Core.List.{List}
use mathlib.Core.Path.{◌≡◌}
use Rattle.sheet.specs.Reading.{weights_of}
use Rattle.sheet.proofs.read.weights_of.Given as goal

pub record Weights (part : List ℕ) (n : ℕ) (weights : List ℕ) (j : ℕ) : Type 0 where
  pub within : j ≤ n
  pub weights_read : weights ≡ weights_of part j

abbrev pub invariant-loop-j : goal.invariant-loop-j
invariant-loop-j l = Weights l.part l.n l.weights l.j

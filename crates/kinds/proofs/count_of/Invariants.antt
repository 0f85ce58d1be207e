-- `kinds::count_of` meets its contract. The loop's invariant: n counts the sections passed that are of the kind. The measure is what is left of them. Assumes nothing.
use Prim.Native.Nat.{ℕ, ◌-◌, ◌≤◌}
use mathlib.Core.Path.{◌≡◌}
use mathlib.Core.List.{List}
use Rattle.kinds.specs.Kinds.{counted}
use Rattle.kinds.proofs.count_of.Given as goal

pub record Counting (s : List ℕ) (k m n j : ℕ) : Type 0 where
  pub within : j ≤ m
  pub count : n ≡ counted s k j
  pub few : n ≤ j

abbrev pub invariant-loop-j : goal.invariant-loop-j
invariant-loop-j l = Counting l.s l.k l.j-end l.n l.j

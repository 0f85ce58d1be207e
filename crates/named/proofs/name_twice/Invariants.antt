-- `named::name_twice` meets its contract. The loop's invariant: the names of the entries passed have no slot before them. Assumes nothing.
use Prim.Native.Nat.{ℕ, ◌≤◌}
use mathlib.Core.List.{List}
use lib.ListN.{length, take}
use Rattle.names.specs.declared.Held.{Held}
use Rattle.named.proofs.Once.{Firsts}
use Rattle.named.proofs.name_twice.Given as goal

pub record Passing (hs : List Held) (j : ℕ) : Type 0 where
  pub to : j ≤ length hs
  pub firsts : Firsts hs j

abbrev pub invariant-loop-j : goal.invariant-loop-j
invariant-loop-j l = Passing (take l.count l.entries) l.j

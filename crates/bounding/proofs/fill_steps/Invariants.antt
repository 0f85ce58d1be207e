-- `bounding::fill_steps` meets its contract. The loop's invariant: the parts from the copies before m are filled, and the times, risks and bases up to m. Assumes nothing.
use mathlib.Core.List.{List}
use Prim.Native.Nat.{◌+◌, ℕ}
use mathlib.Core.Path.{◌≡◌}
use lib.ListN.{length}
use Rattle.units.specs.Limits.{positions}
use Rattle.bounding.specs.Working.Stages.{Filled}
use Rattle.bounding.proofs.fill_steps.Given as goal

pub record Steps-to (b₀ t : List ℕ) (n : ℕ) (b q : List ℕ) (m : ℕ) : Type 0 where
  pub filled : Filled m (m + 1) n t b
  pub row_long : length q ≡ positions
  pub same_long : length b ≡ length b₀

abbrev pub invariant-loop-m : goal.invariant-loop-m
invariant-loop-m l = Steps-to l.initial.b l.t l.n l.b l.q l.m

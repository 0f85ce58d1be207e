-- `bounding::fill_column` meets its contract. The loop's invariant: the column has its own entry and those of the disk copies before d. Assumes nothing.
use mathlib.Core.Path.{◌≡◌}
use mathlib.Core.List.{List}
use lib.ListN.{length}
use Prim.Native.Nat.{ℕ}
use Rattle.bounding.specs.Working.Stages.{Looked, Column}
use Rattle.bounds.specs.Working.Bounds.{bounds_in}
use Rattle.bounding.proofs.fill_column.Given as goal

pub record Column-to (b₀ ahead t : List ℕ) (u end n own : ℕ) (b : List ℕ) (d : ℕ) : Type 0 where
  pub column : Column d u n t b
  pub looked : Looked b t u end n ahead
  pub own_is : (bounds_in n b).after u u ≡ own
  pub same_long : length b ≡ length b₀

abbrev pub invariant-loop-d : goal.invariant-loop-d
invariant-loop-d l = Column-to l.initial.b l.ahead l.t l.u l.end l.n l.own l.b l.d

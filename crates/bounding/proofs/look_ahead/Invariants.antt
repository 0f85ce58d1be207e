-- `bounding::look_ahead` meets its contract. The loop's invariant: the entries before v are done, and from `end` on none is a time. Assumes nothing.
use mathlib.Core.List.{List}
use Prim.Native.Nat.{◌≤◌, ◌<◌, ℕ}
use Rattle.bounding.specs.Working.Stages.{Ahead}
use Rattle.bounding.proofs.Bounds.{Past}
use Rattle.bounding.proofs.look_ahead.Given as goal

pub record Looked-to (n : ℕ) (b t : List ℕ) (u : ℕ) (ahead : List ℕ) (end v : ℕ) : Type 0 where
  pub entries : Ahead n b t u v ahead
  pub end_after_u : u < end
  pub end_within : end ≤ v
  pub past : Past ahead end v

abbrev pub invariant-loop-v : goal.invariant-loop-v
invariant-loop-v l = Looked-to l.n l.b l.t l.u l.ahead l.end l.v

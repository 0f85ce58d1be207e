-- `bounding::fill_afters` meets its contract. The loop's invariant: what comes after the copies from u on is filled. Assumes nothing.
use mathlib.Core.List.{List}
use Prim.Native.Nat.{ℕ}
use mathlib.Core.Path.{◌≡◌}
use lib.ListN.{length}
use Rattle.bounding.specs.Working.Stages.{Stage, ahead_length}
use Rattle.bounding.proofs.fill_afters.Given as goal

pub record Afters-from (b₀ t : List ℕ) (n : ℕ) (b ahead : List ℕ) (u : ℕ) : Type 0 where
  pub stage : Stage u n t b
  pub ahead_long : length ahead ≡ ahead_length
  pub same_long : length b ≡ length b₀

abbrev pub invariant-loop-u : goal.invariant-loop-u
invariant-loop-u l = Afters-from l.initial.b l.t l.n l.b l.ahead l.u

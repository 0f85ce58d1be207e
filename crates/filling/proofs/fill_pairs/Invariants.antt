-- `filling::fill_pairs` meets its contract. The invariant over near ends: the stretches before (u, u + 1) have their factors, if allowed. Over far ends: those before (u, v)
-- have them, and the running weight is that of tasks u + 1 to v - 1. Assumes nothing.
use Prim.Native.Nat.{ℕ, ◌+◌, ◌-◌}
use mathlib.Core.Path.{◌≡◌}
use mathlib.Core.List.{List}
use lib.ListN.{length}
use Rattle.job.specs.declared.Job.{Job}
use Rattle.costs.specs.declared.Powers.{Powers}
use Rattle.filling.specs.Weight.{weight_after}
use Rattle.filling.specs.Working.Fill.{PairsTo}
use Rattle.filling.proofs.fill_pairs.Given as goal

pub record Pairs-to (t₀ : List ℕ) (powers : Powers) (job : Job) (u : ℕ) (t : List ℕ) (weight v : ℕ) : Type 0 where
  pub running : weight ≡ weight_after job.weights u (v - 1 - u)
  pub pairs : PairsTo powers job u v t
  pub same_long : length t ≡ length t₀

pub record Near-to (t₀ : List ℕ) (powers : Powers) (job : Job) (t : List ℕ) (u : ℕ) : Type 0 where
  pub pairs : PairsTo powers job u (u + 1) t
  pub same_long : length t ≡ length t₀

abbrev pub invariant-loop-v : goal.invariant-loop-v
invariant-loop-v l = Pairs-to l.initial.t l.powers l.fn.job l.u l.t l.weight l.v

abbrev pub invariant-loop-u : goal.invariant-loop-u
invariant-loop-u l = Near-to l.initial.t l.powers l.fn.job l.t l.u

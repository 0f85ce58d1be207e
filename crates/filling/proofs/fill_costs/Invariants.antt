-- `filling::fill_costs` meets its contract. The loop's invariant: the positions before v have their costs. Assumes nothing.
use Rattle.filling.specs.Working.Fill.{TableTo}
use mathlib.Core.List.{List}
use mathlib.Core.Path.{◌≡◌}
use Prim.Native.Nat.{ℕ}
use lib.ListN.{length}
use Rattle.job.specs.declared.Job.{Job}
use Rattle.costs.specs.declared.Powers.{Powers}
use Rattle.filling.proofs.fill_costs.Given as goal

pub record Costs-to (t₀ : List ℕ) (powers : Powers) (job : Job) (t : List ℕ) (v : ℕ) : Type 0 where
  pub table : TableTo powers job v t
  pub same_long : length t ≡ length t₀

abbrev pub invariant-loop-v : goal.invariant-loop-v
invariant-loop-v l = Costs-to l.initial.t l.powers l.fn.job l.t l.v

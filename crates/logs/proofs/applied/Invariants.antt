-- `logs::applied` meets its contract. The loop's invariant: the records before i are accepted and lead to the place at hand, which 21 accepts and whose copies are
-- carried. A refusal at a record is the answer of the whole log. Assumes nothing.
use Prim.Native.Nat.{ℕ}
use mathlib.Core.Path.{◌≡◌}
use mathlib.Core.List.{List}
use Rattle.following.specs.Run.{standing, accepted}
use Rattle.following.specs.Working.Lent.{lent_run, ReadyForEvent}
use Rattle.state.specs.declared.Run.{Run}
use Rattle.carried.specs.declared.Carried.{Carried}
use Rattle.logs.specs.Working.Once.{applied_on}
use Rattle.logs.proofs.applied.Given as goal

pub record Followed (run : Run) (log : List ℕ) (carried : Carried) (i : ℕ) : Type 0 where
  pub leads : applied_on run log i ≡ accepted (standing run carried.place)
  pub ready : ReadyForEvent (standing run carried.place) carried

abbrev pub invariant-loop-i : goal.invariant-loop-i
invariant-loop-i l = Followed (lent_run l.lent l.fn.start) l.log l.carried l.i

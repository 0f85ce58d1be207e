-- `rules::positions::last_copy` meets its contract. The loop's invariant: the position found is the last copy before the next position. Assumes nothing.
use Prim.Native.Nat.{ℕ, ◌≤◌, max}
use mathlib.Core.Path.{◌≡◌}
use Rattle.state.specs.declared.Run.{Run}
use Rattle.chain.specs.Time.{last}
use Rattle.rules.specs.Rules.{marks_in}
use Rattle.rules.proofs.positions.last_copy.Given as goal

pub record Passed (run : Run) (least v found p : ℕ) : Type 0 where
  pub to : p ≤ max 1 v
  pub value : found ≡ last least (marks_in run) p

abbrev pub invariant-loop-p : goal.invariant-loop-p
invariant-loop-p l = Passed l.run l.least l.v l.found l.p

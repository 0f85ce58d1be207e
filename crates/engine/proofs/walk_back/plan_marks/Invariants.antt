-- `engine::walk_back::plan_marks` meets its contract. The loop's invariant: the marks after w.v are the plan's, and w is the place of the theory's walk there. The
-- measure is w.v. Assumes nothing.
use Prim.Native.Nat.{ℕ, ◌<◌}
use mathlib.Core.List.{List}
use Rattle.units.specs.Limits.{none}
use Rattle.chain.specs.Working.Walk.{Place, OnWay, Placed}
use Rattle.job.specs.declared.Job.{Job}
use Rattle.costs.specs.Stretch.{chain_of}
use Rattle.engine.specs.Working.Places.{place_of}
use Rattle.engine.proofs.walk_back.plan_marks.Given as goal

pub record Walked (job : Job) (w : Place) (marks : List ℕ) : Type 0 where
  pub placed : Placed (chain_of job) none job.tasks w marks
  pub on_way : 0 < w.v → OnWay (chain_of job) none w

abbrev pub invariant-loop-w : goal.invariant-loop-w
invariant-loop-w l = Walked l.job (place_of l.w) l.marks

abbrev pub decreases-loop-w : goal.decreases-loop-w
decreases-loop-w l = l.w.v

-- `walk::plan_marks` meets its contract. The loop's invariant: the marks after w.v are the plan's, and w is the place of the theory's walk there. The
-- measure is w.v. Assumes nothing.
use Rattle.walk.proofs.Steps.{PlacedAt}
use Rattle.walk.proofs.plan_marks.Given as goal

abbrev pub invariant-loop-w : goal.invariant-loop-w
invariant-loop-w l = PlacedAt l.t l.b l.n l.w l.marks

abbrev pub decreases-loop-w : goal.decreases-loop-w
decreases-loop-w l = l.w.v

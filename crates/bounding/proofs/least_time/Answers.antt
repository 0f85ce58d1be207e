use Prim.Native.Nat.{◌≤◌}
use native.Mathlib.Omega.{arith}
use Rattle.bounds.specs.Working.Bounds.{bounds_in}
use Rattle.bounding.proofs.Bounds.{at_most_next}
use Rattle.bounding.proofs.least_time.Invariants.{candidate}
use Rattle.bounding.proofs.least_time.Goals as goal

pub overflow_add-b : goal.overflow_add-b
unfolding bounds_in
overflow_add-b c =
    let part = c.part in
    let pre = c.requires in
    let loop = c.loop-u in
    rw part.ensures (omega (arith, pre.parts loop.u (omega arith), pre.times loop.u (omega arith)))

pub overflow_add-b-in-loop-u : goal.overflow_add-b-in-loop-u
unfolding bounds_in
overflow_add-b-in-loop-u c =
    let part = c.part in
    let column-at = c.column_at-copy in
    let pre = c.requires in
    let loop = c.loop-u in
    let args = c.args in
    rw (part.ensures, column-at.ensures) (omega (arith, pre.parts loop.u (omega arith), pre.times loop.u (omega arith), pre.bounded.cm args.v (omega arith)))

pub loop-u-preserved : goal.loop-u-preserved
unfolding bounds_in
loop-u-preserved c =
    let min = c.min-best in
    let args = c.args in
    let loop = c.loop-u in
    let part = c.part in
    let column-at = c.column_at-copy in
    record {
      range = omega (arith, min.ensures, loop.invariant.range);
      least =
          rw min.ensures
          (at_most_next (λ w. 0 ≤ w) (candidate args.n args.b.now args.t.now args.v) _ _ loop.invariant.least _ (λ _. rw (part.ensures, column-at.ensures)));
    }

-- `output::plan_text` meets its contract. A plan's task count is in range, so that its marks are there, and no text is longer than the room. Assumes nothing.
use native.Mathlib.Omega.{arith}
use Prim.Native.Nat.{◌≤◌}
use lib.ListN.{take}
use Rattle.units.specs.Limits.{task_limit}
use Rattle.lines.proofs.Buffers.{room_first, room_then, puts_then}
use Rattle.output.proofs.Lengths.{room_empty, room_holds, plan_fits, plan_refused, plan_accepted}
use Rattle.output.proofs.plan_text.Goals as goal

pub returns-then-answer-ne-ACCEPTED : goal.returns-then-answer-ne-ACCEPTED
returns-then-answer-ne-ACCEPTED c = rw (plan_refused _ c.args.answer _ (λ e. omega arith)) c.refused_text.ensures

pub put_numbered-requires : goal.put_numbered-requires
put_numbered-requires c =
    let n = c.args.n in
    let few : n ≤ task_limit = c.requires.few (omega arith) in
    let fits = plan_fits c.args.word.now c.args.answer.time c.args.marks n c.requires.short (omega (arith, c.well_formed)) few in
    room_first _ (room_empty c.new-text.ensures (omega arith) fits)

pub slice_bounds-marks-end : goal.slice_bounds-marks-end
slice_bounds-marks-end c = omega (arith, c.requires.few (omega arith))

pub put_marked-requires : goal.put_marked-requires
put_marked-requires c =
    let n = c.args.n in
    let few : n ≤ task_limit = c.requires.few (omega arith) in
    let fits = plan_fits c.args.word.now c.args.answer.time c.args.marks n c.requires.short (omega (arith, c.well_formed)) few in
    room_then (room_empty c.new-text.ensures (omega arith) fits) c.put_numbered.ensures

pub returns : goal.returns
returns c =
    let n = c.args.n in
    let few : n ≤ task_limit = c.requires.few (omega arith) in
    let fits = plan_fits c.args.word.now c.args.answer.time c.args.marks n c.requires.short (omega (arith, c.well_formed)) few in
    rw (plan_accepted _ c.args.answer (take n c.args.marks) (omega arith))
    (room_holds c.new-text.ensures (room_empty c.new-text.ensures (omega arith) fits) (puts_then c.put_numbered.ensures c.put_marked.ensures))

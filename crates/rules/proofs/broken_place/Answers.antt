-- `rules::broken_place` meets its contract. The four tests in their order: each return rewrites the definition by the tests before it. Assumes nothing.
use Prim.Native.Nat.{◌≤◌}
use borrow.Author.Tests.{lt-ltb, le-ltb, eq-eqb, ne_eqb}
use native.Mathlib.Omega.{arith}
use Rattle.rules.specs.Rules.{broken_place}
use Rattle.rules.proofs.broken_place.Goals as goal

pub returns-then-run-p : goal.returns-then-run-p
unfolding broken_place
returns-then-run-p c =
    let run = c.args.run in
    rw (lt-ltb run.job.tasks run.place.position (omega (arith, c.if-run-p.true)))

pub returns-then-bad_awaiting : goal.returns-then-bad_awaiting
unfolding broken_place
returns-then-bad_awaiting c =
    let run = c.args.run in
    let bad-awaiting = c.bad_awaiting in
    let if2 = c.if-bad_awaiting in
    rw (le-ltb run.job.tasks run.place.position (omega (arith, c.if-run-p.false)), ← bad-awaiting.ensures, if2.true)

pub returns-then-run-weight_to : goal.returns-then-run-weight_to
unfolding broken_place
returns-then-run-weight_to c =
    let run = c.args.run in
    let bad-awaiting = c.bad_awaiting in
    let if2 = c.if-bad_awaiting in
    let weight-to = c.weight_to in
    let if3 = c.if-run-weight_to in
    rw (le-ltb run.job.tasks run.place.position (omega (arith, c.if-run-p.false)), ← bad-awaiting.ensures, if2.false, ← weight-to.ensures.value, ne_eqb _ _ if3.true)

pub returns : goal.returns
unfolding broken_place
returns c =
    let run = c.args.run in
    let bad-awaiting = c.bad_awaiting in
    let if2 = c.if-bad_awaiting in
    let weight-to = c.weight_to in
    let if3 = c.if-run-weight_to in
    let over-total = c.over_total in
    let within : run.place.position ≤ run.job.tasks = omega (arith, c.if-run-p.false) in
    rw (le-ltb run.job.tasks run.place.position within, ← bad-awaiting.ensures, if2.false, ← weight-to.ensures.value, eq-eqb _ _ if3.false) over-total.ensures

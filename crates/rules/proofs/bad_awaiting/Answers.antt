-- `rules::bad_awaiting` meets its contract. The start's mark is 0, so that one test serves both. Assumes nothing.
use borrow.Author.Tests.{eq-eqb, ne_eqb}
use Rattle.rules.specs.Rules.{bad_awaiting}
use Rattle.rules.proofs.Copies.{no_mark}
use Rattle.rules.proofs.bad_awaiting.Goals as goal

pub returns-then-run-eq0 : goal.returns-then-run-eq0
unfolding bad_awaiting
returns-then-run-eq0 c =
    let args = c.args in
    let if1 = c.if-run-eq0 in
    rw (eq-eqb args.run.place.awaiting 0 if1.true)

pub returns : goal.returns
unfolding bad_awaiting
returns c =
    let args = c.args in
    let if1 = c.if-run-eq0 in
    let mark_at = c.mark_at in
    rw (ne_eqb args.run.place.awaiting 0 if1.false, mark_at.ensures) (no_mark args.run.marks args.run.place.position)

-- Each call that is not the last leads on.
use Rattle.std.proofs.Common.{◌≡◌, ◌-◌, ◌*◌, ◌+◌, arith}
use Rattle.follow.proofs.Turns.{through_more, through_last, through_end}
use Rattle.follow.specs.Prints.{words_after}
use Rattle.follow.proofs.call_in_turn.Goals as goal

pub returns-in-Err : goal.returns-in-Err
returns-in-Err c = through_last (omega (arith, c.loop-pair-test.true, c.words_after-pair-end.ensures)) c.loop-pair.invariant (rw c.in-Err.is at c.call_at.ensures)

pub loop-pair-preserved : goal.loop-pair-preserved
loop-pair-preserved c =
    let next : words_after c.args.count - 2 * (c.loop-pair.pair + 1) ≡ words_after c.args.count - 2 * c.loop-pair.pair - 2 = omega arith in
    rw next (through_more (omega (arith, c.loop-pair-test.true, c.words_after-pair-end.ensures)) c.loop-pair.invariant (rw c.in-Ok.is at c.call_at.ensures))

pub returns : goal.returns
returns c = through_end (omega (arith, c.loop-pair-test.false, c.words_after-pair-end.ensures, c.loop-pair.auto.pair-end)) c.loop-pair.invariant c.text_of.ensures

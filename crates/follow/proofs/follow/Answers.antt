-- A start that is refused has its text; any other has that of its log and of the calls after it.
use Rattle.std.proofs.Common.{arith}
use Rattle.follow.proofs.Turns.{log_last, log_then}
use Rattle.follow.proofs.follow.Goals as goal

pub returns-in-Err : goal.returns-in-Err
returns-in-Err c =
    let number = rw c.start-started.ensures at c.if-started-ne-ACCEPTED.false in
    let logged = rw (c.start-started.ensures, c.none-names.ensures, c.in-Err.is) at c.follow_log.ensures in
    record { refused = λ h. absurd (omega (arith, number)); followed = λ _. log_last logged }

pub returns-in-Ok : goal.returns-in-Ok
returns-in-Ok c =
    let number = rw c.start-started.ensures at c.if-started-ne-ACCEPTED.false in
    let logged = rw (c.start-started.ensures, c.none-names.ensures, c.in-Ok.is) at c.follow_log.ensures in
    record { refused = λ h. absurd (omega (arith, number)); followed = λ _. log_then logged c.call_in_turn.ensures }

-- A log that is not opened is lost.
use Rattle.std.proofs.Common.{inl, inr}
use Rattle.follow.specs.Prints.{Lost}
use Rattle.follow.proofs.open_log.Goals as goal

pub returns-in-Err : goal.returns-in-Err
unfolding Lost
returns-in-Err c = inr (inl c.unreadable.ensures)

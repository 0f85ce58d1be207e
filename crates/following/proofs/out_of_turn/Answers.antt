-- `following::out_of_turn` meets its contract, by the event that was matched. Assumes nothing.
use mathlib.Core.Path.{sym}
use mathlib.Core.Bool.{not-not}
use Rattle.following.specs.Run.{out_of_turn}
use Rattle.following.proofs.out_of_turn.Goals as goal

pub returns-in-Done : goal.returns-in-Done
unfolding out_of_turn
returns-in-Done c = rw c.in-Done.is

pub returns-in-Passed : goal.returns-in-Passed
unfolding out_of_turn
returns-in-Passed c = rw c.in-Passed.is (sym (not-not _))

pub returns-in-Failed : goal.returns-in-Failed
unfolding out_of_turn
returns-in-Failed c = rw c.in-Failed.is (sym (not-not _))

pub returns-in-Stopped : goal.returns-in-Stopped
unfolding out_of_turn
returns-in-Stopped c = rw c.in-Stopped.is

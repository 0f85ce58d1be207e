-- A log is one call.
use Rattle.follow.proofs.Turns.{log_call}
use Rattle.follow.proofs.log_at.Goals as goal

pub returns : goal.returns
returns c = log_call _ c.open_log.ensures

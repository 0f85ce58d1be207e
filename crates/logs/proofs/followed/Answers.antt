-- `logs::followed` meets its contract. A state that 21 accepts is taken up and lent in parts, which are the state itself. Assumes nothing.
use Rattle.rules.proofs.Soundness.{run_sound, position_range}
use Rattle.logs.proofs.followed.Goals as goal

pub taken_up-requires : goal.taken_up-requires
taken_up-requires c = position_range (run_sound _ c.requires)

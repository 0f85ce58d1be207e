-- `starting::refused_start` meets its contract. The code is the definition. Assumes nothing.
use Rattle.starting.proofs.refused_start.Goals as goal

pub returns : goal.returns
returns c =
    let zero = c.zero in
    rw zero.ensures

-- `carried::over_mark` meets its contract. Each kind of copy by the mark. Assumes nothing.
use Rattle.carried.specs.Working.Carried.{over_mark}
use Rattle.carried.proofs.over_mark.Goals as goal

pub returns : goal.returns
unfolding over_mark
returns c =
    let disk = c.saved_after-2 in
    let memory = c.saved_after in
    rw (memory.ensures, disk.ensures)

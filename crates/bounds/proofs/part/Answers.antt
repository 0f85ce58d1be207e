-- `bounds::part` meets its contract. One entry of the square. Assumes nothing.
use Rattle.bounds.specs.Working.Bounds.{bounds_in}
use Rattle.bounds.proofs.part.Goals as goal

pub returns : goal.returns
unfolding bounds_in
returns c =
    let square-at = c.square_at in
    square-at.ensures

-- `bounding::fill_bounds` meets its contract. Each stage has what the next one asks. Assumes nothing.
use Rattle.bounding.proofs.Bounds.{bounds_filled}
use Rattle.bounding.proofs.fill_bounds.Goals as goal

pub returns : goal.returns
returns c =
    let fill-afters = c.fill_afters in
    let pre = c.requires in
    bounds_filled _ _ _ pre.bounded.few fill-afters.ensures

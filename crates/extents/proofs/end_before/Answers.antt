-- `extents::end_before` meets its contract. The first section follows the header, a later one that before it. Assumes nothing.
use Rattle.extents.proofs.Extents.{first_start_lem, later_start}
use Rattle.extents.proofs.end_before.Goals as goal

pub returns-then-i-eq0 : goal.returns-then-i-eq0
returns-then-i-eq0 c = rw (c.if-i-eq0.true, first_start_lem) c.least_offset.ensures.is

pub returns : goal.returns
returns c = rw (later_start _ _ c.if-i-eq0.false, ← c.offset_of.ensures.is, ← c.size_of.ensures.is)

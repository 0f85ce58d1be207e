-- `extents::bad_extents` meets its contract. Some section is misplaced. Assumes nothing.
use Rattle.std.proofs.Common.{rules}
use Rattle.lists.proofs.Ranges.{any_some}
use Rattle.extents.specs.Extents.{bad_extent, bad_extents}
use Rattle.extents.proofs.bad_extents.Goals as goal

pub returns : goal.returns
unfolding bad_extents
returns c = rw (← c.section_count.ensures.is) (any_some (bad_extent c.args.s.now) _ _ _ _ (λ i b q e. search rules) c.any.ensures.ran)

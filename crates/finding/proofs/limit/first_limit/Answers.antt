use Rattle.table.proofs.Table.{bounded_less}
use Rattle.finding.proofs.limit.first_limit.Goals as goal

pub copy_time-requires : goal.copy_time-requires
copy_time-requires c =
    let next-copy = c.next_copy-v in
    let pre = c.requires in
    let loop = c.loop-u in
    record { bounded = bounded_less _ _ _ next-copy.ensures.within pre.bounded; disk = loop.invariant.order; order = next-copy.ensures.later; reached = loop.invariant.memory_range }

-- `walk::at_disk` meets its contract. The disk row names d, and the memory row from d up to v is filled anew, cut by what the plan leaves from d to the end;
-- it names m, and the row of verifications from m is filled anew.
-- Assumes nothing.
use mathlib.Core.Path.{refl}
use native.Mathlib.Omega.{arith}
use lib.ListN.{length-replicate}
use Rattle.units.specs.Limits.{none}
use Rattle.units.specs.Limits.{positions}
use Rattle.copies.proofs.Copies.{table_row}
use Rattle.walk.proofs.Steps.{copy_range, copy_recoveries, copy_step, disk_range}
use Rattle.bounds.proofs.Bounds.{bounding_less}
use Rattle.table.proofs.Table.{bounded_less}
use Rattle.walk.proofs.at_disk.Goals as goal

pub overflow_add-left : goal.overflow_add-left
overflow_add-left c =
    let pre = c.requires in
    omega (arith, pre.ready.found.least, pre.ready.in_time)

pub offset_bounds-time-d : goal.offset_bounds-time-d
offset_bounds-time-d c =
    let pre = c.requires in
    let range = disk_range _ _ _ _ _ pre.ready _ pre.some_task pre.within pre.on_plan in
    omega (arith, range.below, pre.within, pre.ready.bounded.few)

pub bounds-time-d : goal.bounds-time-d
bounds-time-d c =
    let pre = c.requires in
    let range = disk_range _ _ _ _ _ pre.ready _ pre.some_task pre.within pre.on_plan in
    omega (arith, range.below, pre.within, pre.ready.bounded.few, pre.ready.found.times_long)

pub overflow_sub-left : goal.overflow_sub-left
overflow_sub-left c =
    let pre = c.requires in
    let range = disk_range _ _ _ _ _ pre.ready _ pre.some_task pre.within pre.on_plan in
    omega (arith, range.time, range.room, pre.ready.found.least)

pub memory_row-requires : goal.memory_row-requires
memory_row-requires c =
    let pre = c.requires in
    let range = disk_range _ _ _ _ _ pre.ready _ pre.some_task pre.within pre.on_plan in
    record {
      fresh = record { times = refl; positions_before = refl };
      bounded = bounded_less _ _ _ pre.within pre.ready.bounded;
      bounding = bounding_less _ _ _ _ _ pre.within pre.ready.bounding;
      start = omega (arith, range.below);
      room = omega (arith, pre.ready.found.least, pre.ready.in_time);
    }

pub offset_bounds-copies-v : goal.offset_bounds-copies-v
offset_bounds-copies-v c =
    let pre = c.requires in
    omega (arith, pre.within, pre.ready.bounded.few)

pub bounds-copies-v : goal.bounds-copies-v
bounds-copies-v c =
    let pre = c.requires in
    omega (arith, pre.within, pre.ready.bounded.few)

pub offset_bounds-times-m : goal.offset_bounds-times-m
offset_bounds-times-m c =
    let pre = c.requires in
    let memory-row = c.memory_row in
    let disk = disk_range _ _ _ _ _ pre.ready _ pre.some_task pre.within pre.on_plan in
    let row = rw (pre.ready.found.least, disk.time) at memory-row.ensures in
    let range = copy_range _ _ _ _ _ pre.ready _ _ _ _ row disk.below pre.within disk.room in
    omega (arith, range.below, pre.within, pre.ready.bounded.few)

pub bounds-times-m : goal.bounds-times-m
bounds-times-m c =
    let pre = c.requires in
    let memory-row = c.memory_row in
    let disk = disk_range _ _ _ _ _ pre.ready _ pre.some_task pre.within pre.on_plan in
    let row = rw (pre.ready.found.least, disk.time) at memory-row.ensures in
    let range = copy_range _ _ _ _ _ pre.ready _ _ _ _ row disk.below pre.within disk.room in
    omega (arith, range.below, pre.within, pre.ready.bounded.few)

pub recoveries-r-requires : goal.recoveries-r-requires
recoveries-r-requires c =
    let pre = c.requires in
    let memory-row = c.memory_row in
    let disk = disk_range _ _ _ _ _ pre.ready _ pre.some_task pre.within pre.on_plan in
    let row = rw (pre.ready.found.least, disk.time) at memory-row.ensures in
    let range = copy_range _ _ _ _ _ pre.ready _ _ _ _ row disk.below pre.within disk.room in
    copy_recoveries _ _ _ _ _ _ (bounded_less _ _ _ pre.within pre.ready.bounded) range

pub verification_row-requires : goal.verification_row-requires
verification_row-requires c =
    let pre = c.requires in
    let memory-row = c.memory_row in
    let disk = disk_range _ _ _ _ _ pre.ready _ pre.some_task pre.within pre.on_plan in
    let row = rw (pre.ready.found.least, disk.time) at memory-row.ensures in
    let range = copy_range _ _ _ _ _ pre.ready _ _ _ _ row disk.below pre.within disk.room in
    let recoveries = c.recoveries-r in
    record {
      long = length-replicate positions none;
      bounded = bounded_less _ _ _ pre.within pre.ready.bounded;
      recoveries = recoveries.ensures.range;
      start = omega (arith, range.below);
    }

pub returns : goal.returns
returns c =
    let pre = c.requires in
    let memory-row = c.memory_row in
    let disk = disk_range _ _ _ _ _ pre.ready _ pre.some_task pre.within pre.on_plan in
    let row = rw (pre.ready.found.least, disk.time) at memory-row.ensures in
    let recoveries = c.recoveries-r in
    let verification-row = c.verification_row in
    let checks = table_row _ _ _ _ _ _ recoveries.ensures.value _ verification-row.ensures in
    rw (← disk.is)
    (copy_step _ _ _ _ _ pre.ready _ _ _ _ row disk.below pre.within disk.room _ _ (omega arith) (omega arith) (λ _. disk.is) disk.on_plan
    (record { is = refl; checks = checks }))

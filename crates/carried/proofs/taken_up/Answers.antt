-- `carried::taken_up` meets its contract. The position is one of the tasks or the start, so that the marks passed are places of the array. Assumes nothing.
use mathlib.Core.Path.{refl}
use Rattle.carried.proofs.Copies.{passed_range}
use Rattle.carried.proofs.taken_up.Goals as goal

pub saved_before-memory-requires : goal.saved_before-memory-requires
saved_before-memory-requires c =
    let passed-before = c.passed_before-v in
    rw passed-before.ensures (passed_range c.args.run.place c.requires)

pub saved_before-disk-requires : goal.saved_before-disk-requires
saved_before-disk-requires c =
    let passed-before = c.passed_before-v in
    rw passed-before.ensures (passed_range c.args.run.place c.requires)

pub returns : goal.returns
returns c =
    let disk = c.saved_before-disk in
    let memory = c.saved_before-memory in
    let passed-before = c.passed_before-v in
    record { place = refl; memory_copy = rw (← passed-before.ensures) memory.ensures; disk_copy = rw (← passed-before.ensures) disk.ensures }

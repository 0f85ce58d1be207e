-- `engine::walk_back::at_disk` meets its contract: the earliest positions are the plan's. Assumes nothing.
use Prim.Native.Nat.{◌<◌}
use native.Mathlib.Omega.{arith}
use Rattle.units.specs.Limits.{none}
use Rattle.chain.specs.Working.Search.{least_m}
use Rattle.chain.proofs.Walk.{back_d_arrives}
use Rattle.costs.specs.Stretch.{chain_of}
use Rattle.equations.proofs.Minima.{disk_back_lem, memory_back_lem}
use Rattle.engine.proofs.walk_back.at_disk.Goals as goal

pub e_disk-d-requires : goal.e_disk-d-requires
e_disk-d-requires c = record { sound = c.requires.sound; end = c.requires.end }

pub e_mem-requires : goal.e_mem-requires
e_mem-requires c =
    let pre = c.requires in
    let before = (c.e_disk-d.ensures.earliest pre.some_task (omega (arith, c.e_disk-d.ensures.value, pre.in_time))).before in
    record { sound = pre.sound; start = omega (arith, before); end = pre.end }

pub returns : goal.returns
returns c =
    let args = c.args in
    let pre = c.requires in
    let e-disk = c.e_disk-d in
    let before = (e-disk.ensures.earliest pre.some_task (omega (arith, e-disk.ensures.value, pre.in_time))).before in
    let e = disk_back_lem _ _ _ _ _ pre.some_task pre.in_time e-disk.ensures in
    let in_time : least_m (chain_of args.job) none e-disk.result.at args.v < none =
    rw e (omega (arith, back_d_arrives (chain_of args.job) none args.v pre.some_task pre.in_time, pre.in_time))
    in
    rw (memory_back_lem _ _ _ _ _ _ before in_time c.e_mem.ensures, e)

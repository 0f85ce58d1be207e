-- `walk::step_back` meets its contract. The branches are the theory's: back to a verification, to a memory copy, to a disk copy, or to the start.
-- Assumes nothing.
use mathlib.Core.Path.{refl}
use native.Mathlib.Omega.{arith}
use lib.ListN.{length-replicate}
use Rattle.units.specs.Limits.{none}
use Rattle.units.specs.Limits.{positions}
use Rattle.copies.proofs.Copies.{table_row}
use Rattle.walk.proofs.Steps.{time_here, check_range, before_mark, before_memory, before_disk, before_start, memory_range, memory_step, copy_recoveries}
use Rattle.table.proofs.Table.{bounded_less}
use Rattle.walk.proofs.step_back.Goals as goal

pub recoveries-r-requires : goal.recoveries-r-requires
recoveries-r-requires c =
    let pre = c.requires in
    let walking = pre.walking in
    let state = walking.state in
    let bounded = pre.ready.bounded in
    record {
      long = omega (arith, bounded.long);
      d_few = omega (arith, state.d_m, state.m_v, pre.within, bounded.few);
      m_few = omega (arith, state.m_v, pre.within, bounded.few);
      rd = bounded.rd _ (omega (arith, state.d_m, state.m_v, pre.within));
      rm = bounded.rm _ (omega (arith, state.m_v, pre.within));
      time = omega (arith, time_here _ _ _ _ walking, state.in_memory);
    }

pub check_before-u-requires : goal.check_before-u-requires
check_before-u-requires c =
    let pre = c.requires in
    let recoveries = c.recoveries-r in
    let range = check_range _ _ _ _ pre.walking _ recoveries.ensures.value in
    record {
      bounded = bounded_less _ _ _ pre.within pre.ready.bounded;
      recoveries = recoveries.ensures.range;
      order = pre.walking.state.m_v;
      row = range.row;
    }

pub returns-then-u-m : goal.returns-then-u-m
returns-then-u-m c =
    let pre = c.requires in
    let recoveries = c.recoveries-r in
    let check-before = c.check_before-u in
    let if1 = c.if-u-m in
    let range = check_range _ _ _ _ pre.walking _ recoveries.ensures.value in
    before_mark _ _ _ _ pre.walking _ (range.is _ check-before.ensures) if1.true

pub offset_bounds-w-before : goal.offset_bounds-w-before
offset_bounds-w-before c =
    let pre = c.requires in
    let if2 = c.if-m-d in
    let range = memory_range _ _ _ _ _ pre.ready _ pre.walking pre.within if2.true in
    omega (arith, range.below, pre.walking.state.m_v, pre.within, pre.ready.bounded.few)

pub bounds-w-before : goal.bounds-w-before
bounds-w-before c =
    let pre = c.requires in
    let if2 = c.if-m-d in
    let range = memory_range _ _ _ _ _ pre.ready _ pre.walking pre.within if2.true in
    omega (arith, range.below, pre.walking.state.m_v, pre.within, pre.ready.bounded.few)

pub recoveries-s-requires : goal.recoveries-s-requires
recoveries-s-requires c =
    let pre = c.requires in
    let if2 = c.if-m-d in
    let range = memory_range _ _ _ _ _ pre.ready _ pre.walking pre.within if2.true in
    copy_recoveries _ _ _ _ _ _ (bounded_less _ _ _ (omega (arith, pre.walking.state.m_v, pre.within)) pre.ready.bounded) range

pub verification_row-requires : goal.verification_row-requires
verification_row-requires c =
    let pre = c.requires in
    let if2 = c.if-m-d in
    let range = memory_range _ _ _ _ _ pre.ready _ pre.walking pre.within if2.true in
    let recoveries2 = c.recoveries-s in
    record {
      long = length-replicate positions none;
      bounded = bounded_less _ _ _ (omega (arith, pre.walking.state.m_v, pre.within)) pre.ready.bounded;
      recoveries = recoveries2.ensures.range;
      start = omega (arith, range.below);
    }

pub returns-then-m-d : goal.returns-then-m-d
returns-then-m-d c =
    let pre = c.requires in
    let recoveries = c.recoveries-r in
    let check-before = c.check_before-u in
    let if1 = c.if-u-m in
    let if2 = c.if-m-d in
    let recoveries2 = c.recoveries-s in
    let verification-row = c.verification_row in
    let range = check_range _ _ _ _ pre.walking _ recoveries.ensures.value in
    let checks = table_row _ _ _ _ _ _ recoveries2.ensures.value _ verification-row.ensures in
    before_memory _ _ _ _ pre.walking _ (range.is _ check-before.ensures) if1.false _ if2.true
    (memory_step _ _ _ _ _ pre.ready _ pre.walking pre.within if2.true _ (record { is = refl; checks = checks }))

pub returns-then-d-ne0 : goal.returns-then-d-ne0
returns-then-d-ne0 c =
    let pre = c.requires in
    let recoveries = c.recoveries-r in
    let check-before = c.check_before-u in
    let if1 = c.if-u-m in
    let if2 = c.if-m-d in
    let if3 = c.if-d-ne0 in
    let at-disk = c.at_disk in
    let range = check_range _ _ _ _ pre.walking _ recoveries.ensures.value in
    before_disk _ _ _ _ pre.walking _ (range.is _ check-before.ensures) if1.false _ if2.false if3.true at-disk.ensures

pub returns : goal.returns
returns c =
    let pre = c.requires in
    let recoveries = c.recoveries-r in
    let check-before = c.check_before-u in
    let if1 = c.if-u-m in
    let if2 = c.if-m-d in
    let if3 = c.if-d-ne0 in
    let range = check_range _ _ _ _ pre.walking _ recoveries.ensures.value in
    before_start _ _ _ _ pre.walking _ (range.is _ check-before.ensures) if1.false _ if2.false if3.false refl

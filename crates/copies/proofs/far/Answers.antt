use Prim.Native.Nat.{◌+◌, ◌-◌}
use mathlib.Core.Path.{◌≡◌, refl, ap}
use native.Mathlib.Omega.{arith}
use Rattle.chain.specs.declared.Recoveries.{Recoveries}
use Rattle.copies.proofs.Copies.{passed_next, soonest_is, far_some, far_dead}
use Rattle.bounds.proofs.Bounds.{base_cap}
use Rattle.copies.proofs.far.Goals as goal

pub returns-then-left-mt : goal.returns-then-left-mt
returns-then-left-mt c =
    let pre = c.requires in
    let after = c.after in
    let if1 = c.if-left-mt in
    far_dead _ _ _ _ _ _ _ _ pre.bounding pre.disk pre.start _ refl pre.capped pre.not_low (rw (← after.ensures) if1.true)

pub beyond-disk-requires : goal.beyond-disk-requires
beyond-disk-requires c =
    let pre = c.requires in
    record {
      long = omega (arith, pre.bounding.long);
      few = omega (arith, pre.start, pre.bounded.few);
      base = base_cap _ _ _ _ (pre.bounding.below.base_low _ _ (omega arith) (omega (arith, pre.start))) (pre.bounded.rd _ (omega (arith, pre.start)));
    }

pub returns-then-mt-part_low : goal.returns-then-mt-part_low
returns-then-mt-part_low c =
    let pre = c.requires in
    let recoveries = c.recoveries-r in
    let beyond = c.beyond-disk in
    let args = c.args in
    let loop = c.loop-v in
    let Part-low = c.part_low in
    let if2 = c.if-mt-part_low in
    let min = c.min in
    let saturating-sub = c.saturating_sub-room in
    let after2 = c.after-in-loop-v in
    let e : loop.v - 1 + 1 ≡ loop.v = omega arith in
    let disk = ap (λ (r : Recoveries). r.disk) recoveries.ensures.value in
    let is = soonest_is args.n args.time.now args.t.now args.b.now args.d args.m args.left args.top _ _ disk (beyond.ensures args.n) (loop.v - 1) _ Part-low.ensures.value in
    far_some _ _ _ _ _ _ _ _ (loop.v - 1) (omega arith) (omega arith) (rw e loop.invariant) (pre.capped _ (omega arith))
    (omega (arith, is, if2.true, min.ensures, saturating-sub.ensures, after2.ensures))

pub loop-v-preserved : goal.loop-v-preserved
loop-v-preserved c =
    let recoveries = c.recoveries-r in
    let beyond = c.beyond-disk in
    let args = c.args in
    let loop = c.loop-v in
    let Part-low = c.part_low in
    let if2 = c.if-mt-part_low in
    let min = c.min in
    let saturating-sub = c.saturating_sub-room in
    let after2 = c.after-in-loop-v in
    let e : loop.v - 1 + 1 ≡ loop.v = omega arith in
    let disk = ap (λ (r : Recoveries). r.disk) recoveries.ensures.value in
    let is = soonest_is args.n args.time.now args.t.now args.b.now args.d args.m args.left args.top _ _ disk (beyond.ensures args.n) (loop.v - 1) _ Part-low.ensures.value in
    passed_next _ _ _ _ _ _ _ _ (loop.v - 1) (omega arith) (rw e loop.invariant) (omega (arith, is, if2.false, min.ensures, saturating-sub.ensures, after2.ensures))

pub part_low-requires : goal.part_low-requires
part_low-requires c =
    let pre = c.requires in
    let recoveries = c.recoveries-r in
    let beyond = c.beyond-disk in
    record {
      fit = record { long = pre.bounding.long; near = omega (arith, pre.start, pre.bounding.within); far = omega (arith, pre.bounding.within) };
      few = pre.bounding.few;
      table_long = omega (arith, pre.bounded.long);
      disk = omega (arith, beyond.ensures 0, recoveries.ensures.range.disk);
      part = pre.bounding.parts _ _ (omega arith) (omega arith);
      copy = pre.bounded.cm _ (omega arith);
    }

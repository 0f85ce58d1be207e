use mathlib.Core.Path.{refl}
use Prim.Native.Nat.{◌<◌}
use native.Mathlib.Omega.{arith}
use Rattle.chain.specs.Working.Factors.{stretch_of}
use Rattle.chain.proofs.Search.{least_q_start}
use Rattle.chain.proofs.Products.{disk_product, again_product, memory_product, disk_part, again_part, memory_part}
use Rattle.equations.proofs.Minima.{level_start, level_found, verification_min}
use Rattle.equations.proofs.Stretches.{stretch_none, stretch_ready, stretch_some}
use Rattle.equations.proofs.+e_e_verif.Goals as goal

pub e-returns-then-f-eq0 : goal.e-returns-then-f-eq0
e-returns-then-f-eq0 t c =
    let pre = c.requires in
    let growths = c.growths-f in
    record {
      value = stretch_none pre growths.ensures c.if-f-eq0.true;
      cap = omega arith;
    }

pub e-overflow_sub-f : goal.e-overflow_sub-f
e-overflow_sub-f t c =
    let pre = c.requires in
    let growths = c.growths-f in
    let if1 = c.if-f-eq0 in
    let ready = stretch_ready pre growths.ensures if1.false 0 (omega arith) in
    ready.factors.both

pub e-overflow_mul-f : goal.e-overflow_mul-f
e-overflow_mul-f t c =
    let pre = c.requires in
    let growths = c.growths-f in
    let if1 = c.if-f-eq0 in
    let ready = stretch_ready pre growths.ensures if1.false 0 (omega arith) in
    rw (c.rd_of.ensures.value c.args.job refl) (omega (arith, disk_product _ _ _ ready))

pub e-rounded_up-requires : goal.e-rounded_up-requires
e-rounded_up-requires t c =
    let pre = c.requires in
    let growths = c.growths-f in
    let if1 = c.if-f-eq0 in
    let ready = stretch_ready pre growths.ensures if1.false 0 (omega arith) in
    rw (c.rd_of.ensures.value c.args.job refl) (omega (arith, disk_product _ _ _ ready))

pub e-overflow_add-result : goal.e-overflow_add-result
e-overflow_add-result t c =
    let pre = c.requires in
    let growths = c.growths-f in
    let if1 = c.if-f-eq0 in
    let ready = stretch_ready pre growths.ensures if1.false 0 (omega arith) in
    rw (c.rounded_up.ensures, (c.rd_of.ensures.value c.args.job refl)) (omega (arith, ready.factors.work, disk_part _ _ _ ready))

pub e-overflow_sub-f-2 : goal.e-overflow_sub-f-2
e-overflow_sub-f-2 t c =
    let pre = c.requires in
    let growths = c.growths-f in
    let if1 = c.if-f-eq0 in
    let ready = stretch_ready pre growths.ensures if1.false 0 (omega arith) in
    omega (arith, ready.factors.silent, ready.factors.both)

pub e-overflow_mul-f-2 : goal.e-overflow_mul-f-2
e-overflow_mul-f-2 t c =
    let pre = c.requires in
    let growths = c.growths-f in
    let if1 = c.if-f-eq0 in
    let e-verif = c.e_verif in
    let ready = stretch_ready pre growths.ensures if1.false e-verif.result.time e-verif.ensures.cap in
    omega (arith, again_product _ _ _ ready)

pub e-rounded_up-requires-2 : goal.e-rounded_up-requires-2
e-rounded_up-requires-2 t c =
    let pre = c.requires in
    let growths = c.growths-f in
    let if1 = c.if-f-eq0 in
    let e-verif = c.e_verif in
    let ready = stretch_ready pre growths.ensures if1.false e-verif.result.time e-verif.ensures.cap in
    omega (arith, again_product _ _ _ ready)

pub e-overflow_add-result-2 : goal.e-overflow_add-result-2
e-overflow_add-result-2 t c =
    let pre = c.requires in
    let growths = c.growths-f in
    let if1 = c.if-f-eq0 in
    let e-verif = c.e_verif in
    let ready = stretch_ready pre growths.ensures if1.false e-verif.result.time e-verif.ensures.cap in
    let rounded-up = c.rounded_up in
    let rd-of = c.rd_of in
    rw (rounded-up.ensures, (rd-of.ensures.value c.args.job refl), c.rounded_up-2.ensures)
    (omega (arith, ready.factors.work, disk_part _ _ _ ready, again_part _ _ _ ready))

pub e-overflow_sub-f-3 : goal.e-overflow_sub-f-3
e-overflow_sub-f-3 t c =
    let pre = c.requires in
    let growths = c.growths-f in
    let if1 = c.if-f-eq0 in
    let ready = stretch_ready pre growths.ensures if1.false 0 (omega arith) in
    ready.factors.silent

pub e-overflow_mul-f-3 : goal.e-overflow_mul-f-3
e-overflow_mul-f-3 t c =
    let pre = c.requires in
    let growths = c.growths-f in
    let if1 = c.if-f-eq0 in
    let ready = stretch_ready pre growths.ensures if1.false 0 (omega arith) in
    rw (c.rm_of.ensures.value c.args.job refl) (omega (arith, memory_product _ _ _ ready))

pub e-rounded_up-requires-3 : goal.e-rounded_up-requires-3
e-rounded_up-requires-3 t c =
    let pre = c.requires in
    let growths = c.growths-f in
    let if1 = c.if-f-eq0 in
    let ready = stretch_ready pre growths.ensures if1.false 0 (omega arith) in
    rw (c.rm_of.ensures.value c.args.job refl) (omega (arith, memory_product _ _ _ ready))

pub e-overflow_add-result-3 : goal.e-overflow_add-result-3
e-overflow_add-result-3 t c =
    let pre = c.requires in
    let growths = c.growths-f in
    let if1 = c.if-f-eq0 in
    let e-verif = c.e_verif in
    let ready = stretch_ready pre growths.ensures if1.false e-verif.result.time e-verif.ensures.cap in
    let rounded-up = c.rounded_up in
    let rounded-up2 = c.rounded_up-2 in
    let rounded-up3 = c.rounded_up-3 in
    let rd-of = c.rd_of in
    let rm-of = c.rm_of in
    rw (rounded-up.ensures, (rd-of.ensures.value c.args.job refl), rounded-up2.ensures, rounded-up3.ensures, (rm-of.ensures.value c.args.job refl))
    (omega (arith, ready.factors.work, disk_part _ _ _ ready, again_part _ _ _ ready, memory_part _ _ _ ready))

pub e-returns : goal.e-returns
unfolding stretch_of
e-returns t c =
    let pre = c.requires in
    let growths = c.growths-f in
    let if1 = c.if-f-eq0 in
    let e-verif = c.e_verif in
    let ready = stretch_ready pre growths.ensures if1.false e-verif.result.time e-verif.ensures.cap in
    let rounded-up = c.rounded_up in
    let rounded-up2 = c.rounded_up-2 in
    let rounded-up3 = c.rounded_up-3 in
    let rd-of = c.rd_of in
    let rm-of = c.rm_of in
    let whole = stretch_some pre growths.ensures if1.false in
    rw (rounded-up.ensures, (rd-of.ensures.value c.args.job refl), rounded-up2.ensures, rounded-up3.ensures, (rm-of.ensures.value c.args.job refl))
    (record {
      value = rw e-verif.ensures.value whole;
      cap = omega (arith, ready.factors.work, disk_part _ _ _ ready, again_part _ _ _ ready, memory_part _ _ _ ready);
    })

pub e_verif-returns-then-v2-m1 : goal.e_verif-returns-then-v2-m1
e_verif-returns-then-v2-m1 t c = rw c.if-v2-m1.true (level_start _ _ _ _ _ (least_q_start _ _ _ _ _))

pub e_verif-returns : goal.e_verif-returns
e_verif-returns t c =
    let args = c.args in
    let pre = c.requires in
    let some : args.m1 < args.v2 = omega (arith, pre.start, c.if-v2-m1.false) in
    level_found _ _ _ _ _ _ _ some (verification_min _ _ _ _ _ _ some) c.loop-v1.invariant (omega arith)

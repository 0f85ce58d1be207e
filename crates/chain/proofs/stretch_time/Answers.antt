-- `chain::stretch_time` meets its contract. Each part is rounded up by itself; the caps keep each product below 2^64. Assumes nothing.
use native.Mathlib.Omega.{arith}
use Rattle.chain.specs.Working.Factors.{stretch_of}
use Rattle.chain.proofs.Products.{disk_product, again_product, memory_product, disk_part, again_part, memory_part}
use Rattle.chain.proofs.stretch_time.Goals as goal

pub overflow_sub-f : goal.overflow_sub-f
overflow_sub-f c =
    let pre = c.requires in
    omega (arith, pre.factors.both)

pub overflow_mul-f : goal.overflow_mul-f
overflow_mul-f c =
    let pre = c.requires in
    record { fits = omega (arith, disk_product _ _ _ pre) }

pub rounded_up-requires : goal.rounded_up-requires
rounded_up-requires c =
    let pre = c.requires in
    omega (arith, disk_product _ _ _ pre)

pub overflow_add-result : goal.overflow_add-result
overflow_add-result c =
    let rounded-up = c.rounded_up in
    let pre = c.requires in
    omega (arith, rounded-up.ensures, pre.factors.work, disk_part _ _ _ pre)

pub overflow_sub-f-2 : goal.overflow_sub-f-2
overflow_sub-f-2 c =
    let pre = c.requires in
    omega (arith, pre.factors.silent, pre.factors.both)

pub overflow_mul-f-2 : goal.overflow_mul-f-2
overflow_mul-f-2 c =
    let pre = c.requires in
    record { fits = omega (arith, again_product _ _ _ pre) }

pub rounded_up-requires-2 : goal.rounded_up-requires-2
rounded_up-requires-2 c =
    let pre = c.requires in
    omega (arith, again_product _ _ _ pre)

pub overflow_add-result-2 : goal.overflow_add-result-2
overflow_add-result-2 c =
    let rounded-up = c.rounded_up in
    let rounded-up2 = c.rounded_up-2 in
    let pre = c.requires in
    omega (arith, rounded-up.ensures, rounded-up2.ensures, pre.factors.work, disk_part _ _ _ pre, again_part _ _ _ pre)

pub overflow_sub-f-3 : goal.overflow_sub-f-3
overflow_sub-f-3 c =
    let pre = c.requires in
    omega (arith, pre.factors.silent)

pub overflow_mul-f-3 : goal.overflow_mul-f-3
overflow_mul-f-3 c =
    let pre = c.requires in
    record { fits = omega (arith, memory_product _ _ _ pre) }

pub rounded_up-requires-3 : goal.rounded_up-requires-3
rounded_up-requires-3 c =
    let pre = c.requires in
    omega (arith, memory_product _ _ _ pre)

pub overflow_add-result-3 : goal.overflow_add-result-3
overflow_add-result-3 c =
    let rounded-up = c.rounded_up in
    let rounded-up2 = c.rounded_up-2 in
    let rounded-up3 = c.rounded_up-3 in
    let pre = c.requires in
    omega (
      arith,
      rounded-up.ensures,
      rounded-up2.ensures,
      rounded-up3.ensures,
      pre.factors.work,
      disk_part _ _ _ pre,
      again_part _ _ _ pre,
      memory_part _ _ _ pre,
    )

pub returns : goal.returns
unfolding stretch_of
returns c =
    let rounded-up = c.rounded_up in
    let rounded-up2 = c.rounded_up-2 in
    let rounded-up3 = c.rounded_up-3 in
    let pre = c.requires in
    record {
      value = rw (rounded-up.ensures, rounded-up2.ensures, rounded-up3.ensures);
      cap = omega (
        arith,
        rounded-up.ensures,
        rounded-up2.ensures,
        rounded-up3.ensures,
        pre.factors.work,
        disk_part _ _ _ pre,
        again_part _ _ _ pre,
        memory_part _ _ _ pre,
      );
    }

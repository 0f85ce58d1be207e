-- `bounding::fill_part` meets its contract. The row with the base of m for its recovery is at most each of its candidates. Assumes nothing.
use Prim.Native.Nat.{◌+◌}
use mathlib.Core.Path.{refl}
use native.Mathlib.Omega.{arith}
use Rattle.bounds.specs.Working.Bounds.{bounds_in}
use Rattle.bounding.proofs.Bounds.{bases_cap, filled_part}
use Rattle.bounding.proofs.fill_part.Goals as goal

pub overflow_mul-disk : goal.overflow_mul-disk
unfolding bounds_in
overflow_mul-disk c =
    let pre = c.requires in
    let args = c.args in
    let base = bases_cap args.n (args.m + 1) args.t.now args.b.now args.m pre.bounded pre.filled.bases (omega (arith, pre.order)) (omega arith) in
    record { fits = omega (arith, base) }

pub verification_row-requires : goal.verification_row-requires
unfolding bounds_in
verification_row-requires c =
    let pre = c.requires in
    let args = c.args in
    let column-at = c.column_at-memory in
    let base = bases_cap args.n (args.m + 1) args.t.now args.b.now args.m pre.bounded pre.filled.bases (omega (arith, pre.order)) (omega arith) in
    record {
      long = pre.row_long;
      bounded = pre.bounded;
      recoveries = record { disk = omega (arith, base); memory = rw column-at.ensures (pre.bounded.rm _ (omega (arith, pre.order))) };
      start = omega (arith, pre.order);
    }

pub returns : goal.returns
unfolding bounds_in
returns c =
    let pre = c.requires in
    let args = c.args in
    let column-at = c.column_at-memory in
    let verification-row = c.verification_row in
    let put-parts = c.put_parts in
    let filled =
    filled_part args.t.now args.m ((bounds_in args.n args.b.now).base args.m) _ (rw column-at.ensures) args.n args.b.now _ _ refl
    verification-row.ensures put-parts.ensures pre.bounded.few pre.order pre.filled in
    record { filled = filled; row_long = verification-row.ensures.long }

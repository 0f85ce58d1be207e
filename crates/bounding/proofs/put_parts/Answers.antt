use native.Mathlib.Omega.{arith}
use Rattle.bounding.proofs.Bounds.{parts_more}
use Rattle.bounding.proofs.put_parts.Goals as goal

pub loop-v-preserved : goal.loop-v-preserved
loop-v-preserved c =
    let loop = c.loop-v in
    let put-square = c.put_square in
    let pre = c.requires in
    rw put-square.ensures (parts_more _ _ _ _ _ _ loop.invariant pre.long (omega arith) (omega arith))

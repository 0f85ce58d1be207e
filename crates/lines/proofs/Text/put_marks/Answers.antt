use native.Mathlib.Omega.{arith}
use Rattle.lines.proofs.Lines.{length_digits, digit_at}
use Rattle.lines.proofs.Buffers.{putting_none, putting_more, putting_room, putting_all}
use Rattle.lines.proofs.Text.put_marks.Goals as goal

pub loop-mark-init : goal.loop-mark-init
loop-mark-init c = putting_none _ _ _

pub put_byte-requires : goal.put_byte-requires
put_byte-requires c = putting_room _ c.requires (omega (arith, length_digits c.args.marks.now)) c.loop-mark.invariant

pub loop-mark-preserved : goal.loop-mark-preserved
loop-mark-preserved c =
    putting_more _ (omega (arith, length_digits c.args.marks.now)) (digit_at _ _ (omega arith)) c.loop-mark.invariant c.put_byte.ensures

pub returns : goal.returns
returns c = putting_all (omega (arith, length_digits c.args.marks.now)) c.loop-mark.invariant

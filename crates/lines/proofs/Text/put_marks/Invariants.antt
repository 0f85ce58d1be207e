-- `Text::put_marks` meets its contract. The loop's invariant: the digits of the first marks are put. Assumes nothing.
use Rattle.lines.specs.Lines.{mark_digits}
use Rattle.lines.proofs.Buffers.{Putting}
use Rattle.lines.proofs.Text.put_marks.Given as goal

abbrev pub invariant-loop-mark : goal.invariant-loop-mark
invariant-loop-mark l = Putting l.initial.self.bytes l.self.bytes (mark_digits l.marks) l.initial.self.length l.self.length l.mark-index

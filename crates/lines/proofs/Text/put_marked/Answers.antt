-- `Text::put_marked` meets its contract. The word, a space, the digits and the end of the line, one after the other. Assumes nothing.
use Rattle.lines.specs.Lines.{marks_line}
use Rattle.lines.proofs.Buffers.{puts_then, room_first, room_then}
use Rattle.lines.proofs.Text.put_marked.Goals as goal

pub put-requires : goal.put-requires
unfolding marks_line
put-requires c = room_first _ c.requires

pub put_byte-requires : goal.put_byte-requires
unfolding marks_line
put_byte-requires c = room_first _ (room_then c.requires c.put.ensures)

pub put_marks-requires : goal.put_marks-requires
unfolding marks_line
put_marks-requires c = room_first _ (room_then (room_then c.requires c.put.ensures) c.put_byte.ensures)

pub put_byte-requires-2 : goal.put_byte-requires-2
unfolding marks_line
put_byte-requires-2 c = room_then (room_then (room_then c.requires c.put.ensures) c.put_byte.ensures) c.put_marks.ensures

pub returns : goal.returns
unfolding marks_line
returns c = puts_then c.put.ensures (puts_then c.put_byte.ensures (puts_then c.put_marks.ensures c.put_byte-2.ensures))

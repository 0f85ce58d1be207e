-- `output::put_sums` meets its contract. One line after the other. Assumes nothing.
use Rattle.output.specs.Texts.{sums_text}
use Rattle.lines.proofs.Buffers.{room_first, room_then, puts_then}
use Rattle.output.proofs.put_sums.Goals as goal

pub put_numbered-requires : goal.put_numbered-requires
unfolding sums_text
put_numbered-requires c = room_first _ c.requires

pub put_numbered-requires-2 : goal.put_numbered-requires-2
unfolding sums_text
put_numbered-requires-2 c = room_first _ (room_then c.requires c.put_numbered.ensures)

pub put_numbered-requires-3 : goal.put_numbered-requires-3
unfolding sums_text
put_numbered-requires-3 c = room_first _ (room_then (room_then c.requires c.put_numbered.ensures) c.put_numbered-2.ensures)

pub put_numbered-requires-4 : goal.put_numbered-requires-4
unfolding sums_text
put_numbered-requires-4 c =
    room_first _ (room_then (room_then (room_then c.requires c.put_numbered.ensures) c.put_numbered-2.ensures) c.put_numbered-3.ensures)

pub put_numbered-requires-5 : goal.put_numbered-requires-5
unfolding sums_text
put_numbered-requires-5 c =
    room_then (room_then (room_then (room_then c.requires c.put_numbered.ensures) c.put_numbered-2.ensures) c.put_numbered-3.ensures) c.put_numbered-4.ensures

pub returns : goal.returns
unfolding sums_text
returns c =
    puts_then c.put_numbered.ensures
    (puts_then c.put_numbered-2.ensures
    (puts_then c.put_numbered-3.ensures (puts_then c.put_numbered-4.ensures c.put_numbered-5.ensures)))

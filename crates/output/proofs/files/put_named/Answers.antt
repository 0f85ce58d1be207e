-- `output::files::put_named` meets its contract. One part after the other. Assumes nothing.
use Rattle.output.specs.Files.{named_text}
use Rattle.lines.proofs.Buffers.{room_first, room_then, puts_then}
use Rattle.output.proofs.files.put_named.Goals as goal

pub put-requires : goal.put-requires
unfolding named_text
put-requires c = room_first _ c.requires

pub put-requires-2 : goal.put-requires-2
unfolding named_text
put-requires-2 c = room_first _ (room_then c.requires c.put.ensures)

pub put-requires-3 : goal.put-requires-3
unfolding named_text
put-requires-3 c = room_first _ (room_then (room_then c.requires c.put.ensures) c.put-2.ensures)

pub put-requires-4 : goal.put-requires-4
unfolding named_text
put-requires-4 c = room_then (room_then (room_then c.requires c.put.ensures) c.put-2.ensures) c.put-3.ensures

pub returns : goal.returns
unfolding named_text
returns c = puts_then c.put.ensures (puts_then c.put-2.ensures (puts_then c.put-3.ensures c.put-4.ensures))

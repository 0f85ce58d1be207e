-- `output::put_run` meets its contract. One line after the other. Assumes nothing.
use Rattle.output.specs.Texts.{run_text}
use Rattle.lines.proofs.Buffers.{room_first, room_then, puts_then}
use Rattle.output.proofs.put_run.Goals as goal

pub put_numbered-requires : goal.put_numbered-requires
unfolding run_text
put_numbered-requires c = room_first _ c.requires

pub put_awaited-requires : goal.put_awaited-requires
unfolding run_text
put_awaited-requires c = room_first _ (room_then c.requires c.put_numbered.ensures)

pub put_sums-requires : goal.put_sums-requires
unfolding run_text
put_sums-requires c = room_then (room_then c.requires c.put_numbered.ensures) c.put_awaited.ensures

pub returns : goal.returns
unfolding run_text
returns c = puts_then c.put_numbered.ensures (puts_then c.put_awaited.ensures c.put_sums.ensures)

-- `output::entries::put_held` meets its contract. One part after the other; the line fits, since a name and a position are numbers of 64 bits. Assumes nothing.
use native.Mathlib.Omega.{arith}
use Rattle.lines.proofs.Buffers.{room_first, room_then, puts_then}
use Rattle.output.specs.Texts.{held_line}
use Rattle.output.proofs.HeldLines.{held_fits, held_room_lem}
use Rattle.output.proofs.entries.put_held.Goals as goal

pub put-requires : goal.put-requires
unfolding held_line
put-requires c =
    room_first _ (held_room_lem c.args.held (omega arith) (omega arith) c.requires)

pub put_number-requires : goal.put_number-requires
unfolding held_line
put_number-requires c =
    let room = held_room_lem c.args.held (omega arith) (omega arith) c.requires in
    room_first _ (room_then room c.put.ensures)

pub put-requires-2 : goal.put-requires-2
unfolding held_line
put-requires-2 c =
    let room = held_room_lem c.args.held (omega arith) (omega arith) c.requires in
    room_first _ (room_then (room_then room c.put.ensures) c.put_number.ensures)

pub put_numbered-requires : goal.put_numbered-requires
unfolding held_line
put_numbered-requires c =
    let room = held_room_lem c.args.held (omega arith) (omega arith) c.requires in
    room_then (room_then (room_then room c.put.ensures) c.put_number.ensures) c.put-2.ensures

pub returns : goal.returns
unfolding held_line
returns c =
    record {
      puts = puts_then c.put.ensures (puts_then c.put_number.ensures (puts_then c.put-2.ensures c.put_numbered.ensures));
      within = held_fits c.args.held (omega arith) (omega arith);
    }

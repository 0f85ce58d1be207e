-- `output::numbered_text` meets its contract. The line is no longer than the room. Assumes nothing.
use native.Mathlib.Omega.{arith}
use Rattle.output.proofs.Lengths.{room_empty, room_holds, line_room_lem}
use Rattle.output.proofs.numbered_text.Goals as goal

pub put_numbered-requires : goal.put_numbered-requires
put_numbered-requires c = room_empty c.new-text.ensures (omega arith) (line_room_lem _ c.args.n c.requires (omega arith))

pub returns : goal.returns
returns c =
    let empty = c.new-text.ensures in
    room_holds empty (room_empty empty (omega arith) (line_room_lem _ c.args.n c.requires (omega arith))) c.put_numbered.ensures

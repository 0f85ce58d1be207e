-- `output::complaint` meets its contract. The line is no longer than the room. Assumes nothing.
use native.Mathlib.Omega.{arith}
use Rattle.output.specs.Texts.{complaint_text}
use Rattle.lines.proofs.Buffers.{room_first, room_then, puts_then}
use Rattle.output.proofs.Lengths.{room_empty, room_holds, complaint_fits}
use Rattle.output.proofs.complaint.Goals as goal

pub put-requires : goal.put-requires
unfolding complaint_text
put-requires c = room_first _ (room_empty c.new-text.ensures (omega arith) (complaint_fits _ c.args.which.now c.requires))

pub put_words-requires : goal.put_words-requires
unfolding complaint_text
put_words-requires c = room_then (room_empty c.new-text.ensures (omega arith) (complaint_fits _ _ c.requires)) c.put.ensures

pub returns : goal.returns
unfolding complaint_text
returns c =
    let empty = c.new-text.ensures in
    room_holds empty (room_empty empty (omega arith) (complaint_fits _ _ c.requires)) (puts_then c.put.ensures c.put_words.ensures)

-- `output::files::unknown_word` meets its contract. The word is cut to what is shown of it, and the line is no longer than the room. Assumes nothing.
use native.Mathlib.Omega.{arith}
use Rattle.output.specs.Texts.{complaint_text}
use Rattle.lines.proofs.Buffers.{room_first, room_then, puts_then}
use Rattle.output.proofs.Lengths.{room_empty, room_holds}
use Rattle.output.proofs.Names.{shown_name, unknown_fits}
use Rattle.output.proofs.files.unknown_word.Goals as goal

pub put-requires : goal.put-requires
unfolding complaint_text
put-requires c = room_first _ (room_empty c.new-text.ensures (omega arith) (unknown_fits c.args.word.now _ c.shown-n.ensures))

pub put_words-requires : goal.put_words-requires
unfolding complaint_text
put_words-requires c =
    room_then (room_empty c.new-text.ensures (omega arith) (unknown_fits c.args.word.now _ c.shown-n.ensures)) c.put.ensures

pub returns : goal.returns
unfolding complaint_text
returns c =
    let empty = c.new-text.ensures in
    rw (← (shown_name c.args.word.now _ c.shown-n.ensures))
    (room_holds empty (room_empty empty (omega arith) (unknown_fits c.args.word.now _ c.shown-n.ensures)) (puts_then c.put.ensures c.put_words.ensures))

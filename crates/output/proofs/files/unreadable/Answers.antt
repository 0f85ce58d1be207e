-- `output::files::unreadable` meets its contract. The name is cut to what is shown of it, and the line is no longer than the room. Assumes nothing.
use native.Mathlib.Omega.{arith}
use Rattle.output.specs.Files.{unreadable_text}
use Rattle.lines.proofs.Buffers.{room_first, room_then, puts_then}
use Rattle.output.proofs.Lengths.{room_empty, room_holds}
use Rattle.output.proofs.Names.{shown_name, unreadable_fits}
use Rattle.output.proofs.files.unreadable.Goals as goal

pub put_named-requires : goal.put_named-requires
unfolding unreadable_text
put_named-requires c =
    room_first _ (room_empty c.new-text.ensures (omega arith) (unreadable_fits _ c.args.path.now c.args.cause.now _ c.requires c.shown-n.ensures))

pub put_words-requires : goal.put_words-requires
unfolding unreadable_text
put_words-requires c =
    room_then (room_empty c.new-text.ensures (omega arith) (unreadable_fits _ _ _ _ c.requires c.shown-n.ensures)) c.put_named.ensures

pub returns : goal.returns
unfolding unreadable_text
returns c =
    let empty = c.new-text.ensures in
    let fits = unreadable_fits _ c.args.path.now c.args.cause.now _ c.requires c.shown-n.ensures in
    rw (← (shown_name _ _ c.shown-n.ensures))
    (room_holds empty (room_empty empty (omega arith) fits) (puts_then c.put_named.ensures c.put_words.ensures))

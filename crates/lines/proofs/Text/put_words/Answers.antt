-- `Text::put_words` meets its contract. The words, then the end of the line. Assumes nothing.
use Rattle.lines.specs.Lines.{words_line}
use Rattle.lines.proofs.Buffers.{puts_then, room_first, room_then}
use Rattle.lines.proofs.Text.put_words.Goals as goal

pub put-requires : goal.put-requires
unfolding words_line
put-requires c = room_first _ c.requires

pub put_byte-requires : goal.put_byte-requires
unfolding words_line
put_byte-requires c = room_then c.requires c.put.ensures

pub returns : goal.returns
unfolding words_line
returns c = puts_then c.put.ensures c.put_byte.ensures

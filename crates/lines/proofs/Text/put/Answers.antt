-- `Text::put` meets its contract: the bytes are copied into their part of the room. Assumes nothing.
use Rattle.lines.proofs.Buffers.{puts_copied}
use Rattle.lines.proofs.Text.put.Goals as goal

pub returns : goal.returns
returns c = puts_copied _ _ _ _ c.requires c.copy_from_slice.ensures.after

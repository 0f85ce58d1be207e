-- `kinds::kind_of` meets its contract. The byte at its place in the section. Assumes nothing.
use Rattle.kinds.specs.Kinds.{kind}
use Rattle.kinds.proofs.kind_of.Goals as goal

pub returns : goal.returns
unfolding kind
returns c = rw (← c.offset_of.ensures.is) c.byte.ensures.is

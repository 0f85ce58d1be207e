-- `kinds::has_kind` meets its contract. Where a section is of the kind, the one of its index is. Assumes nothing.
use Rattle.kinds.proofs.Indices.{has_index}
use Rattle.kinds.proofs.has_kind.Goals as goal

pub returns : goal.returns
returns c = rw (c.kind_of.ensures, c.index_of.ensures.is) (has_index _ _)

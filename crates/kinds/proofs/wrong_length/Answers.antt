-- `kinds::wrong_length` meets its contract. The section's length beside that of its kind. Assumes nothing.
use Rattle.kinds.specs.Kinds.{wrong_length}
use Rattle.kinds.proofs.wrong_length.Goals as goal

pub returns : goal.returns
unfolding wrong_length
returns c =
    rw (
      ← c.size_of.ensures.is,
      ← c.kind_of.ensures,
      ← c.task_count.ensures.is,
      ← c.length_of.ensures,
    )

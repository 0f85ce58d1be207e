-- `writing::sheet_length` meets its contract. The header, the platform and the weights. Assumes nothing.
use native.Mathlib.Omega.{arith}
use Rattle.kinds.proofs.Lengths.{weights_long}
use Rattle.writing.proofs.sheet_length.Goals as goal

pub overflow_add-result : goal.overflow_add-result
overflow_add-result c = rw (c.length_of.ensures, weights_long) (omega arith)

pub returns : goal.returns
returns c = rw (c.length_of.ensures, weights_long)

-- `writing::put_header` meets its contract. Four bytes, then the pairs. Assumes nothing.
use mathlib.Core.Path.{refl}
use native.Mathlib.Omega.{arith}
use lib.ListN.{length-set}
use lib.Seq.{length-sets}
use Rattle.writing.proofs.put_header.Goals as goal

pub bounds-buffer-1 : goal.bounds-buffer-1
bounds-buffer-1 c = rw length-set (omega (arith, c.requires.pairs.room))

pub bounds-buffer-2 : goal.bounds-buffer-2
bounds-buffer-2 c = rw (length-set, length-set) (omega (arith, c.requires.pairs.room))

pub bounds-buffer-3 : goal.bounds-buffer-3
bounds-buffer-3 c = rw (length-set, length-set, length-set) (omega (arith, c.requires.pairs.room))

pub shape_of-buffer : goal.shape_of-buffer
shape_of-buffer c = rw (c.put_pairs.ensures, length-sets, length-set, length-set, length-set, length-set) refl

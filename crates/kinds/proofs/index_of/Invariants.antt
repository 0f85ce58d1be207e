-- `kinds::index_of` meets its contract. The loop's invariant: no section passed is of the kind, and one is left. Assumes nothing.
use Prim.Native.Nat.{◌-◌}
use Rattle.header.proofs.Loop.{NoneYet}
use Rattle.kinds.specs.Kinds.{is_kind}
use Rattle.kinds.proofs.index_of.Given as goal

abbrev pub invariant-loop-i : goal.invariant-loop-i
invariant-loop-i l = NoneYet (is_kind l.s l.k) l.last l.i

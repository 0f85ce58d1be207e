-- `copies::offer_copies` meets its contract. The loop's invariant: the entries after u and before v have had their offer, and the others are untouched. Assumes nothing.
use Prim.Native.Nat.{◌+◌}
use lib.ListN.{get_or}
use Rattle.copies.specs.Working.Copies.{Offered}
use Rattle.copies.proofs.offer_copies.Given as goal

abbrev pub invariant-loop-v : goal.invariant-loop-v
invariant-loop-v l = Offered l.initial.time l.initial.backs l.u l.v (λ w. l.t + get_or l.part w 0 + get_or l.copies w 0) l.time l.backs

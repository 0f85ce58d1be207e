-- `copies::far` meets its contract. The loop's invariant: no copy from v on can matter. Assumes nothing.
use Rattle.copies.proofs.Copies.{Passed}
use Rattle.copies.proofs.far.Given as goal

abbrev pub invariant-loop-v : goal.invariant-loop-v
invariant-loop-v l = Passed l.n l.time l.t l.b l.d l.m l.left l.top l.v

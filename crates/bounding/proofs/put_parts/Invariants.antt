-- `bounding::put_parts` meets its contract. The loop's invariant: the entries before v have their part. Assumes nothing.
use Rattle.bounding.specs.Working.Stages.{PutParts}
use Rattle.bounding.proofs.put_parts.Given as goal

abbrev pub invariant-loop-v : goal.invariant-loop-v
invariant-loop-v l = PutParts l.n l.initial.b l.q l.m l.v l.b

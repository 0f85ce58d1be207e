-- `named::some_place_broken` meets its contract. The loop's invariant: the places passed keep the rules.
-- Assumes nothing.
use lib.ListN.{take}
use Rattle.rules.specs.Rules.{marks_in}
use Rattle.named.proofs.Places.{Kept}
use Rattle.named.proofs.some_place_broken.Given as goal

abbrev pub invariant-loop-j : goal.invariant-loop-j
invariant-loop-j l = Kept l.run.job (marks_in l.run) (take l.count l.entries) l.j

-- `verifications::check_before` meets its contract. The loop's invariant: the positions before u have made their offers to v. Assumes nothing.
use Rattle.units.specs.Limits.{none}
use Rattle.table.specs.Working.Table.{arrival_at}
use Rattle.verifications.proofs.Rows.{Earliest}
use Rattle.verifications.proofs.check_before.Given as goal

abbrev pub invariant-loop-u : goal.invariant-loop-u
invariant-loop-u l = Earliest none l.m (arrival_at l.t l.r) l.v l.u l.best l.from

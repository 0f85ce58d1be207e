-- `table::first_allowed` meets its contract. The loop's invariant: no stretch to v from before u is allowed. Assumes nothing.
use Rattle.table.specs.Working.Table.{FirstIs}
use Rattle.table.proofs.first_allowed.Given as goal

abbrev pub invariant-loop-u : goal.invariant-loop-u
invariant-loop-u l = FirstIs l.t l.v l.u

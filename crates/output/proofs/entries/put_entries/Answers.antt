use native.Mathlib.Omega.{arith}
use Rattle.output.proofs.HeldLines.{entries_none, entries_more, entries_all, entries_room}
use Rattle.output.proofs.entries.put_entries.Goals as goal

pub loop-held-init : goal.loop-held-init
loop-held-init c = entries_none _ _ _

pub put_held-requires : goal.put_held-requires
put_held-requires c = entries_room (omega arith) c.requires c.loop-held.invariant

pub loop-held-preserved : goal.loop-held-preserved
loop-held-preserved c = entries_more (omega arith) c.loop-held.invariant c.put_held.ensures

pub returns : goal.returns
returns c = entries_all (omega arith) c.loop-held.invariant

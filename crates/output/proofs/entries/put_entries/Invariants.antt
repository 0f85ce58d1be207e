-- `output::entries::put_entries` meets its contract. The loop's invariant: the lines of the first entries are put. Assumes nothing.
use Rattle.output.proofs.HeldLines.{PuttingEntries}
use Rattle.output.proofs.entries.put_entries.Given as goal

abbrev pub invariant-loop-held : goal.invariant-loop-held
invariant-loop-held l = PuttingEntries l.initial.text.bytes l.text.bytes l.entries l.initial.text.length l.text.length l.held-index

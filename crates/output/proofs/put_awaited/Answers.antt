-- `output::put_awaited` meets its contract. The line by what is awaited. Assumes nothing.
use native.Mathlib.Omega.{arith}
use Rattle.output.proofs.Lengths.{awaited_no, awaited_yes}
use Rattle.output.proofs.put_awaited.Goals as goal

pub put_words-requires : goal.put_words-requires
put_words-requires c = rw (awaited_no c.args.awaiting (omega arith)) at c.requires

pub put_words-requires-else-awaiting-eq0 : goal.put_words-requires-else-awaiting-eq0
put_words-requires-else-awaiting-eq0 c = rw (awaited_yes c.args.awaiting (λ e. omega arith)) at c.requires

pub returns-then-awaiting-eq0 : goal.returns-then-awaiting-eq0
returns-then-awaiting-eq0 c = rw (awaited_no c.args.awaiting (omega arith)) c.put_words.ensures

pub returns-else-awaiting-eq0 : goal.returns-else-awaiting-eq0
returns-else-awaiting-eq0 c = rw (awaited_yes c.args.awaiting (λ e. omega arith)) c.put_words-else-awaiting-eq0.ensures

-- `output::price_text` meets its contract. The text by the number. Assumes nothing.
use native.Mathlib.Omega.{arith}
use Rattle.output.proofs.Lengths.{price_refused, price_accepted}
use Rattle.output.proofs.price_text.Goals as goal

pub returns-then-answer-ne-ACCEPTED : goal.returns-then-answer-ne-ACCEPTED
returns-then-answer-ne-ACCEPTED c = rw (price_refused c.args.answer (λ e. omega arith)) c.refused_text.ensures

pub returns : goal.returns
returns c = rw (price_accepted c.args.answer (omega arith)) c.numbered_text.ensures

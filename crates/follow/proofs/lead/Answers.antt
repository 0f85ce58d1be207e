-- A refusal has the line of its number, whatever state it hands back.
use Rattle.std.proofs.Common.{arith, refl}
use Rattle.follow.specs.Prints.{Leads}
use Rattle.follow.proofs.Pieces.{text_refused}
use Rattle.follow.proofs.lead.Goals as goal

pub returns-then-answer-ne-ACCEPTED : goal.returns-then-answer-ne-ACCEPTED
unfolding Leads
returns-then-answer-ne-ACCEPTED c = (λ e. omega arith, rw (text_refused c.args.answer (λ e. omega arith)) c.refused_text.ensures)

pub returns : goal.returns
unfolding Leads
returns c = (omega arith, refl)

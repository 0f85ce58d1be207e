-- `logs::check_before` meets its contract: 12 of the first record, then 21. Assumes nothing.
use mathlib.Core.Path.{sym, ◌∙◌}
use Rattle.refusals.specs.Refusals.{first}
use Rattle.logs.specs.Working.Once.{refusal_before}
use Rattle.logs.proofs.check_before.Goals as goal

pub returns-then-bad_first : goal.returns-then-bad_first
unfolding refusal_before first
returns-then-bad_first c = rw (sym c.bad_first.ensures ∙ c.if-bad_first.true)

pub returns-then-broken : goal.returns-then-broken
unfolding refusal_before first
returns-then-broken c = rw (sym c.bad_first.ensures ∙ c.if-bad_first.false, sym c.broken.ensures ∙ c.if-broken.true)

pub returns : goal.returns
unfolding refusal_before first
returns c = rw (sym c.bad_first.ensures ∙ c.if-bad_first.false, sym c.broken.ensures ∙ c.if-broken.false)

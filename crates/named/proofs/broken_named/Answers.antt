-- `named::broken_named` meets its contract. Where 21 accepts the run, its task count is in range. Assumes nothing.
use mathlib.Core.Path.{sym, ◌∙◌}
use Rattle.rules.proofs.Soundness.{run_sound}
use Rattle.named.specs.Named.{broken_named}
use Rattle.named.proofs.broken_named.Goals as goal

pub returns-then-broken : goal.returns-then-broken
unfolding broken_named
returns-then-broken c = rw (sym c.broken.ensures ∙ c.if-broken.true)

pub bad_names-requires : goal.bad_names-requires
bad_names-requires c = (run_sound _ (sym c.broken.ensures ∙ c.if-broken.false)).values.few_tasks

pub returns : goal.returns
unfolding broken_named
returns c = rw (sym c.broken.ensures ∙ c.if-broken.false) c.bad_names.ensures

-- `numerals::with_digit` meets its contract. Assumes nothing.
use mathlib.Core.Path.{◌∙◌}
use Rattle.numerals.proofs.Texts.{word_least}
use Rattle.numerals.proofs.with_digit.Goals as goal

pub returns : goal.returns
returns c = c.saturating_add.ensures ∙ (rw c.saturating_mul.ensures (word_least c.args.n c.args.digit))

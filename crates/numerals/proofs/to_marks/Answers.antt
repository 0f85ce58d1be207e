-- `numerals::to_marks` meets its contract. Where the test passes, the answer is that of the conversion; where it fails, nothing is written. Assumes nothing.
use mathlib.Core.Path.{sym, ◌∙◌}
use Rattle.numerals.proofs.Texts.{none_such, left_as_is}
use Rattle.numerals.proofs.to_marks.Goals as goal

pub convert-requires : goal.convert-requires
convert-requires c = none_such _ (sym c.if-is_digits.true ∙ c.is_digits.ensures)

pub returns : goal.returns
returns c = left_as_is _ (sym c.if-is_digits.false ∙ c.is_digits.ensures)

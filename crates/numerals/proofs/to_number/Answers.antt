-- `numerals::to_number` meets its contract. An empty text and one with another byte are no number. Assumes nothing.
use mathlib.Core.Path.{sym, ◌∙◌}
use Prim.Native.Nat.{◌<◌}
use lib.ListN.{length}
use borrow.Author.Tests.{tests}
use Rattle.std.proofs.Common.{rules}
use Rattle.numerals.proofs.Texts.{none_such, number_is, number_none, empty_none, other_none}
use Rattle.numerals.proofs.to_number.Goals as goal
use Rattle.numerals.proofs.to_number.Goals.{then-is_empty-via-then-is_empty, then-is_empty-via-else-is_empty+then-not-is_digits}

pub returns-then-is_empty : goal.returns-then-is_empty
returns-then-is_empty c =
    elim c.then-is_empty.branch [
      | then-is_empty-via-then-is_empty w ↦ number_none _ (empty_none _ (search (rules, tests, w.if-is_empty.true, c.is_empty.ensures)))
      | then-is_empty-via-else-is_empty+then-not-is_digits w ↦ number_none _ (other_none _ (sym (w.if-not-is_digits.true) ∙ w.is_digits.ensures))
    ]

pub value_of-requires : goal.value_of-requires
value_of-requires c = none_such _ (sym (c.if-not-is_digits.false) ∙ c.is_digits.ensures)

pub returns : goal.returns
returns c =
    let some_byte : 0 < length c.args.text.now = search (rules, tests, c.if-is_empty.false, c.is_empty.ensures) in
    number_is _ _ some_byte (none_such _ (sym c.if-not-is_digits.false ∙ c.is_digits.ensures)) c.value_of.ensures

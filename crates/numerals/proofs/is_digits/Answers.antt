-- `numerals::is_digits` meets its contract: the test of a byte is that of a digit. Assumes nothing.
use borrow.Author.Tests.{tests}
use Rattle.std.proofs.Common.{rules}
use Rattle.std.specs.Int.{IsInRange, IsOutOfRange}
use Rattle.numerals.specs.Digits.{zero_code, nine_code}
use Rattle.std.proofs.lemmas.Iterator.{cases_from_all, YieldsList-from_slice}
use Rattle.numerals.proofs.Texts.{all_digits}
use Rattle.numerals.proofs.is_digits.Goals as goal

pub returns : goal.returns
returns c =
    all_digits _ _ (cases_from_all _ _ _ (IsInRange zero_code nine_code) (IsOutOfRange zero_code nine_code) c.all.ensures.ran (YieldsList-from_slice c.args.text.now cc)
    (λ x q k. search (rules, tests)) (λ x q k. search (rules, tests)))

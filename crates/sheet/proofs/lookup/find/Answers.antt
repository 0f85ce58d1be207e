-- `sheet::lookup::find` meets its contract. The lookup's refusal and the empty stretch, or the section found. Assumes nothing.
use mathlib.Core.Path.{◌∙◌, sym, ap}
use native.Mathlib.Omega.{arith}
use Rattle.refusals.specs.Checks.{told}
use Rattle.refusals.proofs.Checks.{number_positive}
use Rattle.sheet.proofs.Lookups.{found_refused, found_section}
use Rattle.header.specs.Header.{offset, size}
use Rattle.sheet.proofs.lookup.find.Goals as goal

pub returns-in-Err : goal.returns-in-Err
returns-in-Err c =
    let refusal = c.in-Err.refusal in
    found_refused _ _ _ (c.number.ensures ∙ (sym (ap told c.in-Err.is) ∙ c.check_lookup.ensures)) (λ z. absurd (omega (arith, number_positive refusal, c.number.ensures)))

pub returns : goal.returns
returns c =
    let index = c.index_of-i.ensures.is in
    found_section _ _ _ _ (sym (ap told c.in_default.is) ∙ c.check_lookup.ensures)
    (c.offset_of.ensures.is ∙ ap (offset _) index) (c.size_of.ensures.is ∙ ap (size _) index)

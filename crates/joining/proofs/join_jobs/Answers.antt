-- `joining::join_jobs` meets its contract. Two jobs that are not refused have few tasks and a buffer that holds their sheet. Assumes nothing.
use mathlib.Core.Path.{sym, ◌∙◌, ap}
use native.Mathlib.Omega.{arith}
use Rattle.refusals.specs.Checks.{told}
use Rattle.refusals.proofs.Checks.{number_positive}
use native.Mathlib.Nat.{le_trans, le_of_eq}
use lib.Seq.{length-take-le}
use Rattle.joining.specs.Join.{joined_sheet}
use Rattle.joining.proofs.Values.{length_sheet}
use Rattle.joining.proofs.Both.{both_passed, length_taken}
use Rattle.joining.proofs.Answers.{writes_refused, writes_sheet}
use Rattle.joining.proofs.join_jobs.Goals as goal

pub returns-in-Err : goal.returns-in-Err
returns-in-Err c =
    let number = c.number.ensures ∙ (sym (ap told c.in-Err.is) ∙ c.check_both.ensures) in
    rw c.refused.ensures (writes_refused _ _ number (λ z. omega (arith, number_positive c.in-Err.refusal, c.number.ensures)))

pub slice_bounds-put_sheet-end : goal.slice_bounds-put_sheet-end
slice_bounds-put_sheet-end c =
    sym (length-take-le _ _ c.requires.held_first)

pub slice_bounds-put_sheet-end-2 : goal.slice_bounds-put_sheet-end-2
slice_bounds-put_sheet-end-2 c =
    sym (length-take-le _ _ c.requires.held_second)

pub put_sheet-requires : goal.put_sheet-requires
put_sheet-requires c =
    let passed = both_passed _ _ _ (sym c.check_both.ensures ∙ ap told c.in_default.is) in
    let first = length-take-le c.args.a.tasks c.args.a.weights c.requires.held_first in
    let second = length-take-le c.args.b.tasks c.args.b.weights c.requires.held_second in
    record { few = rw (first, second) passed.few; room = rw (first, second) (le_trans (le_of_eq (sym (length_sheet _ _ c.requires))) passed.holds) }

pub returns : goal.returns
unfolding joined_sheet
returns c =
    let put-sheet = c.put_sheet in
    let sheet-length = c.sheet_length in
    writes_sheet _ _ _ (sym (ap told c.in_default.is) ∙ c.check_both.ensures) (length_taken _ _ c.requires sheet-length.ensures) put-sheet.ensures

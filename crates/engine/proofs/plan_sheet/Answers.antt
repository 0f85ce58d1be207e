-- `engine::plan_sheet` meets its contract. Checks 1 to 8 by the branch, then 27, then 11; otherwise the plan of the sheet's job, which those checks make sound.
-- Assumes nothing.
use mathlib.Core.Path.{◌≡◌, sym, ◌∙◌}
use Rattle.std.proofs.Common.{Ok, rules}
use native.Mathlib.Omega.{arith}
use Rattle.refusals.specs.Checks.{told}
use Rattle.refusals.proofs.Checks.{told_positive, answer_refusal}
use Rattle.sheet.proofs.Readings.{read_told, read_accepted, sheet_sound}
use Rattle.answers.proofs.Promises.{checked_answer, short_answer, chain_answer}
use Rattle.engine.proofs.Answers.{printed_sheet, printed_long, printed_clear}
use Rattle.engine.proofs.plan_sheet.Goals as goal

pub returns-in_err-job : goal.returns-in_err-job
returns-in_err-job c =
    let failed = c.from_residual.ensures.0 in
    let same : told c.from_residual.result ≡ told c.read_job.result = search rules in
    let number = same ∙ read_told _ _ c.read_job.ensures in
    let first = number ∙ sym (printed_sheet _ (omega (arith, number, told_positive _ failed))) in
    rw (answer_refusal _ failed first) (checked_answer _ _ _ _ (omega (arith, first, told_positive _ failed)))

pub returns-then-n-gt-PRINTED_LIMIT : goal.returns-then-n-gt-PRINTED_LIMIT
returns-then-n-gt-PRINTED_LIMIT c =
    let given : c.read_job.result ≡ Ok c.in_ok-job.job = search rules in
    let read = read_accepted _ _ given c.read_job.ensures in
    let long = printed_long _ read.0 (rw read.1 at c.if-n-gt-PRINTED_LIMIT.true) in
    rw (← long) (checked_answer _ _ _ _ (omega (arith, long)))

pub returns-then-room-n : goal.returns-then-room-n
returns-then-room-n c =
    let given : c.read_job.result ≡ Ok c.in_ok-job.job = search rules in
    let read = read_accepted _ _ given c.read_job.ensures in
    short_answer _ _ _ _ (printed_clear _ read.0 (rw read.1 at c.if-n-gt-PRINTED_LIMIT.false)) (rw read.1 at c.if-room-n.true)

pub plan_job-requires : goal.plan_job-requires
plan_job-requires c =
    let given : c.read_job.result ≡ Ok c.in_ok-job.job = search rules in
    let read = read_accepted _ _ given c.read_job.ensures in
    record { sound = rw read.1 (sheet_sound _ read.0); room = c.if-room-n.false }

pub returns : goal.returns
returns c =
    let given : c.read_job.result ≡ Ok c.in_ok-job.job = search rules in
    let read = read_accepted _ _ given c.read_job.ensures in
    let passed = printed_clear _ read.0 (rw read.1 at c.if-n-gt-PRINTED_LIMIT.false) in
    chain_answer _ _ _ _ _ _ passed (rw read.1 at c.if-room-n.false) (rw read.1 at c.plan_job.ensures)

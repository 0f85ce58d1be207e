-- `planning::plan_sheet` meets its contract. Checks 1 to 8 by the branch, then 11; otherwise the plan of the sheet's job, which those checks make sound, by the
-- powers 1 and 1. Assumes nothing.
use mathlib.Core.Path.{◌≡◌, sym, ◌∙◌}
use Rattle.std.proofs.Common.{Ok, rules}
use native.Mathlib.Omega.{arith}
use Rattle.chain.proofs.Same.{same_allowed}
use Rattle.refusals.specs.Checks.{told}
use Rattle.refusals.proofs.Checks.{told_positive, answer_refusal}
use Rattle.sheet.proofs.Readings.{read_told, read_accepted, sheet_sound}
use Rattle.costs.proofs.Ranges.{plain_products}
use Rattle.costs.proofs.Stretches.{plain_same}
use Rattle.answers.proofs.Promises.{plans_same, checked_answer, short_answer, chain_answer}
use Rattle.planning.proofs.plan_sheet.Goals as goal

pub returns-in_err-job : goal.returns-in_err-job
returns-in_err-job c =
    let failed = c.from_residual.ensures.0 in
    let same : told c.from_residual.result ≡ told c.read_job.result = search rules in
    let number = same ∙ read_told _ _ c.read_job.ensures in
    rw (answer_refusal _ failed number) (checked_answer _ _ _ _ (omega (arith, number, told_positive _ failed)))

pub returns-then-buffer-job : goal.returns-then-buffer-job
returns-then-buffer-job c =
    let if2 = c.if-buffer-job in
    let given : c.read_job.result ≡ Ok c.in_ok-job.job = search rules in
    let read = read_accepted _ _ given c.read_job.ensures in
    short_answer _ _ _ _ read.0 (rw read.1 at if2.true)

pub plan_job-requires : goal.plan_job-requires
plan_job-requires c =
    let if2 = c.if-buffer-job in
    let plain = c.plain in
    let given : c.read_job.result ≡ Ok c.in_ok-job.job = search rules in
    let read = read_accepted _ _ given c.read_job.ensures in
    let sound = sheet_sound _ read.0 in
    record { ready = record { sound = rw read.1 sound; room = if2.false }; products = rw (plain.ensures, read.1) (plain_products _ sound) }

pub returns : goal.returns
returns c =
    let if2 = c.if-buffer-job in
    let plain = c.plain in
    let plan-job = c.plan_job in
    let given : c.read_job.result ≡ Ok c.in_ok-job.job = search rules in
    let read = read_accepted _ _ given c.read_job.ensures in
    chain_answer _ _ _ _ _ _ read.0 (rw read.1 at if2.false)
    (plans_same _ _ _ (same_allowed _ _ _ (plain_same _ _)) (sheet_sound _ read.0).some_task _ _ _ (rw (plain.ensures, read.1) at plan-job.ensures))

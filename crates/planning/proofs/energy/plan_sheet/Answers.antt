-- `planning::energy::plan_sheet` meets its contract. Checks 1 to 8 by the branch, then 29, then 11; otherwise the plan by energy of the sheet's job, which those
-- checks make sound. Assumes nothing.
use mathlib.Core.Path.{◌≡◌, sym, ◌∙◌}
use Rattle.std.proofs.Common.{Ok, rules}
use native.Mathlib.Omega.{arith}
use borrow.Author.Tests.{ltb-true, ltb-false}
use Rattle.refusals.specs.Checks.{told}
use Rattle.refusals.proofs.Checks.{told_positive, answer_refusal}
use Rattle.sheet.proofs.Readings.{read_told, read_accepted, sheet_sound}
use Rattle.planning.proofs.EnergyRefusals.{energy_sheet, energy_bad, energy_clear}
use Rattle.powers.proofs.Powers.{powers_fit}
use Rattle.answers.proofs.Promises.{checked_answer, short_answer, chain_answer}
use Rattle.planning.proofs.energy.plan_sheet.Goals as goal

pub returns-in_err-job : goal.returns-in_err-job
returns-in_err-job c =
    let failed = c.from_residual.ensures.0 in
    let same : told c.from_residual.result ≡ told c.read_job.result = search rules in
    let number = same ∙ read_told _ _ c.read_job.ensures in
    let first = number ∙ sym (energy_sheet _ _ (omega (arith, number, told_positive _ failed))) in
    rw (answer_refusal _ failed first) (checked_answer _ _ _ _ (omega (arith, first, told_positive _ failed)))

pub bad_powers-bad-requires : goal.bad_powers-bad-requires
bad_powers-bad-requires c =
    let given : c.read_job.result ≡ Ok c.in_ok-job.job = search rules in
    let read = read_accepted _ _ given c.read_job.ensures in
    rw read.1 (sheet_sound _ read.0).few_tasks

pub returns-then-bad : goal.returns-then-bad
returns-then-bad c =
    let given : c.read_job.result ≡ Ok c.in_ok-job.job = search rules in
    let read = read_accepted _ _ given c.read_job.ensures in
    let bad-powers = c.bad_powers-bad in
    let bad = energy_bad _ _ read.0 (rw read.1 at (sym bad-powers.ensures ∙ c.if-bad.true)) in
    rw (← bad) (checked_answer _ _ _ _ (omega (arith, bad)))

pub returns-then-short : goal.returns-then-short
returns-then-short c =
    let given : c.read_job.result ≡ Ok c.in_ok-job.job = search rules in
    let read = read_accepted _ _ given c.read_job.ensures in
    let bad-powers = c.bad_powers-bad in
    let passed = energy_clear _ _ read.0 (rw read.1 at (sym bad-powers.ensures ∙ c.if-bad.false)) in
    short_answer _ _ _ _ passed (rw read.1 at c.if-short.true)

pub plan_job-requires : goal.plan_job-requires
plan_job-requires c =
    let given : c.read_job.result ≡ Ok c.in_ok-job.job = search rules in
    let read = read_accepted _ _ given c.read_job.ensures in
    let bad-powers = c.bad_powers-bad in
    record {
      ready = record { sound = rw read.1 (sheet_sound _ read.0); room = c.if-short.false };
      products = ((powers_fit _ _).0 (sym bad-powers.ensures ∙ c.if-bad.false)).products;
    }

pub returns : goal.returns
returns c =
    let given : c.read_job.result ≡ Ok c.in_ok-job.job = search rules in
    let read = read_accepted _ _ given c.read_job.ensures in
    let bad-powers = c.bad_powers-bad in
    let passed = energy_clear _ _ read.0 (rw read.1 at (sym bad-powers.ensures ∙ c.if-bad.false)) in
    chain_answer _ _ _ _ _ _ passed (rw read.1 at c.if-short.false) (rw read.1 at c.plan_job.ensures)

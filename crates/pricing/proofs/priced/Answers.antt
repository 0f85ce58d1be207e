-- `pricing::priced` meets its contract. The sheet's refusal decides, then that of the marks, then the time limit; otherwise the time is D(n). Assumes nothing.
use mathlib.Core.Path.{◌≡◌, sym, ◌∙◌, ap}
use native.Mathlib.Omega.{arith}
use Rattle.std.proofs.Common.{Ok, rules}
use Rattle.refusals.specs.Checks.{told}
use Rattle.refusals.proofs.Answers.{answered_refused, answered_accepted}
use Rattle.refusals.proofs.Checks.{told_positive, answer_refused}
use Rattle.sheet.proofs.Readings.{read_told, read_accepted, sheet_sound}
use Rattle.pricing.specs.Price.{price_of}
use Rattle.pricing.proofs.Prices.{slow_decides, slow_passes, price_sheet, price_marks, price_time, cut_slow, cut_below, cut_same}
use Rattle.pricing.proofs.priced.Goals as goal

pub returns-in_err-job : goal.returns-in_err-job
unfolding price_of
returns-in_err-job c =
    let failed = c.from_residual.ensures.0 in
    let same : told c.from_residual.result ≡ told c.read_job.result = search rules in
    let number = same ∙ read_told _ _ c.read_job.ensures in
    answer_refused _ _ failed (number ∙ price_sheet _ _ (omega (arith, number, told_positive _ failed)))

pub check_marks-requires : goal.check_marks-requires
check_marks-requires c =
    let given : c.read_job.result ≡ Ok c.in_ok-job.job = search rules in
    let read = read_accepted _ _ given c.read_job.ensures in
    rw read.1 (sheet_sound _ read.0)

pub returns-in_err-check_marks : goal.returns-in_err-check_marks
unfolding price_of
returns-in_err-check_marks c =
    let given : c.read_job.result ≡ Ok c.in_ok-job.job = search rules in
    let read = read_accepted _ _ given c.read_job.ensures in
    let failed = c.from_residual-in_err-check_marks.ensures.0 in
    let same : told c.from_residual-in_err-check_marks.result ≡ told c.check_marks.result = search rules in
    let number = same ∙ rw read.1 at c.check_marks.ensures in
    answer_refused _ _ failed (number ∙ price_marks _ _ read.0 (omega (arith, number, told_positive _ failed)))

pub setting_time-time-requires : goal.setting_time-time-requires
setting_time-time-requires c =
    let given : c.read_job.result ≡ Ok c.in_ok-job.job = search rules in
    let read = read_accepted _ _ given c.read_job.ensures in
    let passed : c.check_marks.result ≡ Ok tt = search rules in
    record { sound = rw read.1 (sheet_sound _ read.0); marks = sym c.check_marks.ensures ∙ ap told passed }

pub returns-then-time-ge-NONE : goal.returns-then-time-ge-NONE
unfolding price_of
returns-then-time-ge-NONE c =
    let given : c.read_job.result ≡ Ok c.in_ok-job.job = search rules in
    let read = read_accepted _ _ given c.read_job.ensures in
    let passed : c.check_marks.result ≡ Ok tt = search rules in
    let marks = sym (rw read.1 at c.check_marks.ensures) ∙ ap told passed in
    let time = rw read.1 at c.setting_time-time.ensures in
    answered_refused _ (slow_decides _ (cut_slow time (omega (arith, c.if-time-ge-NONE.true))) ∙ price_time _ _ read.0 marks) (omega arith)

pub returns : goal.returns
unfolding price_of
returns c =
    let given : c.read_job.result ≡ Ok c.in_ok-job.job = search rules in
    let read = read_accepted _ _ given c.read_job.ensures in
    let passed : c.check_marks.result ≡ Ok tt = search rules in
    let marks = sym (rw read.1 at c.check_marks.ensures) ∙ ap told passed in
    let time = rw read.1 at c.setting_time-time.ensures in
    answered_accepted _ (slow_passes _ (cut_below time c.if-time-ge-NONE.false) ∙ price_time _ _ read.0 marks) (cut_same time c.if-time-ge-NONE.false)

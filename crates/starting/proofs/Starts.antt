-- A start by its answers: the sheet's checks decide before those of the marks, and an accepted start has a mark for each task. Assumes nothing.
use Prim.Native.Nat.{ℕ, ◌<◌}
use mathlib.Core.Path.{◌≡◌, refl}
use mathlib.Core.Bool.{false≢true}
use mathlib.Core.List.{List}
use native.Mathlib.Omega.{arith}
use Rattle.std.specs.Result.{IsErr}
use Rattle.std.proofs.Common.{Result, Ok, Err}
use Rattle.refusals.specs.Checks.{told}
use Rattle.refusals.specs.declared.Refusal.{Refusal}
use borrow.Author.Tests.{ne_eqb}
use lib.ListN.{length}
use Rattle.refusals.specs.Numbers
use Rattle.refusals.specs.Refusals.{first}
use Rattle.refusals.proofs.Refusals.{first_stands, first_goes_on}
use Rattle.sheet.specs.Reading.{sheet_conditions, sheet_refusal, job_of}
use Rattle.sheet.proofs.Readings.{sheet_numbered}
use Rattle.marks.specs.Marks.{marks_conditions}
use Rattle.marks.proofs.Stretches.{marks_length, marks_passed}
use Rattle.starting.specs.Start.{refused_start, start_refusal, start_of, started}
use Rattle.state.specs.State.{fresh}
use Rattle.state.specs.declared.Run.{Run}

-- a start that is refused
pub started_refused : (r : Result Run Refusal) {code : ℕ} → IsErr r → told r ≡ code → started r ≡ refused_start code
started_refused (Ok run) failed e = absurd (false≢true failed)
started_refused (Err refusal) failed e = rw e refl

-- the sheet's refusal stands
pub start_by_sheet : (s marks : List ℕ) → 0 < sheet_refusal s → refused_start (sheet_refusal s) ≡ start_of s marks
unfolding start_of start_refusal sheet_refusal
start_by_sheet s marks h =
    let stands = first_stands (sheet_conditions s) (marks_conditions (job_of s) marks) h in
    rw (stands, ne_eqb (first (sheet_conditions s)) 0 (λ z. omega (arith, h))) refl

module _ (s marks : List ℕ) (clear : sheet_refusal s ≡ 0) where
  -- where it has none, the marks decide
  pub start_by_marks : start_refusal s marks ≡ first (marks_conditions (job_of s) marks)
  unfolding start_refusal sheet_refusal
  start_by_marks = first_goes_on (sheet_conditions s) (marks_conditions (job_of s) marks) (sheet_numbered s) clear

  pub start_refused : (number : ℕ) → number ≡ first (marks_conditions (job_of s) marks) → (number ≡ 0 → ⊥) → refused_start number ≡ start_of s marks
  unfolding start_of
  start_refused number e h = rw (start_by_marks, ← e, ne_eqb _ _ h)

  module _ (right : first (marks_conditions (job_of s) marks) ≡ 0) where
    pub start_accepted : record { number = Numbers.accepted; run = fresh (job_of s) marks } ≡ start_of s marks
    unfolding start_of
    start_accepted = rw (start_by_marks, right)

    -- the marks of an accepted start are as many as its tasks
    pub start_length : length marks ≡ (job_of s).tasks
    start_length = marks_length (job_of s).tasks marks (marks_passed (job_of s) marks right).marks

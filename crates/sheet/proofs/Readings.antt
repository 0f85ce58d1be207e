-- Reading a sheet: how its refusal comes from the checks, and what an accepted sheet gives. Assumes nothing.
use Prim.Native.Nat.{ℕ, ◌<◌}
use mathlib.Core.Path.{◌≡◌, refl, sym, ◌∙◌}
use mathlib.Core.List.{List}
use mathlib.Core.Bool.{false≢true}
use borrow.Author.Tests.{eq-eqb}
use Rattle.std.specs.Result.{IsErr}
use Rattle.std.proofs.Common.{Result, Ok, Err}
use Rattle.refusals.specs.Refusals.{first, has, distinct, Numbered}
use Rattle.refusals.proofs.Refusals.{first_stands, first_goes_on, first_none}
use Rattle.refusals.specs.Checks.{told}
use Rattle.refusals.specs.declared.Refusal.{Refusal}
use Rattle.refusals.proofs.Checks.{tells_told}
use Rattle.job.specs.Checks.{job_conditions}
use Rattle.job.specs.Working.Sound.{Sound}
use Rattle.job.specs.declared.Job.{Job}
use Rattle.job.proofs.Ranges.{job_sound}
use Rattle.layout.specs.Layout.{layout_conditions}
use Rattle.sheet.specs.Reading.{job_of, sheet_conditions, sheet_refusal, reading_of, Reads}
use Rattle.layout.proofs.Sections.{layout_numbered, layout_count}

pub sheet_numbered : (s : List ℕ) → Numbered (sheet_conditions s)
unfolding has distinct
sheet_numbered s = refl

module _ (s : List ℕ) where
  pub sheet_refused : 0 < first (layout_conditions s) → first (layout_conditions s) ≡ sheet_refusal s
  unfolding sheet_refusal
  sheet_refused p = sym (first_stands (layout_conditions s) _ p)

  pub sheet_goes_on : first (layout_conditions s) ≡ 0 → first (job_conditions (job_of s)) ≡ sheet_refusal s
  unfolding sheet_refusal
  sheet_goes_on e = sym (first_goes_on (layout_conditions s) _ (layout_numbered s) e)

  pub sheet_layout : sheet_refusal s ≡ 0 → first (layout_conditions s) ≡ 0
  unfolding sheet_refusal
  sheet_layout e = first_none (layout_conditions s) _ e

  -- the values of an accepted sheet are in range
  pub sheet_sound : sheet_refusal s ≡ 0 → Sound (job_of s)
  unfolding job_of
  sheet_sound e =
      let clear = sheet_layout e in
      job_sound (job_of s) (layout_count s clear) (sheet_goes_on clear ∙ e)

  -- the two answers of a reading
  pub reading_refused : (r : Result Job Refusal) → IsErr r → told r ≡ sheet_refusal s → Reads s r
  unfolding reading_of
  reading_refused (Ok job) failed e = absurd (false≢true failed)
  reading_refused (Err refusal) failed e = sym e

  pub reading_accepted : (job : Job) → 0 ≡ sheet_refusal s → job ≡ job_of s → Reads s (Ok job)
  unfolding reading_of
  reading_accepted job e h = (sym e, rw (← e, h) refl)

  pub reading_given : (job : Job) → 0 ≡ sheet_refusal s → job ≡ job_of s → record { number = 0; job = job } ≡ reading_of s
  unfolding reading_of
  reading_given job e h = rw (← e, h)

  -- and what each says of the sheet
  pub reading_number : (reading_of s).number ≡ sheet_refusal s
  unfolding reading_of
  reading_number = refl

  pub reading_job : sheet_refusal s ≡ 0 → (reading_of s).job ≡ job_of s
  unfolding reading_of
  reading_job e = rw (eq-eqb (sheet_refusal s) 0 e)

  -- what reading tells: a refusal's number, and the values of an accepted sheet
  pub read_told : (r : Result Job Refusal) → Reads s r → told r ≡ sheet_refusal s
  read_told r reads = tells_told r _ _ reads ∙ reading_number

  pub read_accepted : {job : Job} (r : Result Job Refusal) → r ≡ Ok job → Reads s r → (sheet_refusal s ≡ 0) × (job ≡ job_of s)
  read_accepted r e reads =
      let said = rw e at reads in
      let accepted = sym reading_number ∙ said.0 in
      (accepted, said.1 ∙ reading_job accepted)

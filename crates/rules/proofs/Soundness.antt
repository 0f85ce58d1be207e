-- What 21 leaves of a state: its values pass 3 and 7 to 10, and its place keeps the rules. Each test that fails is read back as its fact.
-- Assumes nothing.
use Rattle.std.specs.Prelude.{Result, Ok, Err}
use Rattle.std.specs.Result.{is_err}
use Rattle.refusals.specs.Checks.{number, told}
use Rattle.refusals.specs.declared.Refusal.{Refusal}
use Rattle.refusals.proofs.Checks.{number_positive}
use Prim.Native.Nat.{ℕ, zero, suc, ◌≤◌}
use mathlib.Core.Path.{◌≡◌, refl}
use mathlib.Core.Bool.{false, not}
use mathlib.Core.List.{List}
use borrow.Author.Tests.{ltb-false, eqb-true, not-false, le-ltb, eq-eqb, ne_eqb}
use native.Mathlib.Omega.{arith}
use lib.Dec.{ltb, eqb}
use lib.Seq.{get_or-take}
use Rattle.units.specs.Limits.{task_limit}
use Rattle.lists.proofs.Lists.{or_fails}
use Rattle.refusals.specs.Refusals.{first, has, distinct, Numbered}
use Rattle.refusals.proofs.Refusals.{first_clear}
use Rattle.chain.specs.Time.{Marks, disk}
use Rattle.job.specs.Job.{total}
use Rattle.job.specs.Checks.{bad_count, bad_value, bad_task, job_conditions}
use Rattle.job.specs.Working.Sound.{Sound}
use Rattle.job.specs.declared.Job.{Job}
use Rattle.job.proofs.Ranges.{job_sound}
use Rattle.marks.specs.Marks.{bad_marks, bad_stretches}
use Rattle.marks.proofs.Stretches.{marks_range}
use Rattle.rules.specs.Rules.{total_limit, total_of, marks_in, marks_read, value_conditions, broken_values, bad_awaiting, over_total, broken_place, broken}
use Rattle.rules.specs.Working.Sound.{SoundRun}
use Rattle.state.specs.declared.Place.{Place}
use Rattle.state.specs.declared.Run.{Run}

-- whether a check refuses, by what it tells
pub refused_told : {A : Type 0} (r : Result A Refusal) → is_err r ≡ not (eqb (told r) 0)
refused_told (Ok a) = refl
refused_told (Err refusal) = rw (ne_eqb (number refusal) 0 (λ e. omega (arith, number_positive refusal))) refl

pub job_numbered : (job : Job) → Numbered (job_conditions job)
unfolding has distinct
job_numbered job = refl

values_numbered : (job : Job) (marks : List ℕ) → Numbered (value_conditions job marks)
unfolding has distinct
values_numbered job marks = refl

-- what passing 3 and 7 to 10 means
pub record ValuesPassed (job : Job) (marks : List ℕ) : Type 0 where
  pub count : bad_count job.tasks ≡ false
  pub value : bad_value job ≡ false
  pub task : bad_task job ≡ false
  pub marks_right : bad_marks job.tasks marks ≡ false
  pub stretches : bad_stretches job marks ≡ false

module _ (job : Job) (marks : List ℕ) (right : broken_values job marks ≡ false) where
  passed : ValuesPassed job marks
  unfolding broken_values
  passed =
      let none = eqb-true _ 0 (not-false (eqb (first (value_conditions job marks)) 0) right) in
      let clear = first_clear (value_conditions job marks) (values_numbered job marks) none in
      record { count = clear 0; value = clear 1; task = clear 2; marks_right = clear 3; stretches = clear 4 }

  pub values_sound : Sound job
  unfolding first
  values_sound = job_sound job passed.count (rw (passed.value, passed.task))

-- what passing 21's rules for position, awaited verification and sums means
pub record PlacePassed (job : Job) (f : Marks) (place : Place) : Type 0 where
  pub position : place.position ≤ job.tasks
  pub awaiting : bad_awaiting f place ≡ false
  pub kept : place.sums.kept ≡ total job.weights place.position
  pub sums : total_of place.sums ≤ total_limit

pub place_passed : (job : Job) (f : Marks) (place : Place) → broken_place job f place ≡ false → PlacePassed job f place
unfolding broken_place over_total
place_passed job f place right =
    let weight = total job.weights place.position in
    let after-position = or_fails (ltb job.tasks place.position) _ right in
    let after-awaiting = or_fails (bad_awaiting f place) _ after-position.1 in
    let after_kept = or_fails (not (eqb place.sums.kept weight)) _ after-awaiting.1 in
    record {
      position = ltb-false job.tasks place.position after-position.0;
      awaiting = after-awaiting.0;
      kept = eqb-true _ _ (not-false (eqb place.sums.kept weight) after_kept.0);
      sums = ltb-false total_limit (total_of place.sums) after_kept.1;
    }

-- and a place that keeps the rules passes
pub place_unbroken : (job : Job) (f : Marks) (place : Place) → PlacePassed job f place → broken_place job f place ≡ false
unfolding broken_place over_total
place_unbroken job f place keeps = rw (le-ltb _ _ keeps.position, keeps.awaiting, eq-eqb _ _ keeps.kept) (le-ltb _ _ keeps.sums)

pub unbroken : (run : Run) → broken_values run.job (marks_read run) ≡ false → PlacePassed run.job (marks_in run) run.place → broken run ≡ false
unfolding broken
unbroken run values keeps = rw values (place_unbroken run.job (marks_in run) run.place keeps)

-- its position is one of a task count that passed check 3
pub position_range : {run : Run} → SoundRun run → run.place.position ≤ task_limit
position_range sound = omega (arith, sound.position, sound.values.few_tasks)

-- a state that 21 accepts
module _ (run : Run) (right : broken run ≡ false) where
  pub run_values : broken_values run.job (marks_read run) ≡ false
  unfolding broken
  run_values = (or_fails _ _ right).0

  pub run_place : PlacePassed run.job (marks_in run) run.place
  unfolding broken
  run_place = place_passed run.job (marks_in run) run.place (or_fails (broken_values run.job (marks_read run)) _ right).1

  pub run_sound : SoundRun run
  run_sound =
      record {
        values = values_sound run.job _ run_values;
        position = run_place.position;
        kept = run_place.kept;
        sums = run_place.sums;
      }

  -- no mark up to position n is above 3
  pub run_marks : (p : ℕ) → p ≤ run.job.tasks → marks_in run p ≤ disk
  run_marks zero h = omega arith
  run_marks (suc j) h =
      rw (← (get_or-take run.job.tasks run.marks j 0 h))
      (marks_range run.job.tasks (marks_read run) (passed run.job (marks_read run) run_values).marks_right j h)

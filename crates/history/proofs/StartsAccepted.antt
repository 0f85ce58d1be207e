-- What an accepted start says: each refusal is passed, and 21 accepts its fresh run. Assumes nothing.
use mathlib.Core.Path.{◌≡◌, refl, sym, ◌∙◌}
use mathlib.Core.Bool.{Bool, true, false, cond}
use mathlib.Core.List.{List}
use Prim.Native.Nat.{ℕ, ◌≤◌}
use borrow.Author.Tests.{eq-eqb}
use lib.Dec.{ltb, lit≤}
use lib.ListN.{length}
use Rattle.lists.proofs.Lists.{tabulate_same, get_d_tabulate}
use Rattle.units.specs.Limits.{task_limit}
use Rattle.refusals.specs.Refusals.{first}
use Rattle.refusals.proofs.Refusals.{first_none, first_goes_on, refused_later}
use Rattle.header.specs.Header.{tasks, section}
use Rattle.kinds.specs.Kinds.{weights_kind, index_of}
use Rattle.sheet.specs.Reading.{section_field, weights_of, sheet_conditions, sheet_refusal, job_of}
use Rattle.sheet.proofs.Readings.{sheet_sound, sheet_layout, sheet_goes_on}
use Rattle.marks.specs.Marks.{marks_conditions}
use Rattle.rules.specs.Rules.{broken, total_of, marks_in, marks_read, broken_values, bad_awaiting}
use Rattle.state.specs.State.{cleared, fresh}
use Rattle.starting.specs.Start.{start_refusal, start_of}
use Rattle.starting.proofs.Starts.{start_by_marks, start_length}
use native.Mathlib.Omega.{arith}
use Rattle.refusals.specs.Numbers
use Rattle.job.specs.Job.{total}
use Rattle.job.specs.Checks.{job_conditions}
use Rattle.layout.proofs.Sections.{layout_count}
use Rattle.state.proofs.EntriesTaken.{cleared_taken}
use Rattle.rules.proofs.Soundness.{job_numbered, PlacePassed, unbroken}

-- the weights that a sheet gives are 0 past task n already
own_weights : (part : List ℕ) (n : ℕ) → cleared n (weights_of part n) ≡ weights_of part n
unfolding cleared weights_of
own_weights part n =
    tabulate_same task_limit _ _ (λ j h. rw (get_d_tabulate task_limit (λ i. cond (ltb i n) (section_field part i) 0) j h) (twice (ltb j n) (section_field part j)))
  where
    twice : (b : Bool) (x : ℕ) → cond b (cond b x 0) 0 ≡ cond b x 0
    twice true x = refl
    twice false x = refl

-- what passing 1 to 10 means
pub record Begun (sheet marks : List ℕ) : Type 0 where
  pub sheet_clear : sheet_refusal sheet ≡ 0
  pub marks_clear : first (marks_conditions (job_of sheet) marks) ≡ 0
  pub run : (start_of sheet marks).run ≡ fresh (job_of sheet) marks
  pub job : (fresh (job_of sheet) marks).job ≡ job_of sheet
  pub long : length marks ≡ (job_of sheet).tasks
  pub few : (job_of sheet).tasks ≤ task_limit

pub start_begun : (sheet marks : List ℕ) → (start_of sheet marks).number ≡ 0 → Begun sheet marks
unfolding start_of start_refusal sheet_refusal fresh job_of
start_begun sheet marks e =
    let clear = first_none (sheet_conditions sheet) _ e in
    let right = sym (start_by_marks sheet marks clear) ∙ e in
    record {
      sheet_clear = clear;
      marks_clear = right;
      run = rw (eq-eqb _ _ e);
      job = rw (own_weights (section sheet (index_of sheet weights_kind)) (tasks sheet));
      long = start_length sheet marks clear right;
      few = (sheet_sound sheet clear).few_tasks;
    }

-- a start that is accepted
module _ (sheet marks : List ℕ) (e : (start_of sheet marks).number ≡ 0) where
  begun : Begun sheet marks
  begun = start_begun sheet marks e

  start_values : broken_values (fresh (job_of sheet) marks).job (marks_read (fresh (job_of sheet) marks)) ≡ false
  unfolding broken_values job_of fresh
  start_values =
      let layout = sheet_layout sheet begun.sheet_clear in
      let clear = first_goes_on (job_conditions (job_of sheet)) _ (job_numbered (job_of sheet)) (sheet_goes_on sheet layout ∙ begun.sheet_clear) ∙ begun.marks_clear in
      rw (
        begun.job,
        cleared_taken (job_of sheet).tasks marks begun.long begun.few,
        ← (refused_later Numbers.bad_count _ refl (layout_count sheet layout) (sym clear)),
      )

  start_place : PlacePassed (fresh (job_of sheet) marks).job (marks_in (fresh (job_of sheet) marks)) (fresh (job_of sheet) marks).place
  unfolding bad_awaiting total total_of fresh
  start_place = record { position = omega arith; awaiting = refl; kept = refl; sums = lit≤ tt }

  -- what a start accepts, 21 accepts
  pub start_is_sound : broken (start_of sheet marks).run ≡ false
  start_is_sound = rw begun.run (unbroken (fresh (job_of sheet) marks) start_values start_place)

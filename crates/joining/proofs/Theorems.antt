-- What a caller may conclude of a join: the number decides; of an accepted one, the bytes written are a sheet, and reading it gives just the values of both.
-- Assumes nothing.
use Prim.Native.Nat.{ℕ, ◌+◌, ◌≤◌, ◌<◌}
use mathlib.Core.Path.{◌≡◌, refl, sym, ◌∙◌, ap}
use mathlib.Core.Bool.{false}
use mathlib.Core.List.{List}
use native.Mathlib.Decide.{ℕ_discrete}
use native.Mathlib.Omega.{arith}
use borrow.Author.Tests.{le-ltb, ne_eqb, eq-eqb}
use lib.ListN.{length, take, drop, length-append, length-drop}
use lib.Seq.{take-append_seam}
use Rattle.refusals.specs.Numbers
use Rattle.refusals.specs.Refusals.{Decides}
use Rattle.refusals.proofs.Refusals.{first_goes_on, first_none, first_decides}
use Rattle.units.specs.Limits.{task_limit}
use Rattle.job.specs.Checks.{bad_count}
use Rattle.job.proofs.Ranges.{values_passed}
use Rattle.sheet.specs.Reading.{job_of, sheet_conditions, sheet_refusal, reading_of}
use Rattle.sheet.proofs.Readings.{sheet_numbered, sheet_layout, sheet_goes_on, sheet_sound}
use Rattle.writing.proofs.Forms.{form_reads, no_stray, platform_at, weights_at}
use Rattle.joining.specs.Join.{JoinRefused, JoinReads, joined_weights, joined_sheet, joined_job, join_conditions, join_refusal, Joins}
use Rattle.joining.specs.declared.Joined.{Joined}
use Rattle.joining.proofs.Parts.{both_accepted}
use Rattle.joining.proofs.Both.{BothPassed, both_passed}
use Rattle.joining.proofs.Values.{same_platform_lem, joined_length, length_sheet, Joinable, whole_passes}

-- what passing every check of a join means
pub record JoinPassed (s t : List ℕ) (room : ℕ) : Type 0 where
  pub first_read : sheet_refusal s ≡ 0
  pub second_read : sheet_refusal t ≡ 0
  pub both : BothPassed (job_of s) (job_of t) room

module _ (s t : List ℕ) (room : ℕ) where
  pub join_passed : join_refusal s t room ≡ 0 → JoinPassed s t room
  unfolding join_refusal sheet_refusal
  join_passed e =
      let of_first = first_none (sheet_conditions s) _ e in
      let rest = sym (first_goes_on (sheet_conditions s) _ (sheet_numbered s) of_first) ∙ e in
      let of_second = first_none (sheet_conditions t) _ rest in
      let both = sym (first_goes_on (sheet_conditions t) _ (sheet_numbered t) of_second) ∙ rest in
      record { first_read = of_first; second_read = of_second; both = both_passed (job_of s) (job_of t) room both }

  module _ (passed : JoinPassed s t room) where
    joinable : Joinable (job_of s) (job_of t)
    joinable =
        record {
          both = both_accepted s t passed.first_read passed.second_read;
          passed_first = values_passed (job_of s) (sheet_goes_on s (sheet_layout s passed.first_read) ∙ passed.first_read);
          passed_second = values_passed (job_of t) (sheet_goes_on t (sheet_layout t passed.second_read) ∙ passed.second_read);
          one_platform = same_platform_lem _ _ passed.both.one_platform;
          few_tasks = passed.both.few;
          sum = passed.both.light;
        }

    -- the joined list of weights has as many as the tasks of both
    length_joined : length (joined_weights (job_of s) (job_of t)) ≡ (job_of s).tasks + (job_of t).tasks
    length_joined = joined_length (job_of s) (job_of t) joinable.both.held_first joinable.both.held_second

    counted : bad_count (length (joined_weights (job_of s) (job_of t))) ≡ false
    unfolding bad_count
    counted =
        rw (
          length_joined,
          ne_eqb ((job_of s).tasks + (job_of t).tasks) 0 (λ z. omega (arith, (sheet_sound s passed.first_read).some_task)),
          le-ltb task_limit ((job_of s).tasks + (job_of t).tasks) joinable.few_tasks,
        ) refl

    sheet_reads : reading_of (joined_sheet (job_of s) (job_of t)) ≡ record { number = Numbers.accepted; job = joined_job (job_of s) (job_of t) }
    unfolding joined_sheet joined_job
    sheet_reads =
        form_reads (job_of s).platform (joined_weights (job_of s) (job_of t)) counted (whole_passes (job_of s) (job_of t) joinable)
        ∙ rw length_joined refl

module _ (s t before after : List ℕ) (r : Joined) (joins : Joins s t before after r) where
  -- a number that is given is that of the first condition that holds, and it is given under no other
  pub join_decides : 0 < r.number → Decides (join_conditions s t (length before)) r.number
  unfolding join_refusal
  join_decides h = first_decides r.number (join_conditions s t (length before)) h (sym joins.number)

  -- with it come length 0 and a buffer as it was
  pub join_refuses : 0 < r.number → JoinRefused r.number before after r
  join_refuses h =
      let other = ne_eqb (join_refusal s t (length before)) 0 (λ e. omega (arith, joins.number)) in
      record { numbered = refl; no_length = rw (joins.size, other) refl; untouched = rw (joins.buffer, other) refl }

  -- the buffer keeps its length, and the length that is given never passes it
  refused_or_not : Dec (join_refusal s t (length before) ≡ 0)
  refused_or_not = ℕ_discrete (join_refusal s t (length before)) 0

  pub join_length : r.length ≤ length before
  join_length = go refused_or_not
    where
      go : Dec (join_refusal s t (length before) ≡ 0) → r.length ≤ length before
      go (yes e) = rw (joins.size, eq-eqb _ _ e) (join_passed s t (length before) e).both.holds
      go (no h) = rw (joins.size, ne_eqb _ _ h) (omega arith)

  pub join_keeps_length : length after ≡ length before
  join_keeps_length = go refused_or_not
    where
      sheet : List ℕ
      sheet = joined_sheet (job_of s) (job_of t)

      go : Dec (join_refusal s t (length before) ≡ 0) → length after ≡ length before
      go (yes e) =
          rw (joins.buffer, eq-eqb _ _ e)
          (omega (
            arith,
            length-append sheet (drop (length sheet) before),
            length-drop (length sheet) before,
            (join_passed s t (length before) e).both.holds,
          ))
      go (no h) = rw (joins.buffer, ne_eqb _ _ h) refl

module _ (s t before after : List ℕ) (r : Joined) (joins : Joins s t before after r) (accepted : r.number ≡ Numbers.accepted) where
  not_refused : join_refusal s t (length before) ≡ 0
  not_refused = sym joins.number ∙ accepted

  -- the first bytes of the buffer, as many as the answer says, are the joined sheet
  written : take r.length after ≡ joined_sheet (job_of s) (job_of t)
  written =
      rw (joins.size, joins.buffer, eq-eqb (join_refusal s t (length before)) 0 not_refused)
      (take-append_seam (joined_sheet (job_of s) (job_of t)) (drop (length (joined_sheet (job_of s) (job_of t))) before))

  pub join_reads : JoinReads s t (take r.length after)
  unfolding joined_sheet
  join_reads =
      let passed = join_passed s t (length before) not_refused in
      record {
        first_read = passed.first_read;
        second_read = passed.second_read;
        reading = ap reading_of written ∙ sheet_reads s t (length before) passed;
        one_platform = same_platform_lem _ _ passed.both.one_platform;
        platform_at = rw written (platform_at (job_of s).platform (joined_weights (job_of s) (job_of t)));
        weights_at = rw written (weights_at (job_of s).platform (joined_weights (job_of s) (job_of t)));
        ends = rw written (length_sheet (job_of s) (job_of t) (joinable s t (length before) passed).both);
        no_stray = rw written (no_stray (job_of s).platform (joined_weights (job_of s) (job_of t)) (counted s t (length before) passed));
      }

-- A list of marks passes checks 9 and 10 exactly where it is an allowed setting of n marks; and check 8 leaves every setting in which each task is marked allowed,
-- since its stretches are single tasks. Assumes nothing.
use Prim.Native.Nat.{ℕ, zero, suc, ◌-◌, ◌≤◌, ◌<◌}
use mathlib.Core.Path.{◌≡◌, sym, ◌∙◌, ap}
use mathlib.Core.Bool.{true, false, not}
use mathlib.Core.List.{List}
use native.Mathlib.Decide.{dec_le}
use native.Mathlib.Omega.{arith}
use borrow.Author.Tests.{le-ltb, eq-eqb, not-false}
use lib.Dec.{ltb}
use lib.ListN.{length, get_or}
use Rattle.chain.specs.Time.{Marks, verification, disk, last}
use Rattle.chain.specs.Plan.{Setting, Allowed}
use Rattle.chain.proofs.Equations.{last_here, last_first}
use Rattle.refusals.specs.Refusals.{first}
use Rattle.job.specs.declared.Job.{Job}
use Rattle.lists.proofs.Lists.{some_fails, some_none}
use Rattle.marks.specs.Marks.{marks_of, bad_marks, bad_stretch, bad_stretches, marks_conditions}
use Rattle.job.specs.Job.{weight_at, total, between, stretch_allowed}
use Rattle.job.specs.Checks.{bad_task}
use Rattle.marks.proofs.Stretches.{marks_passed, marks_length, marks_range, marks_end, stretch_marked, stretch_plain}
use Rattle.costs.specs.Stretch.{chain_of}

-- the position v, from 1 on, is suc of a task's place in the list
positioned : (P : ℕ → Type 0) → ((j : ℕ) → P (suc j)) → (v : ℕ) → 0 < v → P v
positioned P f zero h = absurd (omega arith)
positioned P f (suc j) h = f j

module _ (job : Job) (l : List ℕ) where
  -- a list that passes checks 9 and 10 is an allowed setting of n marks
  pub checks_setting : first (marks_conditions job l) ≡ 0 → (length l ≡ job.tasks) × Allowed (chain_of job) job.tasks (marks_of l)
  unfolding chain_of bad_stretches
  checks_setting e =
      let passed = marks_passed job l e in (
        marks_length job.tasks l passed.marks,
        record {
          setting = record {
            marks = positioned (λ v. v ≤ job.tasks → marks_of l v ≤ disk) (λ j h. marks_range job.tasks l passed.marks j h);
            ends = marks_end job.tasks l passed.marks;
          };
          stretches = positioned (λ v. v ≤ job.tasks → 0 < marks_of l v → stretch_allowed job (last verification (marks_of l) v) v ≡ true)
              (λ j h k. not-false _ (sym (stretch_marked job l j k) ∙ some_fails job.tasks _ passed.stretches j h));
        },
      )

  -- and an allowed setting of n marks passes them
  pub setting_checks : length l ≡ job.tasks → Allowed (chain_of job) job.tasks (marks_of l) → first (marks_conditions job l) ≡ 0
  unfolding first bad_marks bad_stretches chain_of
  setting_checks e s =
      rw (
        eq-eqb (length l) job.tasks e,
        some_none job.tasks _ range,
        eq-eqb (marks_of l job.tasks) disk s.setting.ends,
        some_none job.tasks _ allowed,
      )
    where
      range : (j : ℕ) → j < job.tasks → ltb disk (get_or l j 0) ≡ false
      range j h = le-ltb disk (get_or l j 0) (s.setting.marks (suc j) (omega arith) h)

      allowed : (j : ℕ) → j < job.tasks → bad_stretch job l (suc j) ≡ false
      allowed j h = go (dec_le verification (get_or l j 0))
        where
          go : Dec (verification ≤ get_or l j 0) → bad_stretch job l (suc j) ≡ false
          go (yes k) = stretch_marked job l j k ∙ ap not (s.stretches (suc j) (omega arith) h k)
          go (no k) = stretch_plain job l j (omega arith)

module _ (job : Job) (passed : bad_task job ≡ false) where
  -- a task alone is allowed
  task_allowed : (j : ℕ) → j < job.tasks → stretch_allowed job j (suc j) ≡ true
  unfolding stretch_allowed between total bad_task
  task_allowed j h =
      let W : total job.weights (suc j) - total job.weights j ≡ weight_at job.weights j = omega arith in
      rw W (not-false _ (some_fails job.tasks _ passed j h))

  -- a setting in which every task is marked is allowed
  pub marked_allowed : (f : Marks) → Setting job.tasks f → ((v : ℕ) → 0 < v → v ≤ job.tasks → 0 < f v) → Allowed (chain_of job) job.tasks f
  unfolding chain_of
  marked_allowed f setting marked = record { setting = setting; stretches = positioned (λ v. v ≤ job.tasks → 0 < f v → stretch_allowed job (last verification f v) v ≡ true) at }
    where
      at : (j : ℕ) → suc j ≤ job.tasks → 0 < f (suc j) → stretch_allowed job (last verification f (suc j)) (suc j) ≡ true
      at zero h k = rw (last_first verification f) (task_allowed 0 h)
      at (suc j) h k = rw (last_here verification f (suc j) (marked (suc j) (omega arith) (omega arith))) (task_allowed (suc j) h)

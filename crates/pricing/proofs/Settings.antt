-- Every sheet that passes checks 1 to 8 has an allowed setting: check 8 leaves each task alone allowed, so each list in which every task is marked passes 9 and 10.
-- So it has a plan, whether its time is in the limit or not. Assumes nothing.
use Prim.Native.Nat.{ℕ, ◌-◌, ◌<◌}
use mathlib.Core.Path.{◌≡◌, ◌∙◌}
use mathlib.Core.List.{List}
use native.Mathlib.Omega.{arith}
use lib.ListN.{get_or}
use Rattle.lists.specs.Lists.{tabulate}
use Rattle.lists.proofs.Lists.{length_tabulate, get_d_tabulate}
use Rattle.refusals.specs.Refusals.{first}
use Rattle.chain.specs.Time.{disk}
use Rattle.chain.specs.Plan.{Allowed, HasLeast}
use Rattle.chain.proofs.Theorems.{allowed_has_plan}
use Rattle.job.proofs.Ranges.{values_passed}
use Rattle.sheet.specs.Reading.{job_of, sheet_refusal}
use Rattle.sheet.proofs.Readings.{sheet_layout, sheet_goes_on, sheet_sound}
use Rattle.marks.specs.Marks.{marks_of, marks_conditions}
use Rattle.marks.proofs.Stretches.{mark_at}
use Rattle.costs.specs.Stretch.{chain_of}
use Rattle.costs.proofs.Settings.{marked_allowed, setting_checks}
use Rattle.costs.proofs.Stretches.{S_rises}
use Rattle.pricing.specs.Settings.{EachMarked, HasMarks}

module _ (s : List ℕ) (clear : sheet_refusal s ≡ 0) where
  abbrev n : ℕ
  n = (job_of s).tasks

  some : 0 < n
  some = (sheet_sound s clear).some_task

  each_allowed : (l : List ℕ) → EachMarked n l → Allowed (chain_of (job_of s)) n (marks_of l)
  each_allowed l m =
      marked_allowed (job_of s) (values_passed (job_of s) (sheet_goes_on s (sheet_layout s clear) ∙ clear)).task (marks_of l)
      (record { marks = λ v h k. rw (mark_at l v h) (m.range (v - 1) (omega arith)); ends = m.ends })
      (λ v h k. rw (mark_at l v h) (m.marked (v - 1) (omega arith)))

  -- marks of 1 to 3 pass checks 9 and 10, the last being 3
  pub marked_passes : (l : List ℕ) → EachMarked n l → first (marks_conditions (job_of s) l) ≡ 0
  marked_passes l m = setting_checks (job_of s) l m.long (each_allowed l m)

  -- a disk copy after each task
  abbrev each_disk : List ℕ
  each_disk = tabulate n (λ _. disk)

  disk_at : (j : ℕ) → j < n → get_or each_disk j 0 ≡ disk
  disk_at = get_d_tabulate n (λ _. disk)

  each_disk_marked : EachMarked n each_disk
  each_disk_marked =
      record {
        long = length_tabulate n (λ _. disk);
        marked = λ j h. rw (disk_at j h) (omega arith);
        range = λ j h. rw (disk_at j h) (omega arith);
        ends = mark_at each_disk n some ∙ disk_at (n - 1) (omega (arith, some));
      }

  -- so there are marks that pass
  pub sheet_has_marks : HasMarks s
  sheet_has_marks = record { marks = each_disk; passed = marked_passes each_disk each_disk_marked }

  -- and a plan, whatever its time is
  pub sheet_has_plan : HasLeast (chain_of (job_of s)) n
  sheet_has_plan = allowed_has_plan (chain_of (job_of s)) (S_rises (job_of s)) n some (marks_of each_disk) (each_allowed each_disk each_disk_marked)

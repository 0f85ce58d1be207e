-- What checks 1 to 6 leave of an accepted layout: the task count is in range, each section lies within the sheet, and has the length of its kind.
-- Assumes nothing.
use Prim.Native.Nat.{ℕ, ◌+◌, ◌≤◌, ◌<◌}
use mathlib.Core.Path.{◌≡◌, refl, ◌∙◌}
use mathlib.Core.Bool.{false}
use mathlib.Core.List.{List}
use native.Mathlib.Nat.{le_trans}
use borrow.Author.Tests.{ltb-false, le-ltb}
use lib.Dec.{eqb}
use lib.ListN.{length}
use Rattle.lists.proofs.Lists.{or_fails}
use Rattle.refusals.specs.Refusals.{first, has, distinct, Numbered}
use Rattle.refusals.proofs.Refusals.{first_clear}
use Rattle.units.specs.Limits.{task_limit}
use Rattle.job.specs.Checks.{bad_count}
use Rattle.job.proofs.Ranges.{Counted, count_range}
use Rattle.header.specs.Header.{tasks, tasks_most, sections, offset, size, bad_length, bad_form, bad_tasks, bad_sections}
use Rattle.header.proofs.Header.{most_tasks}
use Rattle.extents.specs.Extents.{bad_extents, stray_byte}
use Rattle.extents.proofs.Extents.{placed}
use Rattle.kinds.specs.Kinds.{weights_kind, weights_length, index_of, bad_kinds}
use Rattle.kinds.proofs.Indices.{index_lt}
use Rattle.kinds.proofs.Lengths.{has_weights, size_of_kind, weights_long}
use Rattle.layout.specs.Layout.{layout_conditions}

pub layout_numbered : (s : List ℕ) → Numbered (layout_conditions s)
unfolding has distinct
layout_numbered s = refl

-- what passing checks 1 to 6 means
pub record LayoutPassed (s : List ℕ) : Type 0 where
  pub length : bad_length s ≡ false
  pub form : bad_form s ≡ false
  pub count : bad_tasks s ≡ false
  pub sections : bad_sections s ≡ false
  pub extents : bad_extents s ≡ false
  pub no_stray : stray_byte s ≡ false
  pub kinds : bad_kinds s ≡ false

pub layout_passed : (s : List ℕ) → first (layout_conditions s) ≡ 0 → LayoutPassed s
layout_passed s e =
    let clear = first_clear (layout_conditions s) (layout_numbered s) e in
    record { length = clear 0; form = clear 1; count = clear 2; sections = clear 3; extents = clear 4; no_stray = clear 5; kinds = clear 6 }

module _ (s : List ℕ) (clear : first (layout_conditions s) ≡ 0) where
  passed : LayoutPassed s
  passed = layout_passed s clear

  -- the task count is one that a job may have
  pub layout_count : bad_count (tasks s) ≡ false
  unfolding bad_tasks bad_count
  layout_count =
      let some_task = or_fails (eqb (tasks s) 0) _ passed.count in
      let few = ltb-false (tasks_most s) (tasks s) some_task.1 in
      rw some_task.0 (le-ltb task_limit (tasks s) (le_trans few (most_tasks s)))

  pub layout_tasks : Counted (tasks s)
  layout_tasks = count_range (tasks s) layout_count

  -- the weights section has its length
  pub layout_weights : size s (index_of s weights_kind) ≡ weights_length (tasks s)
  layout_weights = size_of_kind s passed.kinds weights_kind (has_weights s passed.kinds) ∙ weights_long (tasks s)

  pub section_within : (i : ℕ) → i < sections s → offset s i + size s i ≤ length s
  section_within i h = (placed s passed.extents i h).within

  -- each section lies within the sheet
  pub section_ends : (k : ℕ) → offset s (index_of s k) + size s (index_of s k) ≤ length s
  section_ends k = section_within (index_of s k) (index_lt s k)

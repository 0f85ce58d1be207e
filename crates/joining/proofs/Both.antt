-- 26, 3, 7 and 11 of two jobs: one law for each answer, from the tests that led there. Assumes nothing.
use Prim.Native.Nat.{ℕ, ◌+◌, ◌≤◌, ◌<◌}
use mathlib.Core.Path.{◌≡◌, refl, sym, ◌∙◌, ap}
use mathlib.Core.Bool.{Bool, true, false, not}
use mathlib.Core.List.{[], ◌∷◌}
use borrow.Author.Tests.{lt-ltb, le-ltb, ltb-false, not-false}
use lib.ListN.{length}
use Rattle.refusals.specs.Numbers
use Rattle.refusals.specs.Refusals.{refusal, first, has, distinct}
use Rattle.refusals.proofs.Refusals.{first_clear, refused_here, refused_later, refused_none}
use Rattle.units.specs.Limits.{cost_limit, task_limit}
use Rattle.job.specs.Job.{total}
use Rattle.job.specs.declared.Job.{Job}
use Rattle.kinds.specs.Kinds.{weights_length}
use Rattle.writing.specs.Form.{weights_start}
use Rattle.joining.specs.Join.{same_platform, too_many, too_heavy, too_short, joined_sheet, both_conditions}
use Rattle.joining.specs.Working.Ready.{Both}
use Rattle.joining.proofs.Values.{length_sheet}

-- what passing 26, 3, 7 and 11 means
pub record BothPassed (a b : Job) (room : ℕ) : Type 0 where
  pub one_platform : same_platform a.platform b.platform ≡ true
  pub few : a.tasks + b.tasks ≤ task_limit
  pub light : total a.weights a.tasks + total b.weights b.tasks ≤ cost_limit
  pub holds : length (joined_sheet a b) ≤ room

pub both_passed : (a b : Job) (room : ℕ) → first (both_conditions a b room) ≡ 0 → BothPassed a b room
unfolding has distinct too_many too_heavy too_short
both_passed a b room e =
    let clear = first_clear (both_conditions a b room) refl e in
    record {
      one_platform = not-false (same_platform a.platform b.platform) (clear 0);
      few = ltb-false task_limit (a.tasks + b.tasks) (clear 1);
      light = ltb-false cost_limit (total a.weights a.tasks + total b.weights b.tasks) (clear 2);
      holds = ltb-false room (length (joined_sheet a b)) (clear 3);
    }

module _ (a b : Job) (room : ℕ) {same : Bool} (e : same ≡ same_platform a.platform b.platform) where
  pub both_other : not same ≡ true → Numbers.other_platform ≡ first (both_conditions a b room)
  both_other h = refused_here Numbers.other_platform _ (ap not e) h

  module _ (h : not same ≡ false) where
    -- one platform: the other three decide
    one_platform : {k : ℕ} → k ≡ first (refusal Numbers.bad_count (too_many a b)
        ∷ refusal Numbers.bad_value (too_heavy a b) ∷ refusal Numbers.short_buffer (too_short a b room) ∷ []) → k ≡ first (both_conditions a b room)
    one_platform q = refused_later Numbers.other_platform _ (ap not e) h q

    pub both_many : task_limit < a.tasks + b.tasks → Numbers.bad_count ≡ first (both_conditions a b room)
    unfolding too_many
    both_many many = one_platform (refused_here Numbers.bad_count _ (sym (lt-ltb task_limit (a.tasks + b.tasks) many)) refl)

    module _ (few : a.tasks + b.tasks ≤ task_limit) {sum : ℕ} (s : sum ≡ total a.weights a.tasks + total b.weights b.tasks) where
      few_tasks : {k : ℕ} → k ≡ first (refusal Numbers.bad_value (too_heavy a b) ∷ refusal Numbers.short_buffer (too_short a b room) ∷ [])
          → k ≡ first (both_conditions a b room)
      unfolding too_many
      few_tasks q = one_platform (refused_later Numbers.bad_count _ (sym (le-ltb task_limit (a.tasks + b.tasks) few)) refl q)

      pub both_heavy : cost_limit < sum → Numbers.bad_value ≡ first (both_conditions a b room)
      unfolding too_heavy
      both_heavy heavy = few_tasks (refused_here Numbers.bad_value _ (sym (lt-ltb cost_limit _ (rw s at heavy))) refl)

      module _ (light : sum ≤ cost_limit) {size : ℕ} (l : size ≡ length (joined_sheet a b)) where
        light_total : {k : ℕ} → k ≡ first (refusal Numbers.short_buffer (too_short a b room) ∷ []) → k ≡ first (both_conditions a b room)
        unfolding too_heavy
        light_total q = few_tasks (refused_later Numbers.bad_value _ (sym (le-ltb cost_limit _ (rw s at light))) refl q)

        pub both_short : room < size → Numbers.short_buffer ≡ first (both_conditions a b room)
        unfolding too_short
        both_short short = light_total (refused_here Numbers.short_buffer _ (sym (lt-ltb room _ (rw l at short))) refl)

        pub both_joined : size ≤ room → 0 ≡ first (both_conditions a b room)
        unfolding too_short
        both_joined held = light_total (refused_later Numbers.short_buffer _ (sym (le-ltb room _ (rw l at held))) refl refused_none)

-- the sum of two totals, and the length of the sheet, as they were worked out
pub total_taken : {x y p q : ℕ} → x ≡ p → y ≡ q → x + y ≡ p + q
total_taken e f = rw (e, f) refl

pub length_taken : (a b : Job) → Both a b → {size : ℕ} → size ≡ weights_start + weights_length (a.tasks + b.tasks) → size ≡ length (joined_sheet a b)
length_taken a b both e = e ∙ sym (length_sheet a b both)

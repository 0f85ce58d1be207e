-- Two sheets that differ in costs alone: where neither is refused by 1 to 6 and 28, checks 7 and 8 refuse the cheaper only where they refuse the dearer, and a dearer
-- sheet whose values are in range passes 8 where the cheaper does. Assumes nothing.
use Prim.Native.Nat.{ℕ}
use mathlib.Core.Path.{◌≡◌, refl, sym, ◌∙◌}
use mathlib.Core.List.{List, []}
use native.Mathlib.Omega.{arith}
use Rattle.refusals.specs.Numbers
use Rattle.refusals.specs.Refusals.{has, distinct, Numbered}
use Rattle.refusals.proofs.Refusals.{first_none, first_goes_on, last_clear, refused_later, refused_none}
use Rattle.job.proofs.Ranges.{values_passed, values_pass}
use Rattle.layout.specs.Layout.{layout_conditions}
use Rattle.layout.proofs.Sections.{layout_numbered}
use Rattle.sheet.specs.Reading.{job_of, sheet_refusal}
use Rattle.sheet.proofs.Readings.{sheet_layout, sheet_goes_on}
use Rattle.costs.specs.Dearer.{CostsRaised}
use Rattle.costs.proofs.Dearer.{value_cheaper, task_same}
use Rattle.dearer.specs.Dearer.{cheaper_refusal, dearer_conditions, dearer_refusal}

-- each number is asked once
pub dearer_numbered : (s : List ℕ) → Numbered (dearer_conditions s)
unfolding has distinct
dearer_numbered s = refl

-- a sheet that passes checks 1 to 8 has what is asked
module _ (s : List ℕ) (e : sheet_refusal s ≡ 0) where
  pub cheaper_asked : cheaper_refusal s ≡ 0
  unfolding cheaper_refusal
  cheaper_asked = sheet_layout s e

  pub dearer_asked : dearer_refusal s ≡ 0
  unfolding dearer_refusal
  dearer_asked =
      let clear = sheet_layout s e in
      first_goes_on (layout_conditions s) _ (layout_numbered s) clear
      ∙ sym (refused_later Numbers.bad_value [] refl (values_passed (job_of s) (sheet_goes_on s clear ∙ e)).value refused_none)

module _ (s s' : List ℕ) (dearer : CostsRaised (job_of s) (job_of s')) where
  -- where 7 and 8 do not refuse the dearer sheet, they do not refuse the cheaper
  pub cheaper_clear : cheaper_refusal s ≡ 0 → sheet_refusal s' ≡ 0 → sheet_refusal s ≡ 0
  unfolding cheaper_refusal
  cheaper_clear z e =
      let passed = values_passed (job_of s') (sheet_goes_on s' (sheet_layout s' e) ∙ e) in
      sym (sheet_goes_on s z)
      ∙ values_pass (job_of s)
      (record { value = value_cheaper (job_of s) (job_of s') dearer passed.value; task = task_same (job_of s) (job_of s') dearer ∙ passed.task })

  -- and where 7 does not refuse the dearer sheet, 8 does only where it refuses the cheaper
  pub dearer_clear : dearer_refusal s' ≡ 0 → sheet_refusal s ≡ 0 → sheet_refusal s' ≡ 0
  unfolding dearer_refusal
  dearer_clear z e =
      let passed = values_passed (job_of s) (sheet_goes_on s (sheet_layout s e) ∙ e) in
      sym (sheet_goes_on s' (first_none (layout_conditions s') _ z))
      ∙ values_pass (job_of s')
      (record {
        value = last_clear (layout_conditions s') Numbers.bad_value _ (omega arith) (layout_numbered s') z;
        task = sym (task_same (job_of s) (job_of s') dearer) ∙ passed.task;
      })

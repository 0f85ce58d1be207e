-- The first refusal of a plan by energy: that of the sheet, or 29, or none. Assumes nothing.
use Prim.Native.Nat.{ℕ, ◌<◌}
use mathlib.Core.Path.{◌≡◌, refl, sym, ◌∙◌}
use mathlib.Core.Bool.{true, false}
use mathlib.Core.List.{List, []}
use native.Mathlib.Omega.{arith}
use Rattle.refusals.specs.Numbers
use Rattle.refusals.specs.Refusals.{has, distinct, Numbered}
use Rattle.refusals.proofs.Refusals.{first_stands, first_goes_on, first_none, last_clear, refused_here, refused_later, refused_none}
use Rattle.sheet.specs.Reading.{job_of, sheet_conditions, sheet_refusal}
use Rattle.sheet.proofs.Readings.{sheet_numbered}
use Rattle.costs.specs.declared.Powers.{Powers}
use Rattle.powers.specs.Powers.{bad_powers}
use Rattle.planning.specs.Energy.{energy_conditions, energy_refusal}

-- the first refusal of a plan by energy: that of the sheet, or 29, or none
module _ (powers : Powers) (s : List ℕ) where
  -- each number is given once
  pub energy_numbered : Numbered (energy_conditions powers s)
  unfolding has distinct
  energy_numbered = refl

  -- where none of its checks holds, none of 1 to 8 does
  pub passed_sheet : energy_refusal powers s ≡ 0 → sheet_refusal s ≡ 0
  unfolding sheet_refusal energy_refusal
  passed_sheet e = first_none (sheet_conditions s) _ e

  -- nor 29
  pub passed_powers : energy_refusal powers s ≡ 0 → bad_powers powers (job_of s) ≡ false
  unfolding energy_refusal
  passed_powers e = last_clear (sheet_conditions s) Numbers.bad_power _ (omega arith) (sheet_numbered s) e

  pub energy_sheet : 0 < sheet_refusal s → energy_refusal powers s ≡ sheet_refusal s
  unfolding sheet_refusal energy_refusal
  energy_sheet h = first_stands (sheet_conditions s) _ h

  pub energy_bad : sheet_refusal s ≡ 0 → bad_powers powers (job_of s) ≡ true → energy_refusal powers s ≡ Numbers.bad_power
  unfolding sheet_refusal energy_refusal
  energy_bad e h = first_goes_on (sheet_conditions s) _ (sheet_numbered s) e ∙ sym (refused_here Numbers.bad_power [] refl h)

  pub energy_clear : sheet_refusal s ≡ 0 → bad_powers powers (job_of s) ≡ false → energy_refusal powers s ≡ 0
  unfolding sheet_refusal energy_refusal
  energy_clear e h =
      first_goes_on (sheet_conditions s) _ (sheet_numbered s) e ∙ sym (refused_later Numbers.bad_power [] refl h refused_none)

-- The first refusal of the equations as printed: that of the sheet, or 27, or none. Assumes nothing.
use Prim.Native.Nat.{ℕ, ◌≤◌, ◌<◌}
use mathlib.Core.Path.{◌≡◌, refl, sym, ◌∙◌}
use mathlib.Core.List.{List, []}
use borrow.Author.Tests.{lt-ltb, le-ltb}
use Rattle.refusals.specs.Numbers
use Rattle.refusals.specs.Refusals.{has, distinct, Numbered}
use Rattle.refusals.proofs.Refusals.{first_stands, first_none, first_goes_on, refused_here, refused_later, refused_none}
use Rattle.sheet.specs.Reading.{job_of, sheet_conditions, sheet_refusal}
use Rattle.sheet.proofs.Readings.{sheet_numbered}
use Rattle.engine.specs.Promise.{printed_limit, too_long, printed_conditions, printed_refusal}

module _ (s : List ℕ) where
  -- each number is given once
  pub printed_numbered : Numbered (printed_conditions s)
  unfolding has distinct
  printed_numbered = refl

  -- where none of its checks holds, none of 1 to 8 does
  pub printed_passed : printed_refusal s ≡ 0 → sheet_refusal s ≡ 0
  unfolding sheet_refusal printed_refusal
  printed_passed e = first_none (sheet_conditions s) _ e

  pub printed_sheet : 0 < sheet_refusal s → printed_refusal s ≡ sheet_refusal s
  unfolding sheet_refusal printed_refusal
  printed_sheet h = first_stands (sheet_conditions s) _ h

  pub printed_long : sheet_refusal s ≡ 0 → printed_limit < (job_of s).tasks → printed_refusal s ≡ Numbers.long_chain
  unfolding sheet_refusal printed_refusal too_long
  printed_long e h =
      first_goes_on (sheet_conditions s) _ (sheet_numbered s) e ∙ sym (refused_here Numbers.long_chain [] refl (lt-ltb printed_limit (job_of s).tasks h))

  pub printed_clear : sheet_refusal s ≡ 0 → (job_of s).tasks ≤ printed_limit → printed_refusal s ≡ 0
  unfolding sheet_refusal printed_refusal too_long
  printed_clear e h =
      first_goes_on (sheet_conditions s) _ (sheet_numbered s) e
      ∙ sym (refused_later Numbers.long_chain [] refl (le-ltb printed_limit (job_of s).tasks h) refused_none)

-- One law for each answer of pricing: the first refusal that holds, with time 0, or the time of the setting. Assumes nothing.
use Prim.Native.Nat.{ℕ, ◌≤◌, ◌<◌, min}
use mathlib.Core.Path.{◌≡◌, sym, ◌∙◌}
use mathlib.Core.List.{List, ◌++◌}
use native.Mathlib.Omega.{arith}
use borrow.Author.Tests.{lt-ltb, le-ltb}
use Rattle.refusals.specs.Numbers
use Rattle.refusals.specs.Refusals.{first}
use Rattle.sheet.specs.Reading.{job_of, sheet_conditions, sheet_refusal}
use Rattle.refusals.proofs.Refusals.{first_stands, first_goes_on}
use Rattle.sheet.proofs.Readings.{sheet_numbered}
use Rattle.marks.specs.Marks.{marks_conditions}
use Rattle.marks.proofs.Stretches.{marks_numbered}
use Rattle.units.specs.Limits.{time_limit, none}
use Rattle.costs.specs.Stretch.{time_of}
use Rattle.pricing.specs.Price.{too_slow, price_refusal}

-- too slow or not
pub slow_decides : (time : ℕ) → none ≤ time → Numbers.too_slow ≡ first (too_slow time)
unfolding first
slow_decides time h = rw (lt-ltb time_limit time (omega arith))

pub slow_passes : (time : ℕ) → time < none → 0 ≡ first (too_slow time)
unfolding first
slow_passes time h = rw (le-ltb time_limit time (omega arith))

module _ (s l : List ℕ) where
  pub price_sheet : 0 < sheet_refusal s → sheet_refusal s ≡ price_refusal s l
  unfolding sheet_refusal price_refusal
  price_sheet h = sym (first_stands (sheet_conditions s) _ h)

  module _ (sheet : sheet_refusal s ≡ 0) where
    after_sheet : first (marks_conditions (job_of s) l ++ too_slow (time_of (job_of s) l)) ≡ price_refusal s l
    unfolding sheet_refusal price_refusal
    after_sheet = sym (first_goes_on (sheet_conditions s) _ (sheet_numbered s) sheet)

    pub price_marks : 0 < first (marks_conditions (job_of s) l) → first (marks_conditions (job_of s) l) ≡ price_refusal s l
    price_marks h = sym (first_stands (marks_conditions (job_of s) l) (too_slow (time_of (job_of s) l)) h) ∙ after_sheet

    pub price_time : first (marks_conditions (job_of s) l) ≡ 0 → first (too_slow (time_of (job_of s) l)) ≡ price_refusal s l
    price_time e = sym (first_goes_on (marks_conditions (job_of s) l) (too_slow (time_of (job_of s) l)) (marks_numbered (job_of s) l) e) ∙ after_sheet

-- a time cut off at 'none': none where the setting's own is, and below that the setting's own
pub cut_slow : {time r : ℕ} → r ≡ min none time → none ≤ r → none ≤ time
cut_slow e h = omega arith

pub cut_below : {time r : ℕ} → r ≡ min none time → r < none → time < none
cut_below e h = omega arith

pub cut_same : {time r : ℕ} → r ≡ min none time → r < none → r ≡ time
cut_same e h = omega arith

-- Request 107 for a user's own marks: what the number of a price says, and that the price under a dearer sheet is no lower. Assumes nothing.
use Prim.Native.Nat.{ℕ, ◌≤◌, ◌<◌}
use mathlib.Core.Path.{◌≡◌, refl, sym, ◌∙◌}
use mathlib.Core.Logic.{◌⊎◌, inl, inr, ◌≢◌}
use mathlib.Core.List.{List}
use native.Mathlib.Decide.{dec_le}
use native.Mathlib.Nat.{eq-zero-or-pos}
use native.Mathlib.Omega.{arith}
use Rattle.units.specs.Limits.{time_limit}
use Rattle.refusals.specs.Numbers
use Rattle.refusals.specs.Refusals.{first, has}
use Rattle.refusals.specs.declared.Answer.{Answer}
use Rattle.refusals.proofs.Refusals.{first_other}
use Rattle.refusals.proofs.Answers.{answered_number, answered_time}
use Rattle.sheet.specs.Reading.{job_of, sheet_conditions, sheet_refusal}
use Rattle.marks.specs.Marks.{marks_conditions}
use Rattle.costs.specs.Stretch.{time_of}
use Rattle.costs.specs.Dearer.{Cost, OneRaised, CostsRaised}
use Rattle.costs.proofs.Dearer.{raised_dearer, time_dearer, marks_same}
use Rattle.pricing.specs.Price.{price_refusal, price_of}
use Rattle.dearer.specs.Dearer.{cheaper_refusal, dearer_refusal, NotSooner}
use Rattle.dearer.proofs.Checks.{cheaper_clear, dearer_clear}
use Rattle.pricing.proofs.Prices.{slow_decides, slow_passes, price_sheet, price_marks, price_time}

module _ (s l : List ℕ) where
  -- the sheet passes checks 1 to 8 and the marks 9 and 10
  record Cleared : Type 0 where
    sheet : sheet_refusal s ≡ 0
    marks : first (marks_conditions (job_of s) l) ≡ 0

  cleared_slow : Cleared → time_limit < time_of (job_of s) l → price_refusal s l ≡ Numbers.too_slow
  cleared_slow p h = sym (slow_decides (time_of (job_of s) l) (omega arith) ∙ price_time s l p.sheet p.marks)

  cleared_priced : Cleared → time_of (job_of s) l ≤ time_limit → price_refusal s l ≡ Numbers.accepted
  cleared_priced p h = sym (slow_passes (time_of (job_of s) l) (omega arith) ∙ price_time s l p.sheet p.marks)

  -- where the number is none that a check gives, both pass
  cleared : (k : ℕ) → price_refusal s l ≡ k → (0 < sheet_refusal s → sheet_refusal s ≢ k) → (0 < first (marks_conditions (job_of s) l) → first (marks_conditions (job_of s) l) ≢ k)
      → Cleared
  cleared k e other-s other-l = by_sheet (eq-zero-or-pos (sheet_refusal s))
    where
      by_marks : sheet_refusal s ≡ 0 → (first (marks_conditions (job_of s) l) ≡ 0) ⊎ (0 < first (marks_conditions (job_of s) l)) → Cleared
      by_marks z (inl y) = record { sheet = z; marks = y }
      by_marks z (inr h) = absurd (other-l h (price_marks s l z h ∙ e))

      by_sheet : (sheet_refusal s ≡ 0) ⊎ (0 < sheet_refusal s) → Cleared
      by_sheet (inl z) = by_marks z (eq-zero-or-pos (first (marks_conditions (job_of s) l)))
      by_sheet (inr h) = absurd (other-s h (price_sheet s l h ∙ e))

  -- so of a result
  result_cleared : price_refusal s l ≡ Numbers.accepted → Cleared
  result_cleared e = cleared Numbers.accepted e (λ h z. omega arith) (λ h z. omega arith)

  result_in_time : price_refusal s l ≡ Numbers.accepted → time_of (job_of s) l ≤ time_limit
  result_in_time e = go (dec_le (time_of (job_of s) l) time_limit)
    where
      go : Dec (time_of (job_of s) l ≤ time_limit) → time_of (job_of s) l ≤ time_limit
      go (yes h) = h
      go (no h) = absurd (omega (arith, cleared_slow (result_cleared e) (omega arith)))

  -- and of 13, which no check of the sheet or the marks gives
  slow_cleared : price_refusal s l ≡ Numbers.too_slow → Cleared
  unfolding sheet_refusal has
  slow_cleared e =
      cleared Numbers.too_slow e (λ _. first_other Numbers.too_slow (sheet_conditions s) (omega arith) refl)
      (λ _. first_other Numbers.too_slow (marks_conditions (job_of s) l) (omega arith) refl)

  slow_time : price_refusal s l ≡ Numbers.too_slow → time_limit < time_of (job_of s) l
  slow_time e = go (dec_le (time_of (job_of s) l) time_limit)
    where
      go : Dec (time_of (job_of s) l ≤ time_limit) → time_limit < time_of (job_of s) l
      go (yes h) = absurd (omega (arith, cleared_priced (slow_cleared e) h))
      go (no h) = omega arith

  -- the number of a price
  number : {k : ℕ} → (price_of s l).number ≡ k → price_refusal s l ≡ k
  unfolding price_of
  number e = sym (answered_number (price_refusal s l) (time_of (job_of s) l)) ∙ e

-- the same marks under a sheet and a dearer one
module _ (s s' l : List ℕ) (dearer : CostsRaised (job_of s) (job_of s')) where
  longer : time_of (job_of s) l ≤ time_of (job_of s') l
  longer = time_dearer (job_of s) (job_of s') dearer l

  same : first (marks_conditions (job_of s) l) ≡ first (marks_conditions (job_of s') l)
  same = rw (marks_same (job_of s) (job_of s') dearer l)

  prices_in_order : NotSooner (cheaper_refusal s ≡ 0) (dearer_refusal s' ≡ 0) (price_of s l) (price_of s' l)
  unfolding price_of
  prices_in_order =
      record {
        time = λ e e'. omega (arith, answered_time (price_refusal s l) (time_of (job_of s) l) (number s l e), answered_time (price_refusal s' l) (time_of (job_of s') l) (number s' l e'), longer);
        slow =
            λ e z.
            let k = number s l e in
            answered_number _ _
            ∙ cleared_slow s' l (record { sheet = dearer_clear s s' dearer z (slow_cleared s l k).sheet; marks = sym same ∙ (slow_cleared s l k).marks })
            (omega (arith, slow_time s l k, longer));
        result =
            λ e z.
            let k = number s' l e in
            answered_number _ _
            ∙ cleared_priced s l (record { sheet = cheaper_clear s s' dearer z (result_cleared s' l k).sheet; marks = same ∙ (result_cleared s' l k).marks })
            (omega (arith, result_in_time s' l k, longer));
      }

  pub price_not_sooner : NotSooner (cheaper_refusal s ≡ 0) (dearer_refusal s' ≡ 0) (price_of s l) (price_of s' l)
  price_not_sooner = prices_in_order

-- 'raising any of the five costs, other fields fixed'
pub price_raised : (cost : Cost) (s s' l : List ℕ) → OneRaised cost (job_of s) (job_of s') → NotSooner (cheaper_refusal s ≡ 0) (dearer_refusal s' ≡ 0) (price_of s l) (price_of s' l)
price_raised cost s s' l one = prices_in_order s s' l (raised_dearer cost (job_of s) (job_of s') one)

-- where the dearer sheet gets a result, so does the cheaper, and it is not more: on average, what is booked from the dearer's time is enough
pub booking_holds : {P P' : Type 0} {r r' : Answer} → NotSooner P P' r r' → P → r'.number ≡ Numbers.accepted
    → (r.number ≡ Numbers.accepted) × (r.time ≤ r'.time)
booking_holds law free e = let result = law.result e free in (result, law.time result e)

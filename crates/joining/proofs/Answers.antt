-- The two answers of a join, over the number that its checks give. Assumes nothing.
use Prim.Native.Nat.{ℕ}
use mathlib.Core.Path.{◌≡◌, refl, sym, ◌∙◌, ap}
use mathlib.Core.List.{List, ◌++◌}
use native.Mathlib.Omega.{arith}
use borrow.Author.Tests.{ne_eqb}
use lib.ListN.{length}
use Rattle.refusals.specs.Refusals.{first}
use Rattle.refusals.proofs.Refusals.{first_stands, first_goes_on}
use Rattle.std.proofs.Common.{Result, Err}
use Rattle.refusals.specs.Checks.{told}
use Rattle.refusals.specs.declared.Refusal.{Refusal}
use Rattle.refusals.proofs.Checks.{number_positive}
use Rattle.job.specs.declared.Job.{Job}
use Rattle.sheet.specs.Reading.{Reads, job_of, sheet_conditions, sheet_refusal}
use Rattle.sheet.proofs.Readings.{sheet_numbered, read_told}
use Rattle.writing.specs.Form.{written}
use Rattle.joining.specs.Join.{both_conditions, join_refusal, Writes}
use Rattle.joining.specs.Working.Ready.{refused_join}

-- refused: length 0, and the buffer as it was
pub writes_refused : {number refusal : ℕ} (sheet before : List ℕ) → number ≡ refusal → (number ≡ 0 → ⊥)
    → Writes refusal sheet before before (refused_join number)
writes_refused {number} {refusal} sheet before e h =
    record { number = e; size = rw (← e, ne_eqb number 0 h) refl; buffer = rw (← e, ne_eqb number 0 h) refl }

-- accepted: the sheet at the front of the buffer, and its length
pub writes_sheet : {refusal size : ℕ} (sheet before after : List ℕ) → 0 ≡ refusal → size ≡ length sheet → after ≡ written sheet before
    → Writes refusal sheet before after (record { number = 0; length = size })
writes_sheet sheet before after e l w = record { number = e; size = rw (← e) l; buffer = rw (← e) w }

-- a refused reading
pub reading_refused : (s : List ℕ) {r : Result Job Refusal} {refusal : Refusal} {number : ℕ} → r ≡ Err refusal → Reads s r → number ≡ told r
    → (number ≡ sheet_refusal s) × (number ≡ 0 → ⊥)
reading_refused s {r} {refusal} e reads q = (q ∙ read_told s r reads, λ z. omega (arith, number_positive refusal, q ∙ ap told e))

-- the first sheet's refusal decides, then the second's, then what is asked of both
module _ (s t : List ℕ) (room : ℕ) where
  pub first_refused : {number : ℕ} → number ≡ sheet_refusal s → (number ≡ 0 → ⊥) → number ≡ join_refusal s t room
  unfolding join_refusal sheet_refusal
  first_refused e h = e ∙ sym (first_stands (sheet_conditions s) _ (omega (arith, e)))

  module _ (clear : sheet_refusal s ≡ 0) where
    first_read : first (sheet_conditions t ++ both_conditions (job_of s) (job_of t) room) ≡ join_refusal s t room
    unfolding join_refusal sheet_refusal
    first_read = sym (first_goes_on (sheet_conditions s) _ (sheet_numbered s) clear)

    pub second_refused : {number : ℕ} → number ≡ sheet_refusal t → (number ≡ 0 → ⊥) → number ≡ join_refusal s t room
    unfolding sheet_refusal
    second_refused e h = e ∙ (sym (first_stands (sheet_conditions t) _ (omega (arith, e))) ∙ first_read)

    pub both_read : sheet_refusal t ≡ 0 → first (both_conditions (job_of s) (job_of t) room) ≡ join_refusal s t room
    unfolding sheet_refusal
    both_read clear-t = sym (first_goes_on (sheet_conditions t) _ (sheet_numbered t) clear-t) ∙ first_read

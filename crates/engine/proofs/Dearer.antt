-- Request 107 for the equations as printed: their answer to a dearer sheet is no sooner. 27 asks the task count, which both sheets have, so no more is asked of the two
-- than for the planner. Assumes nothing.
use Prim.Native.Nat.{ℕ, ◌≤◌}
use mathlib.Core.Path.{◌≡◌, refl}
use mathlib.Core.List.{List}
use native.Mathlib.Decide.{dec_le}
use native.Mathlib.Omega.{arith}
use Rattle.refusals.specs.Numbers
use Rattle.refusals.specs.Refusals.{has}
use Rattle.refusals.specs.declared.Answer.{Answer}
use Rattle.refusals.proofs.Refusals.{first_other}
use Rattle.sheet.specs.Reading.{job_of}
use Rattle.costs.specs.Stretch.{chain_of}
use Rattle.costs.specs.Dearer.{Cost, OneRaised, CostsRaised}
use Rattle.costs.proofs.Stretches.{S_rises}
use Rattle.costs.proofs.Dearer.{raised_dearer, chain_dearer}
use Rattle.dearer.specs.Dearer.{cheaper_refusal, dearer_refusal, NotSooner}
use Rattle.dearer.proofs.Checks.{cheaper_clear, dearer_clear}
use Rattle.answers.specs.Promise.{Free}
use Rattle.planning.proofs.Theorems.{some_task}
use Rattle.planning.proofs.Dearer.{Compared, checked_not_sooner}
use Rattle.engine.specs.Promise.{printed_limit, printed_conditions, printed_refusal, PlansAsPrinted}
use Rattle.engine.proofs.Answers.{printed_passed, printed_long, printed_clear}

-- where none of its checks holds, 27 does not
passed_length : (s : List ℕ) → printed_refusal s ≡ 0 → (job_of s).tasks ≤ printed_limit
passed_length s e = go (dec_le (job_of s).tasks printed_limit)
  where
    go : Dec ((job_of s).tasks ≤ printed_limit) → (job_of s).tasks ≤ printed_limit
    go (yes h) = h
    go (no h) = absurd (omega (arith, printed_long s (printed_passed s e) (omega arith)))

-- two sheets, the second dearer in any of the five costs
module _ (s s' : List ℕ) (dearer : CostsRaised (job_of s) (job_of s')) where
  abbrev n : ℕ
  n = (job_of s).tasks

  compared : Compared n (chain_of (job_of s)) (chain_of (job_of s')) (printed_refusal s) (printed_refusal s') (cheaper_refusal s) (dearer_refusal s')
  unfolding printed_refusal has
  compared =
      record {
        rises = S_rises (job_of s);
        rises' = S_rises (job_of s');
        less = chain_dearer (job_of s) (job_of s') dearer n;
        some = λ z. some_task s (printed_passed s z);
        some' = λ z. omega (arith, some_task s' (printed_passed s' z), dearer.others.tasks);
        other = first_other Numbers.too_slow (printed_conditions s) (omega arith) refl;
        clear = λ z e. printed_clear s (cheaper_clear s s' dearer z (printed_passed s' e)) (omega (arith, passed_length s' e, dearer.others.tasks));
        clear' = λ z e. printed_clear s' (dearer_clear s s' dearer z (printed_passed s e)) (omega (arith, passed_length s e, dearer.others.tasks));
      }

  pub printed_not_sooner : (before after before' after' : List ℕ) (r r' : Answer) → PlansAsPrinted s before after r → PlansAsPrinted s' before' after' r'
      → NotSooner (Free (cheaper_refusal s) n before) (Free (dearer_refusal s') (job_of s').tasks before') r r'
  printed_not_sooner before after before' after' r r' = checked_not_sooner n _ _ _ _ _ _ compared before after before' after' r r' dearer.others.tasks

-- 'raising any of the five costs, other fields fixed'
pub printed_raised : (cost : Cost) (s s' : List ℕ) → OneRaised cost (job_of s) (job_of s') → (before after before' after' : List ℕ) (r r' : Answer)
    → PlansAsPrinted s before after r → PlansAsPrinted s' before' after' r'
    → NotSooner (Free (cheaper_refusal s) (job_of s).tasks before) (Free (dearer_refusal s') (job_of s').tasks before') r r'
printed_raised cost s s' one before after before' after' r r' =
    let dearer = raised_dearer cost (job_of s) (job_of s') one in
    checked_not_sooner (job_of s).tasks _ _ _ _ _ _ (compared s s' dearer) before after before' after' r r' dearer.others.tasks

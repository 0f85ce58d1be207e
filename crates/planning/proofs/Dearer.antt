-- Request 107 for the planner's own answers: a plan, by time or by energy, of a dearer sheet is no sooner. Of the cheaper sheet 1 to 6 and 28 are asked alone: 7, 8 and
-- 29 refuse it only where they refuse the dearer. Assumes nothing.
use Prim.Native.Nat.{ℕ, ◌<◌}
use mathlib.Core.Path.{◌≡◌, refl}
use mathlib.Core.Logic.{◌≢◌}
use mathlib.Core.List.{List}
use native.Mathlib.Omega.{arith}
use Rattle.units.specs.Limits.{none}
use Rattle.refusals.specs.Numbers
use Rattle.refusals.specs.Refusals.{has}
use Rattle.refusals.specs.declared.Answer.{Answer}
use Rattle.refusals.proofs.Refusals.{first_other, first_none, last_clear}
use Rattle.chain.specs.Chain.{Chain}
use Rattle.chain.specs.Dearer.{NowhereLess}
use Rattle.chain.specs.Working.Search.{Rising}
use Rattle.chain.proofs.Dearer.{bound_dearer, least_dearer}
use Rattle.sheet.specs.Reading.{job_of, sheet_conditions, sheet_refusal}
use Rattle.costs.specs.Stretch.{chain_of}
use Rattle.costs.specs.Energy.{energy_chain}
use Rattle.costs.specs.Dearer.{Cost, OneRaised, CostsRaised}
use Rattle.costs.specs.declared.Powers.{Powers}
use Rattle.costs.proofs.Stretches.{S_rises, energy_rises}
use Rattle.costs.proofs.Dearer.{raised_dearer, chain_dearer, energy_dearer}
use Rattle.dearer.specs.Dearer.{cheaper_refusal, dearer_conditions, dearer_refusal, NotSooner}
use Rattle.dearer.proofs.Checks.{dearer_numbered, cheaper_clear, dearer_clear}
use Rattle.powers.proofs.Dearer.{powers_cheaper}
use Rattle.answers.specs.Promise.{AllSlow, PlansChecked, Free, ResultSays, SlowSays}
use Rattle.planning.specs.Promise.{Plans}
use Rattle.planning.specs.Energy.{energy_conditions, energy_refusal, energy_dearer_refusal, PlansByEnergy}
use Rattle.answers.proofs.Answers.{checked_result, checked_slow}
use Rattle.planning.proofs.Theorems.{some_task}
use Rattle.planning.proofs.EnergyRefusals.{passed_sheet, passed_powers, energy_clear}
use Rattle.planning.proofs.ByEnergy.{energy_some_task}

-- two chains with the first number of their checks, the second chain nowhere cheaper, and what is asked of each
pub record Compared (n : ℕ) (c c' : Chain) (refusal refusal' asked asked' : ℕ) : Type 0 where
  pub rises : Rising c
  pub rises' : Rising c'
  pub less : NowhereLess n c c'
  pub some : refusal ≡ 0 → 0 < n
  pub some' : refusal' ≡ 0 → 0 < n
  -- no check of the cheaper gives 13
  pub other : refusal ≢ Numbers.too_slow
  -- where nothing refuses the dearer, what is asked of the cheaper is all that can refuse it
  pub clear : asked ≡ 0 → refusal' ≡ 0 → refusal ≡ 0
  -- and where nothing refuses the cheaper, so of the dearer
  pub clear' : asked' ≡ 0 → refusal ≡ 0 → refusal' ≡ 0

-- each with a buffer of its own
module _ (n : ℕ) (c c' : Chain) (refusal refusal' asked asked' : ℕ) (both : Compared n c c' refusal refusal' asked asked')
    (before after before' after' : List ℕ) (r r' : Answer) where
  -- where every setting of the cheaper chain is too slow, so is every one of the dearer
  slow_dearer : AllSlow c n → AllSlow c' n
  slow_dearer all g a = bound_dearer n c c' both.rises' both.less none (λ f b. all f b) g a

  not_sooner : PlansChecked refusal c n before after r → PlansChecked refusal' c' n before' after' r' → NotSooner (Free asked n before) (Free asked' n before') r r'
  not_sooner plans plans' =
      record {
        time = λ e e'. least_dearer n c c' both.rises' both.less _ _ r.time r'.time (result e).planned.plan (result' e').planned.plan;
        slow =
            λ e free.
            ((plans'.plans (both.clear' free.clear (slow e).free.clear) free.room).slow (slow_dearer (slow e).all_slow)).numbered;
        result =
            λ e free.
            let planned = (result' e).planned in
            ((plans.plans (both.clear free.clear (result' e).free.clear) free.room
            ).planned (λ all. omega (arith, slow_dearer all _ planned.plan.allowed, planned.plan.time, planned.in_time))
            ).numbered;
      }
    where
      result : r.number ≡ Numbers.accepted → ResultSays refusal c n before after r
      result = checked_result refusal c both.rises n both.some before after r plans

      result' : r'.number ≡ Numbers.accepted → ResultSays refusal' c' n before' after' r'
      result' = checked_result refusal' c' both.rises' n both.some' before' after' r' plans'

      slow : r.number ≡ Numbers.too_slow → SlowSays refusal c n before
      slow = checked_slow refusal c both.rises n both.some before after r plans both.other

  -- the same with the second count under a name of its own
  pub checked_not_sooner : {k : ℕ} → n ≡ k → PlansChecked refusal c n before after r → PlansChecked refusal' c' k before' after' r'
      → NotSooner (Free asked n before) (Free asked' k before') r r'
  checked_not_sooner e = rw (← e) not_sooner

-- two sheets, the second dearer in any of the five costs
module _ (s s' : List ℕ) (dearer : CostsRaised (job_of s) (job_of s')) where
  abbrev n : ℕ
  n = (job_of s).tasks

  abbrev n' : ℕ
  n' = (job_of s').tasks

  compared : Compared n (chain_of (job_of s)) (chain_of (job_of s')) (sheet_refusal s) (sheet_refusal s') (cheaper_refusal s) (dearer_refusal s')
  unfolding sheet_refusal has
  compared =
      record {
        rises = S_rises (job_of s);
        rises' = S_rises (job_of s');
        less = chain_dearer (job_of s) (job_of s') dearer n;
        some = some_task s;
        some' = λ z. omega (arith, some_task s' z, dearer.others.tasks);
        other = first_other Numbers.too_slow (sheet_conditions s) (omega arith) refl;
        clear = cheaper_clear s s' dearer;
        clear' = dearer_clear s s' dearer;
      }

  -- by energy: 29 refuses the cheaper only where it refuses the dearer
  module _ (powers : Powers) where
    energy_cheaper_clear : cheaper_refusal s ≡ 0 → energy_refusal powers s' ≡ 0 → energy_refusal powers s ≡ 0
    energy_cheaper_clear z e =
        energy_clear powers s (cheaper_clear s s' dearer z (passed_sheet powers s' e))
        (powers_cheaper powers (job_of s) (job_of s') dearer (passed_powers powers s' e))

    energy_dearer_clear : energy_dearer_refusal powers s' ≡ 0 → energy_refusal powers s ≡ 0 → energy_refusal powers s' ≡ 0
    unfolding energy_dearer_refusal dearer_refusal
    energy_dearer_clear z e =
        energy_clear powers s' (dearer_clear s s' dearer (first_none (dearer_conditions s') _ z) (passed_sheet powers s e))
        (last_clear (dearer_conditions s') Numbers.bad_power _ (omega arith) (dearer_numbered s') z)

    energy_compared : Compared n (energy_chain powers (job_of s)) (energy_chain powers (job_of s')) (energy_refusal powers s) (energy_refusal powers s') (cheaper_refusal s)
        (energy_dearer_refusal powers s')
    unfolding energy_refusal has
    energy_compared =
        record {
          rises = energy_rises powers (job_of s);
          rises' = energy_rises powers (job_of s');
          less = energy_dearer (job_of s) (job_of s') dearer powers n;
          some = energy_some_task powers s;
          some' = λ z. omega (arith, energy_some_task powers s' z, dearer.others.tasks);
          other = first_other Numbers.too_slow (energy_conditions powers s) (omega arith) refl;
          clear = energy_cheaper_clear;
          clear' = energy_dearer_clear;
        }

  -- and two buffers
  module _ (before after before' after' : List ℕ) (r r' : Answer) where
    pub plan_not_sooner : Plans s before after r → Plans s' before' after' r' → NotSooner (Free (cheaper_refusal s) n before) (Free (dearer_refusal s') n' before') r r'
    plan_not_sooner = checked_not_sooner n _ _ _ _ _ _ compared before after before' after' r r' dearer.others.tasks

    -- in energy, by the same powers for both
    pub energy_not_sooner : (powers : Powers) → PlansByEnergy powers s before after r → PlansByEnergy powers s' before' after' r'
        → NotSooner (Free (cheaper_refusal s) n before) (Free (energy_dearer_refusal powers s') n' before') r r'
    energy_not_sooner powers = checked_not_sooner n _ _ _ _ _ _ (energy_compared powers) before after before' after' r r' dearer.others.tasks

-- 'raising any of the five costs, other fields fixed'
module _ (cost : Cost) (s s' : List ℕ) (raised : OneRaised cost (job_of s) (job_of s')) where
  dearer : CostsRaised (job_of s) (job_of s')
  dearer = raised_dearer cost (job_of s) (job_of s') raised

  pub plan_raised : (before after before' after' : List ℕ) (r r' : Answer) → Plans s before after r → Plans s' before' after' r'
      → NotSooner (Free (cheaper_refusal s) (job_of s).tasks before) (Free (dearer_refusal s') (job_of s').tasks before') r r'
  plan_raised before after before' after' r r' =
      checked_not_sooner (job_of s).tasks _ _ _ _ _ _ (compared s s' dearer) before after before' after' r r' dearer.others.tasks

  pub energy_raised : (before after before' after' : List ℕ) (r r' : Answer) (powers : Powers) → PlansByEnergy powers s before after r
      → PlansByEnergy powers s' before' after' r'
      → NotSooner (Free (cheaper_refusal s) (job_of s).tasks before) (Free (energy_dearer_refusal powers s') (job_of s').tasks before') r r'
  energy_raised before after before' after' r r' powers =
      checked_not_sooner (job_of s).tasks _ _ _ _ _ _ (energy_compared s s' dearer powers) before after before' after' r r' dearer.others.tasks

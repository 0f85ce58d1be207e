-- The plan by energy for callers: its promise leaves one answer and one buffer, its marks are allowed and least in energy, by the powers 1 and 1 it is the plan,
-- and of the sheets that pass checks 1 to 8 those whose powers do not fit get 29. Assumes nothing.
use Prim.Native.Nat.{ℕ, suc, ◌-◌, ◌≤◌, ◌<◌}
use mathlib.Core.Path.{◌≡◌, refl, sym, ◌∙◌}
use mathlib.Core.Bool.{Bool, true, false, true≢false}
use mathlib.Core.List.{List}
use mathlib.Core.Logic.{◌⊎◌, inl, inr, ◌↔◌, ◌≢◌}
use native.Mathlib.Decide.{dec_le}
use native.Mathlib.Nat.{eq-zero-or-pos, le_trans, le_of_eq}
use native.Mathlib.Omega.{arith}
use lib.ListN.{length, take}
use Rattle.units.specs.Limits.{time_limit}
use Rattle.lists.specs.Lists.{tabulate}
use Rattle.lists.proofs.Lists.{length_tabulate, get_d_tabulate}
use Rattle.refusals.specs.Numbers
use Rattle.refusals.specs.Refusals.{first, has}
use Rattle.refusals.specs.declared.Answer.{Answer}
use Rattle.refusals.proofs.Answers.{answered_number, answered_time}
use Rattle.refusals.proofs.Refusals.{first_other}
use Rattle.chain.specs.Chain.{Chain}
use Rattle.chain.specs.Time.{Marks, D}
use Rattle.chain.specs.Plan.{Allowed, HasLeast}
use Rattle.chain.proofs.Theorems.{allowed_has_plan}
use Rattle.chain.proofs.Agree.{D_agree, allowed_agree}
use Rattle.chain.proofs.Same.{same_allowed}
use Rattle.units.specs.Limits.{task_limit}
use Rattle.job.specs.declared.Job.{Job}
use Rattle.header.specs.Header.{tasks}
use Rattle.sheet.specs.Reading.{job_of, sheet_conditions, sheet_refusal}
use Rattle.sheet.proofs.Readings.{sheet_layout, sheet_sound}
use Rattle.layout.proofs.Sections.{layout_tasks}
use Rattle.marks.specs.Marks.{marks_of, marks_conditions}
use Rattle.marks.proofs.Stretches.{mark_at}
use Rattle.costs.specs.Stretch.{chain_of, time_of}
use Rattle.costs.specs.Energy.{energy_chain, energy_of, plain}
use Rattle.costs.specs.declared.Powers.{Powers}
use Rattle.costs.proofs.Powered.{time_in_energy}
use Rattle.costs.proofs.Ranges.{plain_products}
use Rattle.costs.proofs.Settings.{checks_setting, setting_checks}
use Rattle.costs.proofs.Stretches.{energy_rises, plain_same}
use Rattle.pricing.specs.Price.{price_refusal, price_of}
use Rattle.pricing.proofs.Prices.{slow_passes, price_time}
use Rattle.pricing.proofs.Settings.{sheet_has_plan}
use Rattle.answers.specs.Promise.{Refused, ResultSays, AnswerSays}
use Rattle.planning.specs.Promise.{Plans}
use Rattle.powers.specs.Powers.{most_power, bad_powers, PowersFit}
use Rattle.planning.specs.Energy.{energy_refusal, PlansByEnergy, LeastEnergy, PricedWithin, SamePower}
use Rattle.powers.proofs.Powers.{powers_fit}
use Rattle.planning.proofs.EnergyRefusals.{passed_sheet, passed_powers, energy_sheet, energy_bad, energy_clear}
use Rattle.answers.proofs.Promises.{plans_same}
use Rattle.answers.proofs.Answers.{checked_once, checked_result, checked_refused, chain_says, front_length}
use Rattle.planning.proofs.Theorems.{plan_once}

-- 'Exponents keep the plain weights': the same settings are allowed
pub energy_allowed : (powers : Powers) (job : Job) (n : ℕ) (g : Marks) → Allowed (energy_chain powers job) n g ↔ Allowed (chain_of job) n g
unfolding energy_chain chain_of
energy_allowed powers job n g =
    (λ a. record { setting = a.setting; stretches = a.stretches }, λ a. record { setting = a.setting; stretches = a.stretches })

-- every sheet that passes checks 1 to 8 has a plan by energy, whatever its energy is
pub energy_has_plan : (powers : Powers) (s : List ℕ) → sheet_refusal s ≡ 0 → HasLeast (energy_chain powers (job_of s)) (job_of s).tasks
energy_has_plan powers s z =
    let plan = sheet_has_plan s z in
    allowed_has_plan (energy_chain powers (job_of s)) (energy_rises powers (job_of s)) (job_of s).tasks (sheet_sound s z).some_task plan.marks
    ((energy_allowed powers (job_of s) (job_of s).tasks plan.marks).1 plan.plan.allowed)

-- checks 1 to 8 never give 29
sheet_other : (s : List ℕ) → sheet_refusal s ≢ Numbers.bad_power
unfolding sheet_refusal has
sheet_other s = first_other Numbers.bad_power (sheet_conditions s) (omega arith) refl

module _ (powers : Powers) (s : List ℕ) where
  pub energy_some_task : energy_refusal powers s ≡ 0 → 0 < (job_of s).tasks
  energy_some_task z = (sheet_sound s (passed_sheet powers s z)).some_task

  abbrev n : ℕ
  n = (job_of s).tasks

  abbrev chain : Chain
  chain = energy_chain powers (job_of s)

  -- a sheet, two powers and a lent buffer have one answer and one buffer afterwards, byte for byte
  pub energy_once : (before a b : List ℕ) (r q : Answer) → PlansByEnergy powers s before a r → PlansByEnergy powers s before b q → (r ≡ q) × (a ≡ b)
  energy_once = checked_once (energy_refusal powers s) chain (energy_rises powers (job_of s)) n energy_some_task

  -- marks that pass checks 9 and 10 are allowed in energy
  allowed_marks : (l : List ℕ) → first (marks_conditions (job_of s) l) ≡ 0 → Allowed chain n (marks_of l)
  allowed_marks l c = (energy_allowed powers (job_of s) n (marks_of l)).1 (checks_setting (job_of s) l c).1

  -- and an allowed setting is such marks, written as a list
  module _ (some : 0 < n) (g : Marks) (allowed : Allowed chain n g) where
    abbrev written : List ℕ
    written = tabulate n (λ j. g (suc j))

    same_marks : (v : ℕ) → 0 < v → v ≤ n → g v ≡ marks_of written v
    same_marks v h k =
        let e : suc (v - 1) ≡ v = omega arith in
        rw (mark_at written v h, get_d_tabulate n (λ j. g (suc j)) (v - 1) (omega arith), e)

    written_checks : first (marks_conditions (job_of s) written) ≡ 0
    written_checks =
        setting_checks (job_of s) written (length_tabulate n (λ j. g (suc j)))
        ((energy_allowed powers (job_of s) n (marks_of written)).0 (allowed_agree g (marks_of written) chain n some same_marks allowed))

    written_energy : energy_of powers (job_of s) written ≡ D chain g n
    unfolding energy_of
    written_energy = sym (D_agree g (marks_of written) chain n (λ j h k. same_marks j h (omega arith)))

  module _ (before after : List ℕ) (r : Answer) (p : PlansByEnergy powers s before after r) where
    -- whatever is refused gives 0 and writes no byte
    pub energy_refused : 0 < r.number → Refused r.number before after r
    energy_refused = checked_refused (energy_refusal powers s) chain (energy_rises powers (job_of s)) n energy_some_task before after r p

    says : energy_refusal powers s ≡ 0 → n ≤ length before → AnswerSays chain n before after r
    says z h = chain_says chain (energy_rises powers (job_of s)) n (energy_some_task z) before after r (p.plans z h)

    -- where a sheet passes checks 1 to 8, the powers fit and the buffer holds the marks
    module _ (passed : sheet_refusal s ≡ 0) (fit : PowersFit powers (job_of s)) (room : n ≤ length before) where
      clear : energy_refusal powers s ≡ 0
      clear = energy_clear powers s passed ((powers_fit powers (job_of s)).1 fit)

      -- 13 exactly when every allowed setting passes 2^34 - 1 in energy, and otherwise the plan by energy
      pub energy_says : AnswerSays chain n before after r
      energy_says = says clear room

      -- the same 13 in the words of a user's own marks
      pub energy_slow : (r.number ≡ Numbers.too_slow) ↔ ((l : List ℕ) → first (marks_conditions (job_of s) l) ≡ 0 → time_limit < energy_of powers (job_of s) l)
      unfolding energy_of
      energy_slow = (
        λ e l c. energy_says.slow.0 e (marks_of l) (allowed_marks l c),
        λ all.
            energy_says.slow.1
            (λ g a. let some = energy_some_task clear in rw (← (written_energy some g a)) (all (written some g a) (written_checks some g a))),
      )

    by_number : energy_refusal powers s ≡ 0 → (r.number ≡ Numbers.short_buffer) ⊎ ((r.number ≡ Numbers.too_slow) ⊎ (r.number ≡ Numbers.accepted))
    by_number z = go (dec_le n (length before))
      where
        go : Dec (n ≤ length before) → (r.number ≡ Numbers.short_buffer) ⊎ ((r.number ≡ Numbers.too_slow) ⊎ (r.number ≡ Numbers.accepted))
        go (yes h) = inr (says z h).no_other
        go (no h) = inl (p.short z (omega arith)).numbered

    -- where there is a result
    module _ (e : r.number ≡ Numbers.accepted) where
      result : ResultSays (energy_refusal powers s) chain n before after r
      result = checked_result (energy_refusal powers s) chain (energy_rises powers (job_of s)) n energy_some_task before after r p e

      -- its marks pass checks 9 and 10, their energy is the one given, and no marks that pass these checks take less; of equals it is the first
      pub energy_least : LeastEnergy powers s (take n after) r.time
      unfolding energy_of
      energy_least =
          record {
            allowed = setting_checks (job_of s) (take n after) (front_length chain n before result.free.room after r result.planned)
                ((energy_allowed powers (job_of s) n (marks_of (take n after))).0 result.planned.plan.allowed);
            exact = result.planned.plan.time;
            in_limit = result.planned.in_time;
            least = λ l c. result.planned.plan.least (marks_of l) (allowed_marks l c);
            first_of_equals = λ l c q. result.planned.plan.first (marks_of l) (allowed_marks l c) q;
          }

      -- so these marks have a price, which is at most the energy: no marks take more time than energy
      pub energy_priced : PricedWithin s (take n after) r.time
      unfolding price_of
      energy_priced =
          let fit = (powers_fit powers (job_of s)).0 (passed_powers powers s result.free.clear) in
          let l : List ℕ = take n after in
          let hours : time_of (job_of s) l ≤ r.time =
          le_trans (time_in_energy (job_of s) powers fit.computing_least fit.saving_least l) (le_of_eq energy_least.exact) in
          let none : price_refusal s l ≡ 0 =
          sym (slow_passes (time_of (job_of s) l) (omega (arith, hours, energy_least.in_limit))
          ∙ price_time s l (passed_sheet powers s result.free.clear) energy_least.allowed) in
          record { priced = answered_number (price_refusal s l) (time_of (job_of s) l) ∙ none; at_most = rw (answered_time _ _ none) hours }

      -- and the sheet passes checks 1 to 8, so its task count is in range
      pub energy_tasks : tasks s ≤ task_limit
      energy_tasks = (layout_tasks s (sheet_layout s (passed_sheet powers s result.free.clear))).few_tasks

    -- 29 exactly where the sheet passes 1 to 8 and the powers do not fit
    pub energy_29 : (r.number ≡ Numbers.bad_power) ↔ ((sheet_refusal s ≡ 0) × (PowersFit powers (job_of s) → ⊥))
    energy_29 = (there (eq-zero-or-pos (sheet_refusal s)) (bad_powers powers (job_of s)) refl, back)
      where
        not_29 : energy_refusal powers s ≡ 0 → r.number ≢ Numbers.bad_power
        not_29 z e = go (by_number z)
          where
            go : (r.number ≡ Numbers.short_buffer) ⊎ ((r.number ≡ Numbers.too_slow) ⊎ (r.number ≡ Numbers.accepted)) → ⊥
            go (inl q) = omega (arith, q, e)
            go (inr (inl q)) = omega (arith, q, e)
            go (inr (inr q)) = omega (arith, q, e)

        there : (sheet_refusal s ≡ 0) ⊎ (0 < sheet_refusal s) → (b : Bool) → bad_powers powers (job_of s) ≡ b → r.number ≡ Numbers.bad_power
            → (sheet_refusal s ≡ 0) × (PowersFit powers (job_of s) → ⊥)
        there (inl z) true q e = (z, λ f. true≢false (sym q ∙ (powers_fit powers (job_of s)).1 f))
        there (inl z) false q e = absurd (not_29 (energy_clear powers s z q) e)
        there (inr h) b q e =
            let first = energy_sheet powers s h in
            absurd (sheet_other s (sym first ∙ sym (p.checked (omega (arith, first))).numbered ∙ e))

        back : (sheet_refusal s ≡ 0) × (PowersFit powers (job_of s) → ⊥) → r.number ≡ Numbers.bad_power
        back h = go (bad_powers powers (job_of s)) refl
          where
            go : (b : Bool) → bad_powers powers (job_of s) ≡ b → r.number ≡ Numbers.bad_power
            go true q =
                let first = energy_bad powers s h.0 q in
                (p.checked (omega (arith, first))).numbered ∙ first
            go false q = absurd (h.1 ((powers_fit powers (job_of s)).0 q))

-- powers are their two numbers
powers_made : {a b c d : ℕ} → a ≡ c → b ≡ d → ◌≡◌ {A = Powers} (record { computing = a; saving = b }) (record { computing = c; saving = d })
powers_made e f = rw (e, f)

powers_same : (p q : Powers) → p.computing ≡ q.computing → p.saving ≡ q.saving → p ≡ q
powers_same p q c d = powers_made c d

-- 29 holds where a power is above 16
bad_above : (powers : Powers) (job : Job) → (most_power < powers.computing) ⊎ (most_power < powers.saving) → bad_powers powers job ≡ true
bad_above powers job h = go (bad_powers powers job) refl h
  where
    go : (b : Bool) → bad_powers powers job ≡ b → (most_power < powers.computing) ⊎ (most_power < powers.saving) → bad_powers powers job ≡ true
    go true q h = q
    go false q (inl h) = absurd (omega (arith, ((powers_fit powers job).0 q).computing_most))
    go false q (inr h) = absurd (omega (arith, ((powers_fit powers job).0 q).saving_most))

-- powers of any width: no plan tells those above the range apart, so a program may hand on 2^64 - 1 for any greater number
module _ (s before after : List ℕ) (r : Answer) where
  both_bad : (p q : Powers) → bad_powers p (job_of s) ≡ true → bad_powers q (job_of s) ≡ true → PlansByEnergy p s before after r → PlansByEnergy q s before after r
  both_bad p q a b plans = go (eq-zero-or-pos (sheet_refusal s))
    where
      refused : (k : ℕ) → 0 < k → energy_refusal p s ≡ k → energy_refusal q s ≡ k → PlansByEnergy q s before after r
      refused k h e f =
          record {
            checked = λ _. rw (f, ← e) (plans.checked (omega (arith, e)));
            short = λ z. absurd (omega (arith, f, z));
            plans = λ z. absurd (omega (arith, f, z));
          }

      go : (sheet_refusal s ≡ 0) ⊎ (0 < sheet_refusal s) → PlansByEnergy q s before after r
      go (inl z) = refused Numbers.bad_power (omega arith) (energy_bad p s z a) (energy_bad q s z b)
      go (inr h) = refused (sheet_refusal s) h (energy_sheet p s h) (energy_sheet q s h)

  pub wide_powers : (p q : Powers) → SamePower p.computing q.computing → SamePower p.saving q.saving
      → PlansByEnergy p s before after r → PlansByEnergy q s before after r
  wide_powers p q (inl c) (inl d) plans = rw (powers_same p q c d) at plans
  wide_powers p q (inr c) d plans = both_bad p q (bad_above p (job_of s) (inl c.0)) (bad_above q (job_of s) (inl c.1)) plans
  wide_powers p q (inl c) (inr d) plans = both_bad p q (bad_above p (job_of s) (inr d.0)) (bad_above q (job_of s) (inr d.1)) plans

module _ (s : List ℕ) where
  -- the powers 1 and 1 multiply nothing: they fit every sheet that passes checks 1 to 8
  plain_fit : sheet_refusal s ≡ 0 → PowersFit plain (job_of s)
  plain_fit z =
      record {
        computing_least = omega arith;
        computing_most = omega arith;
        saving_least = omega arith;
        saving_most = omega arith;
        products = plain_products (job_of s) (sheet_sound s z);
      }

  plain_refusal : energy_refusal plain s ≡ sheet_refusal s
  plain_refusal = go (eq-zero-or-pos (sheet_refusal s))
    where
      go : (sheet_refusal s ≡ 0) ⊎ (0 < sheet_refusal s) → energy_refusal plain s ≡ sheet_refusal s
      go (inl z) = energy_clear plain s z ((powers_fit plain (job_of s)).1 (plain_fit z)) ∙ sym z
      go (inr h) = energy_sheet plain s h

  plain_plans : (before after : List ℕ) (r : Answer) → PlansByEnergy plain s before after r → Plans s before after r
  plain_plans before after r p =
      record {
        checked = λ h. rw plain_refusal at (p.checked (rw plain_refusal h));
        short = λ z h. p.short (plain_refusal ∙ z) h;
        plans =
            λ z h.
            plans_same (job_of s).tasks (energy_chain plain (job_of s)) (chain_of (job_of s))
            (same_allowed _ _ _ (plain_same (job_of s).tasks (job_of s))) (sheet_sound s z).some_task before after r (p.plans (plain_refusal ∙ z) h);
      }

  -- the powers 1 and 1 give exactly the time plan: number, figure and buffer
  pub plain_is_plan : (before a b : List ℕ) (r q : Answer) → PlansByEnergy plain s before a r → Plans s before b q → (r ≡ q) × (a ≡ b)
  plain_is_plan before a b r q f g = plan_once s before a b r q (plain_plans before a r f) g

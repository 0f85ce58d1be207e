-- The equations as printed give what the planner gives, byte for byte, on every sheet but those of more than 8 tasks. Assumes nothing.
use Prim.Native.Nat.{ℕ, ◌≤◌, ◌<◌}
use mathlib.Core.Path.{◌≡◌, refl, sym, ◌∙◌}
use mathlib.Core.List.{List}
use mathlib.Core.Logic.{◌⊎◌, inl, inr, ◌≢◌}
use native.Mathlib.Decide.{dec_le}
use native.Mathlib.Nat.{eq-zero-or-pos}
use native.Mathlib.Omega.{arith}
use lib.ListN.{length}
use Rattle.units.specs.Limits.{none}
use Rattle.refusals.specs.Numbers
use Rattle.refusals.specs.Refusals.{has}
use Rattle.refusals.specs.declared.Answer.{Answer}
use Rattle.refusals.proofs.Refusals.{first_other}
use Rattle.sheet.specs.Reading.{job_of, sheet_conditions, sheet_refusal}
use Rattle.sheet.proofs.Readings.{sheet_sound}
use Rattle.chain.specs.Chain.{Chain}
use Rattle.chain.proofs.Lower.{least_d_lower}
use Rattle.chain.proofs.Theorems.{plan_is_least, plan_is_determined}
use Rattle.costs.specs.Stretch.{chain_of}
use Rattle.costs.proofs.Stretches.{S_rises}
use Rattle.answers.specs.Promise.{Planned}
use Rattle.planning.specs.Promise.{Plans}
use Rattle.planning.proofs.Theorems.{plan_once, plan_says}
use Rattle.equations.specs.Equations.{E_disk}
use Rattle.engine.specs.Promise.{printed_limit, printed_refusal, PlansAsPrinted, SameAsPlan}
use Rattle.engine.proofs.Answers.{printed_sheet, printed_long, printed_clear}

-- checks 1 to 8 never give 27
sheet_other : (s : List ℕ) → sheet_refusal s ≢ Numbers.long_chain
unfolding sheet_refusal has
sheet_other s = first_other Numbers.long_chain (sheet_conditions s) (omega arith) refl

-- nor does the planner
module _ (s before after : List ℕ) (r : Answer) (p : Plans s before after r) where
  plan_other : r.number ≢ Numbers.long_chain
  plan_other e = by_checks (eq-zero-or-pos (sheet_refusal s))
    where
      by_answer : (r.number ≡ Numbers.too_slow) ⊎ (r.number ≡ Numbers.accepted) → ⊥
      by_answer (inl z) = omega (arith, z, e)
      by_answer (inr z) = omega (arith, z, e)

      by_room : sheet_refusal s ≡ 0 → Dec ((job_of s).tasks ≤ length before) → ⊥
      by_room z (yes h) = by_answer (plan_says s before after r p z h).no_other
      by_room z (no h) = omega (arith, (p.short z (omega arith)).numbered, e)

      by_checks : (sheet_refusal s ≡ 0) ⊎ (0 < sheet_refusal s) → ⊥
      by_checks (inl z) = by_room z (dec_le (job_of s).tasks (length before))
      by_checks (inr h) = sheet_other s (sym (p.checked h).numbered ∙ e)

-- the same answer and the same buffer, byte for byte, but for 27
module _ (s before a b : List ℕ) (r q : Answer) (prints : PlansAsPrinted s before a r) (plans : Plans s before b q) where
  same_checks : printed_refusal s ≡ sheet_refusal s → SameAsPlan s a b r q
  same_checks e =
      let p : Plans s before a r = rw e at prints in
      let once = plan_once s before a b r q p plans in
      record {
        long = (
          λ z. absurd (plan_other s before a r p z),
          λ z. absurd (omega (arith, e, z.0, printed_long s z.0 z.1)),
        );
        answer = λ _. once.0;
        buffer = λ _. once.1;
      }

  long_chain_lem : sheet_refusal s ≡ 0 → printed_limit < (job_of s).tasks → SameAsPlan s a b r q
  long_chain_lem z h =
      let e = printed_long s z h in
      let number : r.number ≡ Numbers.long_chain = (prints.checked (omega (arith, e))).numbered ∙ e in
      record { long = (λ _. (z, h), λ _. number); answer = λ n. absurd (n number); buffer = λ n. absurd (n number) }

  pub printed_is_plan : SameAsPlan s a b r q
  printed_is_plan = by_checks (eq-zero-or-pos (sheet_refusal s))
    where
      by_length : sheet_refusal s ≡ 0 → Dec ((job_of s).tasks ≤ printed_limit) → SameAsPlan s a b r q
      by_length z (yes h) = same_checks (printed_clear s z h ∙ sym z)
      by_length z (no h) = long_chain_lem z (omega arith)

      by_checks : (sheet_refusal s ≡ 0) ⊎ (0 < sheet_refusal s) → SameAsPlan s a b r q
      by_checks (inl z) = by_length z (dec_le (job_of s).tasks printed_limit)
      by_checks (inr h) = same_checks (printed_sheet s h)

-- where there is a result
module _ (s before after : List ℕ) (r : Answer) (p : PlansAsPrinted s before after r) (e : r.number ≡ 0) where
  abbrev chain : Chain
  chain = chain_of (job_of s)

  abbrev n : ℕ
  n = (job_of s).tasks

  clear : sheet_refusal s ≡ 0
  clear = go (eq-zero-or-pos (sheet_refusal s))
    where
      go : (sheet_refusal s ≡ 0) ⊎ (0 < sheet_refusal s) → sheet_refusal s ≡ 0
      go (inl z) = z
      go (inr h) = absurd (omega (arith, (p.checked (omega (arith, printed_sheet s h))).numbered, printed_sheet s h))

  -- it is given only to a sheet of up to 8 tasks
  pub printed_tasks : n ≤ printed_limit
  printed_tasks = go (dec_le n printed_limit)
    where
      go : Dec (n ≤ printed_limit) → n ≤ printed_limit
      go (yes h) = h
      go (no h) =
          let long = printed_long s clear (omega arith) in
          absurd (omega (arith, (p.checked (omega (arith, long))).numbered, long))

  passed : printed_refusal s ≡ 0
  passed = printed_clear s clear printed_tasks

  planned : Planned chain n before after r
  planned = go (dec_le n (length before))
    where
      go : Dec (n ≤ length before) → Planned chain n before after r
      go (yes h) = (plan_says s before after r (rw (passed ∙ sym clear) at p) clear h).planned e
      go (no h) = absurd (omega (arith, (p.short passed (omega arith)).numbered))

  -- 'The total expected time needed to execute all the tasks T_1 to T_n is given by E_disk(n)', and that is its time
  pub printed_time : r.time ≡ E_disk chain none n
  printed_time =
      (plan_is_determined chain n _ _ r.time (E_disk chain none n) planned.plan
      (plan_is_least chain (S_rises (job_of s)) none n some
      (omega (arith, least_d_lower chain (S_rises (job_of s)) none n _ planned.plan.allowed some, planned.plan.time, planned.in_time)))).0
    where
      some : 0 < n
      some = (sheet_sound s clear).some_task

-- Request 107 on real sheets, by computing: sheets that meet what its theorems ask, with the answers that the planner gives them, results and 13; and two pairs
-- outside it, by a higher rate and by a split weight, whose second time is lower. Assumes nothing.
use Prim.Native.Nat.{ℕ, ◌≤◌, ◌<◌}
use mathlib.Core.Path.{◌≡◌, refl, ◌∙◌, ap}
use mathlib.Core.List.{List, [], ◌∷◌}
use mathlib.Core.Logic.{inl, inr}
use native.Mathlib.Omega.{arith}
use lib.Dec.{lit<, lit≤}
use lib.ListN.{length}
use Rattle.units.specs.Unit.{up}
use Rattle.units.specs.Limits.{time_limit, none}
use Rattle.lists.specs.Lists.{some, tabulate}
use Rattle.refusals.specs.Numbers
use Rattle.refusals.specs.Refusals.{first}
use Rattle.refusals.specs.Answers.{accepted, refused, answered}
use Rattle.refusals.specs.declared.Answer.{Answer}
use Rattle.growth.specs.Growth.{ceil_div, term, term_sum, growth_sum, growth, G, H}
use Rattle.chain.specs.Chain.{Chain}
use Rattle.chain.specs.Time.{last, times, D}
use Rattle.chain.specs.Working.Search.{Rising, least, reach_to, reach, to_verification, least_q, to_memory, least_m, to_disk, least_d}
use Rattle.job.specs.Job.{total, between, is_allowed, stretch_allowed}
use Rattle.job.specs.Checks.{bad_count, bad_cost, bad_weight, bad_value, bad_task}
use Rattle.job.specs.declared.Job.{Job}
use Rattle.header.specs.Header.{tasks, tasks_most, sections, offset, size, section, bad_length, bad_form, bad_tasks, bad_sections}
use Rattle.kinds.specs.Kinds.{kind, length_of, index_in, index_of, counted, not_one, one_of_each, wrong_length, bad_kinds}
use Rattle.extents.specs.Extents.{end_before, bad_extent, bad_extents, in_section, covered, stray_byte}
use Rattle.sheet.specs.Reading.{platform_of, weights_of, job_of, sheet_refusal}
use Rattle.fields.specs.Written.{field_bytes, fields}
use Rattle.writing.specs.Form.{pairs, lengths, together, form_of, form_one}
use Rattle.marks.specs.Marks.{bad_marks, bad_stretch, bad_stretches}
use Rattle.costs.specs.Costs.{v_at, cm_at, cd_at, rd_at, rm_at}
use Rattle.costs.specs.Stretch.{S, chain_of, time_of}
use Rattle.costs.specs.Energy.{energy_s, energy_chain}
use Rattle.costs.specs.Dearer.{Cost, DiskCopy, MemoryCopy, Verification, DiskRecovery, MemoryRecovery, cost_of, SameButCosts, OneRaised, CostsRaised}
use Rattle.costs.specs.declared.Powers.{Powers}
use Rattle.costs.proofs.Stretches.{S_rises, energy_rises}
use Rattle.costs.proofs.Dearer.{each, raised_by}
use Rattle.pricing.specs.Price.{price_refusal, price_of}
use Rattle.dearer.proofs.Checks.{cheaper_asked}
use Rattle.dearer.proofs.Dearer.{booking_holds}
use Rattle.answers.specs.Promise.{PlansChecked, Free}
use Rattle.planning.specs.Promise.{Plans}
use Rattle.powers.specs.Powers.{out_of_range, passes, bad_computing, saving_passes, bad_saving, bad_powers}
use Rattle.planning.specs.Energy.{energy_refusal}
use Rattle.answers.proofs.Answers.{plan_computed, slow_computed}
use Rattle.planning.proofs.Dearer.{plan_raised}
use Rattle.examples.specs.Starred.{header_a, platform_a, weights_a, sheet_a, powers}
use Rattle.examples.specs.Offers.{
  BothGiven,
  BothPlanned,
  BothByEnergy,
  weights_before,
  costs_a,
  two_tasks,
  raised_platform,
  raised_a,
  raised_time,
  all_raised_a,
  failing_a,
  near_limit,
  rated,
  one_task_a,
  RateRaised,
  WeightSplit,
}

-- what is computed: no check refuses, there are n tasks, and the search's least time, cut off at none, is t
record Computed (refusal count : ℕ) (c : Chain) (n t : ℕ) : Type 0 where
  clear : refusal ≡ 0
  tasks : count ≡ n
  some_task : 0 < n
  time : least_d c none count ≡ t

computed : {refusal count : ℕ} {c : Chain} {n t : ℕ} → refusal ≡ 0 → count ≡ n → 0 < n → least_d c none count ≡ t → Computed refusal count c n t
computed a b h c = record { clear = a; tasks = b; some_task = h; time = c }

-- so the planner gives that time, or 13 where it is none
module _ {refusal count : ℕ} {c : Chain} {n t : ℕ} (rises : Rising c) (is : Computed refusal count c n t) (before after : List ℕ) (r : Answer) (room : n ≤ length before)
    (plans : PlansChecked refusal c count before after r) where
  free : Free refusal count before
  free = record { clear = is.clear; room = omega (arith, is.tasks) }

  some_task : refusal ≡ 0 → 0 < count
  some_task _ = omega (arith, is.tasks, is.some_task)

  gives_time : t < none → r ≡ accepted t
  gives_time h = plan_computed refusal c rises count some_task before after r plans free (omega (arith, is.time)) ∙ ap accepted is.time

  gives_13 : none ≤ t → r ≡ refused Numbers.too_slow
  gives_13 h = slow_computed refusal c rises count some_task before after r plans free (omega (arith, is.time))

-- and so of two
module _ {refusal refusal' count count' : ℕ} {c c' : Chain} {n n' t t' : ℕ} (rises : Rising c) (rises' : Rising c')
    (is : Computed refusal count c n t) (is' : Computed refusal' count' c' n' t') where
  both : {a a' : Answer} → ((before after : List ℕ) (r : Answer) → n ≤ length before → PlansChecked refusal c count before after r → r ≡ a)
      → ((before after : List ℕ) (r : Answer) → n' ≤ length before → PlansChecked refusal' c' count' before after r → r ≡ a')
      → BothGiven refusal refusal' (PlansChecked refusal c count) (PlansChecked refusal' c' count') n n' a a'
  both p p' = record { clear = is.clear; clear' = is'.clear; given = p; given' = p' }

  both_times : t < none → t' < none → BothGiven refusal refusal' (PlansChecked refusal c count) (PlansChecked refusal' c' count') n n' (accepted t) (accepted t')
  both_times h h' = both (λ b a r l p. gives_time rises is b a r l p h) (λ b a r l p. gives_time rises' is' b a r l p h')

  then_13 : t < none → none ≤ t'
      → BothGiven refusal refusal' (PlansChecked refusal c count) (PlansChecked refusal' c' count') n n' (accepted t) (refused Numbers.too_slow)
  then_13 h h' = both (λ b a r l p. gives_time rises is b a r l p h) (λ b a r l p. gives_13 rises' is' b a r l p h')

  both_13 : none ≤ t → none ≤ t'
      → BothGiven refusal refusal' (PlansChecked refusal c count) (PlansChecked refusal' c' count') n n' (refused Numbers.too_slow) (refused Numbers.too_slow)
  both_13 h h' = both (λ b a r l p. gives_13 rises is b a r l p h) (λ b a r l p. gives_13 rises' is' b a r l p h')

-- by time, and by energy
abbrev Timed : (s : List ℕ) (n t : ℕ) → Type 0
Timed s n t = Computed (sheet_refusal s) (job_of s).tasks (chain_of (job_of s)) n t

abbrev Billed : Powers → (s : List ℕ) (n t : ℕ) → Type 0
Billed p s n t = Computed (energy_refusal p s) (job_of s).tasks (energy_chain p (job_of s)) n t

same_but_costs : {a b : Job} → a.tasks ≡ b.tasks → a.weights ≡ b.weights → a.platform.failstop ≡ b.platform.failstop
    → a.platform.silent ≡ b.platform.silent → SameButCosts a b
same_but_costs n w f s = record { tasks = n; weights = w; failstop = f; silent = s }

-- all that is computed
record Facts : Type 0 where
  A : Timed sheet_a 2 726347
  values_A : form_one (costs_a 5000 1000 928 4000 1000) two_tasks ≡ sheet_a
  one : (k : Cost) → Timed (raised_a k) 2 (raised_time k)
  one_below : (k : Cost) → raised_time k < none
  one_raised : (k : Cost) → OneRaised k (job_of sheet_a) (job_of (raised_a k))
  all : Timed all_raised_a 2 730255
  all_raised : CostsRaised (job_of sheet_a) (job_of all_raised_a)
  failing : Timed (failing_a 4000) 2 779611
  failing_dearer : Timed (failing_a 9000) 2 781421
  failing_raised : OneRaised DiskRecovery (job_of (failing_a 4000)) (job_of (failing_a 9000))
  limit : Timed (near_limit 0) 1 time_limit
  past : Timed (near_limit 1) 1 none
  further : Timed (near_limit 2) 1 none
  limit_raised : OneRaised DiskCopy (job_of (near_limit 0)) (job_of (near_limit 1))
  past_raised : OneRaised DiskCopy (job_of (near_limit 1)) (job_of (near_limit 2))
  energy : Billed (powers 3 5) sheet_a 2 2196472
  energy_dearer : Billed (powers 3 5) (raised_a DiskCopy) 2 2201472
  price : price_of sheet_a (3 ∷ 3 ∷ []) ≡ accepted 731347
  price_dearer : price_of (raised_a DiskCopy) (3 ∷ 3 ∷ []) ≡ accepted 733347
  rate : Timed (rated 0) 2 2203131339
  higher_rate : Timed (rated 1) 2 2203131212
  rate_raised : RateRaised (job_of (rated 0)) (job_of (rated 1))
  one_task : Timed one_task_a 1 1949854
  weight_split : WeightSplit (job_of one_task_a) (job_of sheet_a)

facts : Facts
unfolding up
    some tabulate
    first
    answered
    ceil_div term term_sum growth_sum growth G H
    last times D
    least reach_to reach to_verification least_q to_memory least_m to_disk least_d
    total between is_allowed stretch_allowed
    bad_count bad_cost bad_weight bad_value bad_task
    tasks tasks_most sections offset size section bad_length bad_form bad_tasks bad_sections
    end_before bad_extent bad_extents in_section covered stray_byte
    kind length_of index_in index_of counted not_one one_of_each wrong_length bad_kinds
    platform_of weights_of job_of sheet_refusal
    field_bytes fields pairs lengths together form_of form_one
    bad_marks bad_stretch bad_stretches
    v_at cm_at cd_at rd_at rm_at
    S chain_of time_of
    energy_s energy_chain
    cost_of
    price_refusal price_of
    out_of_range passes bad_computing saving_passes bad_saving bad_powers energy_refusal
    header_a platform_a weights_a sheet_a
    weights_before costs_a two_tasks raised_platform raised_a raised_time all_raised_a failing_a near_limit rated one_task_a
facts =
    record {
      A = computed refl refl (lit< tt) refl;
      values_A = refl;
      one =
          each (λ k. Timed (raised_a k) 2 (raised_time k))
          (computed refl refl (lit< tt) refl)
          (computed refl refl (lit< tt) refl)
          (computed refl refl (lit< tt) refl)
          (computed refl refl (lit< tt) refl)
          (computed refl refl (lit< tt) refl);
      one_below = each (λ k. raised_time k < none) (lit< tt) (lit< tt) (lit< tt) (lit< tt) (lit< tt);
      one_raised =
          each (λ k. OneRaised k (job_of sheet_a) (job_of (raised_a k)))
          (raised_by DiskCopy (same_but_costs refl refl refl refl) (lit≤ tt) (inl refl) (inr refl) (inr refl) (inr refl) (inr refl))
          (raised_by MemoryCopy (same_but_costs refl refl refl refl) (lit≤ tt) (inr refl) (inl refl) (inr refl) (inr refl) (inr refl))
          (raised_by Verification (same_but_costs refl refl refl refl) (lit≤ tt) (inr refl) (inr refl) (inl refl) (inr refl) (inr refl))
          (raised_by DiskRecovery (same_but_costs refl refl refl refl) (lit≤ tt) (inr refl) (inr refl) (inr refl) (inl refl) (inr refl))
          (raised_by MemoryRecovery (same_but_costs refl refl refl refl) (lit≤ tt) (inr refl) (inr refl) (inr refl) (inr refl) (inl refl));
      all = computed refl refl (lit< tt) refl;
      all_raised =
          record {
            others = same_but_costs refl refl refl refl;
            costs = each (λ k. cost_of k (job_of sheet_a).platform ≤ cost_of k (job_of all_raised_a).platform) (lit≤ tt) (lit≤ tt) (lit≤ tt) (lit≤ tt) (lit≤ tt);
          };
      failing = computed refl refl (lit< tt) refl;
      failing_dearer = computed refl refl (lit< tt) refl;
      failing_raised = raised_by DiskRecovery (same_but_costs refl refl refl refl) (lit≤ tt) (inr refl) (inr refl) (inr refl) (inl refl) (inr refl);
      limit = computed refl refl (lit< tt) refl;
      past = computed refl refl (lit< tt) refl;
      further = computed refl refl (lit< tt) refl;
      limit_raised = raised_by DiskCopy (same_but_costs refl refl refl refl) (lit≤ tt) (inl refl) (inr refl) (inr refl) (inr refl) (inr refl);
      past_raised = raised_by DiskCopy (same_but_costs refl refl refl refl) (lit≤ tt) (inl refl) (inr refl) (inr refl) (inr refl) (inr refl);
      energy = computed refl refl (lit< tt) refl;
      energy_dearer = computed refl refl (lit< tt) refl;
      price = refl;
      price_dearer = refl;
      rate = computed refl refl (lit< tt) refl;
      higher_rate = computed refl refl (lit< tt) refl;
      rate_raised =
          record {
            tasks = refl;
            weights = refl;
            failstop = refl;
            silent = lit< tt;
            costs = each (λ k. cost_of k (job_of (rated 0)).platform ≡ cost_of k (job_of (rated 1)).platform) refl refl refl refl refl;
          };
      one_task = computed refl refl (lit< tt) refl;
      weight_split = record { one_task = refl; tasks_are_two = refl; weight = refl; platform = refl };
    }

-- A's sheet by its values
pub A_by_values : form_one (costs_a 5000 1000 928 4000 1000) two_tasks ≡ sheet_a
A_by_values = facts.values_A

-- A and A with one cost raised, in the other order of its sections: both get results
pub one_compared : (k : Cost) → OneRaised k (job_of sheet_a) (job_of (raised_a k)) × BothPlanned sheet_a (raised_a k) 2 2 (accepted 726347) (accepted (raised_time k))
one_compared k = (facts.one_raised k, both_times (S_rises (job_of sheet_a)) (S_rises (job_of (raised_a k))) facts.A (facts.one k) (lit< tt) (facts.one_below k))

-- so the theorem speaks of them: the time of the dearer plan, with whatever buffer, is not under A's with another
pub one_booking : (k : Cost) (before after before' after' : List ℕ) (r r' : Answer) → 2 ≤ length before → 2 ≤ length before'
    → Plans sheet_a before after r → Plans (raised_a k) before' after' r' → r.time ≤ r'.time
one_booking k before after before' after' r r' room room' plans plans' =
    let both = (one_compared k).1 in
    let raised = (one_compared k).0 in
    let number : r'.number ≡ Numbers.accepted = ap (λ q. q.number) (both.given' before' after' r' room' plans') in
    (booking_holds (plan_raised k sheet_a (raised_a k) raised before after before' after' r r' plans plans')
    (record { clear = cheaper_asked sheet_a both.clear; room = omega (arith, facts.A.tasks) }) number).1

-- with all five raised
pub all_compared : CostsRaised (job_of sheet_a) (job_of all_raised_a) × BothPlanned sheet_a all_raised_a 2 2 (accepted 726347) (accepted 730255)
all_compared = (facts.all_raised, both_times (S_rises (job_of sheet_a)) (S_rises (job_of all_raised_a)) facts.A facts.all (lit< tt) (lit< tt))

-- R_D where the plan recovers from disk
pub recovery_compared : OneRaised DiskRecovery (job_of (failing_a 4000)) (job_of (failing_a 9000))
    × BothPlanned (failing_a 4000) (failing_a 9000) 2 2 (accepted 779611) (accepted 781421)
recovery_compared = (facts.failing_raised, both_times (S_rises (job_of (failing_a 4000))) (S_rises (job_of (failing_a 9000))) facts.failing facts.failing_dearer (lit< tt) (lit< tt))

-- one tick more on the disk copy, and a result at the limit becomes 13; another, and 13 stays
pub limit_compared : OneRaised DiskCopy (job_of (near_limit 0)) (job_of (near_limit 1))
    × BothPlanned (near_limit 0) (near_limit 1) 1 1 (accepted time_limit) (refused Numbers.too_slow)
limit_compared = (facts.limit_raised, then_13 (S_rises (job_of (near_limit 0))) (S_rises (job_of (near_limit 1))) facts.limit facts.past (lit< tt) (lit≤ tt))

pub past_compared : OneRaised DiskCopy (job_of (near_limit 1)) (job_of (near_limit 2))
    × BothPlanned (near_limit 1) (near_limit 2) 1 1 (refused Numbers.too_slow) (refused Numbers.too_slow)
past_compared = (facts.past_raised, both_13 (S_rises (job_of (near_limit 1))) (S_rises (job_of (near_limit 2))) facts.past facts.further (lit≤ tt) (lit≤ tt))

-- by energy, and the price of marks 33
pub energy_compared : BothByEnergy (powers 3 5) sheet_a (raised_a DiskCopy) 2 2 (accepted 2196472) (accepted 2201472)
energy_compared =
    both_times (energy_rises (powers 3 5) (job_of sheet_a)) (energy_rises (powers 3 5) (job_of (raised_a DiskCopy))) facts.energy facts.energy_dearer
    (lit< tt) (lit< tt)

pub price_compared : (price_of sheet_a (3 ∷ 3 ∷ []) ≡ accepted 731347) × (price_of (raised_a DiskCopy) (3 ∷ 3 ∷ []) ≡ accepted 733347)
price_compared = (facts.price, facts.price_dearer)

-- outside it: a higher rate, and a lower time; one task's weight in two, and a lower time
pub rate_compared : RateRaised (job_of (rated 0)) (job_of (rated 1)) × BothPlanned (rated 0) (rated 1) 2 2 (accepted 2203131339) (accepted 2203131212)
rate_compared = (facts.rate_raised, both_times (S_rises (job_of (rated 0))) (S_rises (job_of (rated 1))) facts.rate facts.higher_rate (lit< tt) (lit< tt))

pub split_compared : WeightSplit (job_of one_task_a) (job_of sheet_a) × BothPlanned one_task_a sheet_a 1 2 (accepted 1949854) (accepted 726347)
split_compared = (facts.weight_split, both_times (S_rises (job_of one_task_a)) (S_rises (job_of sheet_a)) facts.one_task facts.A (lit< tt) (lit< tt))

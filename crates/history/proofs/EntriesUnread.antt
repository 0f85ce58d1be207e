-- Entries past task n are carried along unread. Each test of 21 reads weights and marks below n only, and an event in its turn strikes at a position
-- up to n; so entries that agree below n give the same number and the same next place. Assumes nothing.
use Prim.Native.Nat.{ℕ, zero, suc, ◌≤◌, ◌<◌}
use mathlib.Core.Path.{◌≡◌, refl, sym, ◌∙◌, ap}
use mathlib.Core.Bool.{Bool, true, false, cond}
use mathlib.Core.List.{List, ◌∷◌}
use native.Mathlib.Decide.{dec_le, ℕ_discrete}
use native.Mathlib.Omega.{arith}
use borrow.Author.Tests.{lt-ltb, eq-eqb, ne_eqb}
use lib.Dec.{eqb}
use lib.ListN.{length, take, get_or}
use lib.Seq.{get_or-take}
use Rattle.lists.specs.Lists.{some}
use Rattle.refusals.specs.Numbers
use Rattle.refusals.specs.Refusals.{Condition, refusal, first}
use Rattle.chain.specs.Time.{verification, memory, disk, last}
use Rattle.chain.proofs.Equations.{last_le}
use Rattle.chain.proofs.Agree.{last_agree}
use Rattle.job.specs.Job.{weight_at, total, between, stretch_allowed}
use Rattle.job.specs.Checks.{bad_weight, bad_value, bad_task}
use Rattle.marks.specs.Marks.{marks_of, bad_stretch, bad_stretches}
use Rattle.costs.specs.Costs.{v_at, cm_at, cd_at, rd_at, rm_at, verify_paid, saves_paid}
use Rattle.events.specs.Events.{last_memory, last_disk, after_done, after_passed, back_to_memory, back_to_disk, place_after}
use Rattle.following.specs.Run.{next_place, out_of_turn, over_weight, step_refusal, standing, accepted, refused, step_of}
use Rattle.rules.specs.Rules.{marks_in, awaits, broken_values, bad_awaiting, over_total, broken_place, broken, finished}
use Rattle.state.specs.declared.Run.{Run}
use Rattle.events.specs.declared.Event.{Event}
use Rattle.events.specs.declared.Event.TheVariants.{Done, Passed, Failed, Stopped}
use Rattle.state.specs.declared.Place.{Place}
use Rattle.following.specs.declared.Stepped.{Stepped}
use Rattle.rules.proofs.Copies.{last_up_to}
use Rattle.rules.proofs.Soundness.{run_place}
use Rattle.following.proofs.Steps.{step_accepted, task_runs}
use Rattle.logs.specs.Log.{record_count, record_at, bad_record, event_of, recorded, applied, or_before, empty_log, log_of}
use Rattle.history.specs.Entries.{with_entries, answer_with, Agree}

-- lists that agree up to n agree at each entry below n
below : (n : ℕ) (l k : List ℕ) → take n l ≡ take n k → (j : ℕ) → j < n → get_or l j 0 ≡ get_or k j 0
below n l k e j h = sym (get_or-take n l j 0 h) ∙ ap (λ (x : List ℕ). get_or x j 0) e ∙ get_or-take n k j 0 h

-- a test below n and a total up to n go by the entries below n
some_same : (n : ℕ) (p q : ℕ → Bool) → ((j : ℕ) → j < n → p j ≡ q j) → some n p ≡ some n q
unfolding some
some_same zero p q e = refl
some_same (suc n) p q e = rw (some_same n p q (λ j h. e j (omega arith)), e n (omega arith))

total_same : (l k : List ℕ) (n : ℕ) → ((j : ℕ) → j < n → get_or l j 0 ≡ get_or k j 0) → total l n ≡ total k n
unfolding total
total_same l k zero e = refl
total_same l k (suc n) e = rw (total_same l k n (λ j h. e j (omega arith)), e n (omega arith))

-- two lists of conditions with the same numbers, where a condition that fails in both leaves the decision to the rest
first_same : (n : ℕ) (a b : Bool) (cs ds : List Condition) → a ≡ b → (a ≡ false → first cs ≡ first ds) → first (refusal n a ∷ cs) ≡ first (refusal n b ∷ ds)
unfolding first
first_same n a b cs ds e h = rw (← e) (go a h)
  where
    go : (x : Bool) → (x ≡ false → first cs ≡ first ds) → cond x n (first cs) ≡ cond x n (first ds)
    go true r = refl
    go false r = r refl

module _ (run : Run) (w m : List ℕ) (agree : Agree run w m) where
  abbrev other : Run
  other = with_entries run w m

  weight_same : (j : ℕ) → j < run.job.tasks → weight_at w j ≡ weight_at run.job.weights j
  weight_same = below run.job.tasks w run.job.weights agree.same_weights

  totals_same : (v : ℕ) → v ≤ run.job.tasks → total w v ≡ total run.job.weights v
  totals_same v h = total_same w run.job.weights v (λ j l. weight_same j (omega arith))

  between_same : (u v : ℕ) → u ≤ v → v ≤ run.job.tasks → between w u v ≡ between run.job.weights u v
  unfolding between
  between_same u v h l = rw (totals_same u (omega arith), totals_same v l)

  mark_same : (p : ℕ) → p ≤ run.job.tasks → marks_of m p ≡ marks_in run p
  mark_same zero h = refl
  mark_same (suc j) h = below run.job.tasks m run.marks agree.same_marks j h

  copy_same : (k v : ℕ) → v ≤ suc run.job.tasks → last k (marks_of m) v ≡ last k (marks_in run) v
  copy_same k v h = last_agree (marks_of m) (marks_in run) k v (λ p a b. mark_same p (omega arith))

  value_same : bad_value other.job ≡ bad_value run.job
  unfolding bad_value bad_weight
  value_same =
      rw (some_same run.job.tasks (bad_weight w) (bad_weight run.job.weights) (λ j h. rw (weight_same j h)), totals_same run.job.tasks (omega arith))

  task_same : bad_task other.job ≡ bad_task run.job
  unfolding bad_task
  task_same = some_same run.job.tasks _ _ (λ j h. rw (weight_same j h))

  stretches_same : (l : List ℕ) → bad_stretches other.job l ≡ bad_stretches run.job l
  unfolding bad_stretches bad_stretch stretch_allowed
  stretches_same l =
      some_same run.job.tasks _ _
      (λ j h. rw (between_same (last verification (marks_of l) (suc j)) (suc j) (last_le verification (marks_of l) (suc j)) h))

  values_same : broken_values other.job (take run.job.tasks m) ≡ broken_values run.job (take run.job.tasks run.marks)
  unfolding broken_values
  values_same = rw (value_same, task_same, agree.same_marks, stretches_same (take run.job.tasks run.marks))

  place_same : broken_place other.job (marks_of m) run.place ≡ broken_place run.job (marks_in run) run.place
  unfolding broken_place bad_awaiting
  place_same = go (dec_le run.place.position run.job.tasks)
    where
      go : Dec (run.place.position ≤ run.job.tasks)
          → broken_place (with_entries run w m).job (marks_of m) run.place ≡ broken_place run.job (marks_in run) run.place
      go (yes h) = rw (mark_same run.place.position h, totals_same run.place.position h)
      go (no h) = rw (lt-ltb run.job.tasks run.place.position (omega arith))

  broken_same : broken other ≡ broken run
  unfolding broken
  broken_same = rw (values_same, place_same)

  -- an event in its turn
  module _ (right : broken run ≡ false) (unfinished : finished run ≡ false) where
    within : run.place.position ≤ run.job.tasks
    within = (run_place run right).position

    weight_over : (e : Event) → out_of_turn (awaits run.place) e ≡ false → over_weight other e ≡ over_weight run e
    unfolding out_of_turn over_weight
    weight_over Done t = refl
    weight_over Passed t = refl
    weight_over Failed t = refl
    weight_over (Stopped lost) t = rw (weight_same run.place.position (task_runs run right unfinished t))

    next_same : (e : Event) → out_of_turn (awaits run.place) e ≡ false → next_place other e ≡ next_place run e
    unfolding out_of_turn next_place place_after after_done after_passed back_to_memory back_to_disk verify_paid saves_paid v_at cm_at cd_at rd_at rm_at
    next_same Done t =
        let l = task_runs run right unfinished t in
        rw (mark_same (suc run.place.position) l, weight_same run.place.position l)
    next_same Passed t = rw (mark_same run.place.position within)
    next_same Failed t =
        let p : ℕ = run.place.position in
        rw (
          copy_same memory p (omega (arith, within)),
          between_same (last_memory (marks_in run) p) p (last_le memory (marks_in run) p) within,
        )
    next_same (Stopped lost) t =
        let p : ℕ = run.place.position in
        rw (
          copy_same disk (suc p) (omega (arith, within)),
          between_same (last_disk (marks_in run) p) p (last_up_to disk (marks_in run) p) within,
        )

  refusal_same : (e : Event) → step_refusal other e ≡ step_refusal run e
  unfolding step_refusal finished
  refusal_same e =
      first_same Numbers.broken _ _ _ _ broken_same
      (λ b. first_same Numbers.finished _ _ _ _ refl
      (λ f. let right = sym broken_same ∙ b in
      first_same Numbers.out_of_turn _ _ _ _ refl
      (λ t. first_same Numbers.over_weight _ _ _ _ (weight_over right f e t)
      (λ o. first_same Numbers.over_total _ _ _ _ (ap (λ (p : Place). over_total p.sums) (next_same right f e t)) (λ z. refl)))))

  step_unread : (e : Event) → step_of (with_entries run w m) e ≡ answer_with (step_of run e) w m
  unfolding step_of
  step_unread e = rw (refusal_same e) (go (ℕ_discrete (step_refusal run e) 0))
    where
      go : Dec (step_refusal run e ≡ 0)
          → ◌≡◌ {A = Stepped}
          (record {
            number = step_refusal run e;
            run = cond (eqb (step_refusal run e) 0) (standing (with_entries run w m) (next_place (with_entries run w m) e)) (with_entries run w m);
          })
          (record { number = step_refusal run e; run = with_entries (cond (eqb (step_refusal run e) 0) (standing run (next_place run e)) run) w m })
      go (yes z) =
          let a = step_accepted run e z in
          rw (eq-eqb _ _ z, next_same a.unbroken a.unfinished e a.in_turn_lem)
      go (no z) = rw (ne_eqb _ _ z)

-- entries past task n change no answer and are carried along unread
pub unread_past_n : (run : Run) (w m : List ℕ) → take run.job.tasks w ≡ take run.job.tasks run.job.weights
    → take run.job.tasks m ≡ take run.job.tasks run.marks → (e : Event) → step_of (with_entries run w m) e ≡ answer_with (step_of run e) w m
unread_past_n run w m sw sm = step_unread run w m (record { same_weights = sw; same_marks = sm })

-- a state after another has its job and its marks
record SameSheet (run after : Run) : Type 0 where
  job : after.job ≡ run.job
  marks : after.marks ≡ run.marks

same_sheet : (run : Run) → SameSheet run run
same_sheet run = record { job = refl; marks = refl }

step_same_sheet : (run : Run) (e : Event) → SameSheet run (step_of run e).run
unfolding step_of
step_same_sheet run e = go (eqb (step_refusal run e) 0)
  where
    go : (b : Bool) → SameSheet run (cond b (standing run (next_place run e)) run)
    go true = record { job = refl; marks = refl }
    go false = same_sheet run

recorded_same_sheet : (s : Stepped) (r : List ℕ) → SameSheet s.run (recorded s r).run
unfolding recorded
recorded_same_sheet s r = go (eqb s.number 0) (bad_record r)
  where
    go : (a b : Bool) → SameSheet s.run (cond a (cond b (refused Numbers.bad_record s.run) (step_of s.run (event_of r))) s).run
    go true true = same_sheet s.run
    go true false = step_same_sheet s.run (event_of r)
    go false b = same_sheet s.run

applied_same_sheet : (run : Run) (log : List ℕ) (k : ℕ) → SameSheet run (applied run log k).run
unfolding applied
applied_same_sheet run log zero = same_sheet run
applied_same_sheet run log (suc k) =
    let before = applied_same_sheet run log k in
    let after = recorded_same_sheet (applied run log k) (record_at log k) in
    record { job = after.job ∙ before.job; marks = after.marks ∙ before.marks }

agree_after : {run after : Run} {w m : List ℕ} → SameSheet run after → Agree run w m → Agree after w m
agree_after c a = record { same_weights = rw c.job a.same_weights; same_marks = rw (c.job, c.marks) a.same_marks }

recorded_unread : (s : Stepped) (r w m : List ℕ) → Agree s.run w m → recorded (answer_with s w m) r ≡ answer_with (recorded s r) w m
unfolding recorded
recorded_unread s r w m a = rw (step_unread s.run w m a (event_of r)) (go (eqb s.number 0) (bad_record r))
  where
    go : (x y : Bool) → cond x (cond y (refused Numbers.bad_record (with_entries s.run w m)) (answer_with (step_of s.run (event_of r)) w m)) (answer_with s w m)
        ≡ answer_with (cond x (cond y (refused Numbers.bad_record s.run) (step_of s.run (event_of r))) s) w m
    go true true = refl
    go true false = refl
    go false y = refl

module _ (run : Run) (w m : List ℕ) (agree : Agree run w m) where
  applied_unread : (log : List ℕ) (k : ℕ) → applied (with_entries run w m) log k ≡ answer_with (applied run log k) w m
  unfolding applied
  applied_unread log zero = refl
  applied_unread log (suc k) =
      rw (applied_unread log k) (recorded_unread (applied run log k) (record_at log k) w m (agree_after (applied_same_sheet run log k) agree))

  empty_unread : empty_log (with_entries run w m) ≡ answer_with (empty_log run) w m
  unfolding empty_log
  empty_unread = rw (broken_same run w m agree) (go (broken run))
    where
      go : (b : Bool) → cond b (refused Numbers.broken (with_entries run w m)) (accepted (with_entries run w m))
          ≡ answer_with (cond b (refused Numbers.broken run) (accepted run)) w m
      go true = refl
      go false = refl

  before_unread : (s : Stepped) → or_before (with_entries run w m) (answer_with s w m) ≡ answer_with (or_before run s) w m
  unfolding or_before
  before_unread s = go (eqb s.number 0)
    where
      go : (b : Bool) → cond b (answer_with s w m) (refused s.number (with_entries run w m)) ≡ answer_with (cond b s (refused s.number run)) w m
      go true = refl
      go false = refl

  log_answer : (log : List ℕ) (b : Bool)
      → cond b (empty_log (with_entries run w m)) (or_before (with_entries run w m) (applied (with_entries run w m) log (record_count log)))
      ≡ answer_with (cond b (empty_log run) (or_before run (applied run log (record_count log)))) w m
  log_answer log true = empty_unread
  log_answer log false = rw (applied_unread log (record_count log)) (before_unread (applied run log (record_count log)))

-- the same of a whole log
pub log_unread_past_n : (run : Run) (w m : List ℕ) → take run.job.tasks w ≡ take run.job.tasks run.job.weights
    → take run.job.tasks m ≡ take run.job.tasks run.marks → (log : List ℕ) → log_of (with_entries run w m) log ≡ answer_with (log_of run log) w m
unfolding log_of
log_unread_past_n run w m sw sm log = log_answer run w m (record { same_weights = sw; same_marks = sm }) log (eqb (length log) 0)

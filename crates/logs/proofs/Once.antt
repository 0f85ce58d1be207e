-- Testing 21 once, before the first event, is the same as testing it at each record: an accepted record leaves a state that 21 accepts, and from such a state
-- a step is 22 to 25 alone. Assumes nothing.
use Prim.Native.Nat.{ℕ, zero, suc, ◌+◌, ◌≤◌, ◌<◌}
use mathlib.Core.Path.{◌≡◌, refl, sym, ◌∙◌, ap}
use mathlib.Core.Bool.{Bool, true, false, not, cond, false≢true, true≢false}
use mathlib.Core.List.{List}
use native.Mathlib.Decide.{ℕ_discrete}
use native.Mathlib.Numerals.{add-one}
use native.Mathlib.Omega.{arith}
use Rattle.std.proofs.Common.{rules}
use borrow.Author.Tests.{eq-eqb, ne_eqb}
use lib.Dec.{eqb}
use lib.ListN.{length}
use Rattle.refusals.specs.Numbers
use Rattle.refusals.specs.Refusals.{first}
use Rattle.rules.specs.Rules.{broken}
use Rattle.following.specs.Run.{next_place, standing, step_of, stepped, accepted, refused}
use Rattle.following.specs.Working.Lent.{event_refusal, step_on}
use Rattle.following.proofs.Steps.{step_broken, step_on_lem, step_on_accepted, step_on_refused}
use Rattle.following.proofs.Unbroken.{step_keeps_sound}
use Rattle.state.specs.declared.Place.{Place}
use Rattle.state.specs.declared.Run.{Run}
use Rattle.events.specs.declared.Event.{Event}
use Rattle.following.specs.declared.Stepped.{Stepped}
use Rattle.carried.specs.declared.Carried.{Carried}
use Rattle.std.specs.Prelude.{Result, Ok, Err, Option, Some, None}
use Rattle.refusals.specs.Checks.{number, told}
use Rattle.refusals.proofs.Checks.{number_positive}
use Rattle.std.specs.Option.{is_some}
use Rattle.std.specs.Result.{IsErr}
use Rattle.refusals.specs.declared.Refusal.{Refusal}
use Rattle.logs.specs.Log.{record_count, record_at, bad_record, event_of, read_event, recorded, applied, or_before, empty_log, log_of}
use Rattle.logs.specs.Working.Once.{bad_first, refusal_before, recorded_on, applied_on, Ends, stood}
use Rattle.logs.proofs.Records.{recorded_bad, recorded_event, recorded_accepted, applied_suc, applied_stays, applied_first}

-- an accepted record leaves a state that 21 accepts
pub recorded_unbroken : (s : Stepped) (r : List ℕ) → (recorded s r).number ≡ 0 → broken (recorded s r).run ≡ false
recorded_unbroken s r z =
    let clear = recorded_accepted s r z in
    let event : recorded s r ≡ step_of s.run (event_of r) = recorded_event s r clear.1 ∙ rw (eq-eqb _ _ clear.0) in
    rw event (step_keeps_sound s.run (event_of r) (λ b. omega (arith, ap (λ (t : Stepped). t.number) event, b, z)))

pub applied_unbroken : (run : Run) (log : List ℕ) (k : ℕ) → 0 < k → (applied run log k).number ≡ 0 → broken (applied run log k).run ≡ false
applied_unbroken run log zero h z = absurd (omega arith)
applied_unbroken run log (suc k) h z =
    rw (applied_suc run log k) (recorded_unbroken (applied run log k) (record_at log k) (ap (λ (s : Stepped). s.number) (sym (applied_suc run log k)) ∙ z))

-- from a state that 21 accepts, a record is the same whether 21 is asked or not
recorded_on_lem : (s : Stepped) (r : List ℕ) → (s.number ≡ 0 → broken s.run ≡ false) → recorded s r ≡ recorded_on s r
unfolding recorded recorded_on
recorded_on_lem s r right = go (ℕ_discrete s.number 0)
  where
    go : Dec (s.number ≡ 0) → recorded s r ≡ recorded_on s r
    go (yes z) = rw (step_on_lem s.run (right z) (event_of r))
    go (no z) = rw (ne_eqb _ _ z)

module _ (run : Run) (log : List ℕ) (right : broken run ≡ false) where
  stays_unbroken : (k : ℕ) → (applied run log k).number ≡ 0 → broken (applied run log k).run ≡ false
  unfolding applied
  stays_unbroken zero z = right
  stays_unbroken (suc k) z = applied_unbroken run log (suc k) (omega arith) z

  -- testing 21 once is testing it at each record
  pub tested_once : (k : ℕ) → applied run log k ≡ applied_on run log k
  unfolding applied applied_on
  tested_once zero = refl
  tested_once (suc k) = recorded_on_lem (applied run log k) (record_at log k) (stays_unbroken k) ∙ rw (tested_once k)

  -- after a refusal the answer stays
  pub on_stays : (k n : ℕ) → k ≤ n → ((applied_on run log k).number ≡ 0 → ⊥) → applied_on run log n ≡ applied_on run log k
  on_stays k n h r = sym (tested_once n) ∙ applied_stays run log k n h (rw (tested_once k) r) ∙ tested_once k

  -- the answer to record k, where the records before it are accepted
  module _ (k : ℕ) (state : Run) (before : applied_on run log k ≡ accepted state) where
    next_bad : bad_record (record_at log k) ≡ true → applied_on run log (suc k) ≡ refused Numbers.bad_record state
    unfolding applied_on recorded_on
    next_bad b = rw (before, b)

    next_event : bad_record (record_at log k) ≡ false → applied_on run log (suc k) ≡ step_on state (event_of (record_at log k))
    unfolding applied_on recorded_on
    next_event b = rw (before, b)

    pub on_bad : bad_record (record_at log k) ≡ true → (n : ℕ) → k < n → applied_on run log n ≡ refused Numbers.bad_record state
    on_bad b n h = on_stays (suc k) n h (rw (next_bad b) (λ e. omega (arith, e))) ∙ next_bad b

    module _ (event : Event) (good : bad_record (record_at log k) ≡ false) (is : event ≡ event_of (record_at log k)) where
      pub on_refused : (event_refusal state event ≡ 0 → ⊥) → (n : ℕ) → k < n → applied_on run log n ≡ refused (event_refusal state event) state
      on_refused z n h =
          let next : applied_on run log (suc k) ≡ refused (event_refusal state event) state = next_event good ∙ rw (← is) (step_on_refused state event z) in
          on_stays (suc k) n h (rw next z) ∙ next

      pub on_accepted : event_refusal state event ≡ 0 → applied_on run log (k + 1) ≡ accepted (standing state (next_place state event))
      on_accepted z = rw (add-one k) (next_event good ∙ rw (← is) (step_on_accepted state event z))

-- the answers of a log: 12 of its first record, then 21, then its records
pub some_records : (log : List ℕ) → (length log ≡ 0 → ⊥) → 0 < record_count log
unfolding record_count
some_records log h = omega (arith, h)

module _ (run : Run) (log : List ℕ) where
  bad_first_lem : bad_first log ≡ true → refused Numbers.bad_record run ≡ log_of run log
  unfolding log_of bad_first
  bad_first_lem b = go (ℕ_discrete (length log) 0)
    where
      go : Dec (length log ≡ 0) → refused Numbers.bad_record run ≡ cond (eqb (length log) 0) (empty_log run) (or_before run (applied run log (record_count log)))
      go (yes z) = absurd (false≢true (rw (eq-eqb _ _ z) at b))
      go (no z) =
          let bad : bad_record (record_at log 0) ≡ true = rw (ne_eqb _ _ z) at b in
          rw (ne_eqb _ _ z)
          (sym (applied_first run log (refused Numbers.bad_record run) (recorded_bad run (record_at log 0) bad) (λ e. omega (arith, e)) (record_count log) (some_records log z)))

  broken_first : bad_first log ≡ false → broken run ≡ true → refused Numbers.broken run ≡ log_of run log
  unfolding log_of empty_log bad_first
  broken_first good b = go (ℕ_discrete (length log) 0)
    where
      go : Dec (length log ≡ 0) → refused Numbers.broken run ≡ cond (eqb (length log) 0) (empty_log run) (or_before run (applied run log (record_count log)))
      go (yes z) = rw (eq-eqb _ _ z, b)
      go (no z) =
          let first : bad_record (record_at log 0) ≡ false = rw (ne_eqb _ _ z) at good in
          rw (ne_eqb _ _ z)
          (sym (applied_first run log (refused Numbers.broken run) (recorded_event (accepted run) (record_at log 0) first ∙ sym (step_broken run (event_of (record_at log 0)) b))
          (λ e. omega (arith, e)) (record_count log) (some_records log z)))

  -- a log that is refused before its first event
  pub log_refused_before : (refusal_before run log ≡ 0 → ⊥) → refused (refusal_before run log) run ≡ log_of run log
  unfolding refusal_before first
  log_refused_before r = go (bad_first log) (broken run) refl refl
    where
      go : (a b : Bool) → bad_first log ≡ a → broken run ≡ b → refused (refusal_before run log) run ≡ log_of run log
      go true b p q = rw p (bad_first_lem p)
      go false true p q = rw (p, q) (broken_first p q)
      go false false p q = absurd (r (rw (p, q)))

  pub tested_right : refusal_before run log ≡ 0 → broken run ≡ false
  unfolding refusal_before first
  tested_right z = go (bad_first log) (broken run) refl refl
    where
      go : (a b : Bool) → bad_first log ≡ a → broken run ≡ b → broken run ≡ false
      go true b p q = absurd (omega (arith, rw p at z))
      go false true p q = absurd (omega (arith, rw (p, q) at z))
      go false false p q = q

  none_on : or_before run (applied_on run log 0) ≡ accepted run
  unfolding or_before applied_on
  none_on = refl

  -- and one that is not
  pub log_tested : broken run ≡ false → or_before run (applied_on run log (record_count log)) ≡ log_of run log
  unfolding log_of empty_log record_count
  log_tested right = go (ℕ_discrete (length log) 0)
    where
      none : length log ≡ 0 → record_count log ≡ 0
      none z = omega (arith, z)

      go : Dec (length log ≡ 0) → or_before run (applied_on run log (record_count log)) ≡ cond (eqb (length log) 0) (empty_log run) (or_before run (applied run log (record_count log)))
      go (yes z) = rw (eq-eqb _ _ z, right, none z) none_on
      go (no z) = rw (ne_eqb _ _ z, tested_once run log right (record_count log))

pub refusal_stays : (n m : ℕ) → 0 < n → n ≡ m → m ≡ 0 → ⊥
refusal_stays n m h e z = omega (arith, h, e, z)

-- where the records lead, refused or accepted
module _ (run : Run) (log : List ℕ) (k : ℕ) where
  pub ends_refused : (number : ℕ) (state : Run) → applied_on run log k ≡ refused number state → (number ≡ 0 → ⊥) → refused number run ≡ or_before run (applied_on run log k)
  unfolding or_before
  ends_refused number state e z = rw (e, ne_eqb _ _ z)

  pub ends_told : (number : ℕ) (state : Run) → (r : Result Carried Refusal) → IsErr r → ((number ≡ 0 → ⊥) → applied_on run log k ≡ refused number state) → told r ≡ number
      → Ends run log k r
  unfolding or_before
  ends_told n state (Ok carried) failed leads e = absurd (false≢true failed)
  ends_told n state (Err refusal) failed leads e =
      let some : n ≡ 0 → ⊥ = λ z. refusal_stays (number refusal) n (number_positive refusal) e z in
      rw e (ends_refused n state (leads some) some)

  pub ends_accepted : (state : Run) → applied_on run log k ≡ accepted state → accepted state ≡ or_before run (applied_on run log k)
  unfolding or_before
  ends_accepted state e = rw e

  -- a run that was taken up at its own place
  pub ends_own : (m : Result Carried Refusal) (place : Place) → place ≡ run.place → Ends (standing run place) log k m → Ends run log k m
  ends_own m place own ends = rw (← own) ends

-- what an event that was read tells of its record, and that there is none
pub read_some : (r : List ℕ) (event : Event) → read_event r ≡ Some event → (bad_record r ≡ false) × (event ≡ event_of r)
unfolding read_event
read_some r event e = go (bad_record r) refl e
  where
    go : (b : Bool) → bad_record r ≡ b → cond b None (Some (event_of r)) ≡ Some event → (bad_record r ≡ false) × (event ≡ event_of r)
    go true p q = absurd (search (rules, q))
    go false p q = (p, search (rules, q))

pub read_none : (r : List ℕ) → read_event r ≡ None → bad_record r ≡ true
unfolding read_event
read_none r e = go (bad_record r) refl e
  where
    go : (b : Bool) → bad_record r ≡ b → cond b None (Some (event_of r)) ≡ None → bad_record r ≡ true
    go true p q = p
    go false p q = absurd (search (rules, q))

pub none_told : (r : List ℕ) (event : Option Event) (b : Bool) → event ≡ read_event r → is_some event ≡ not b → b ≡ bad_record r
unfolding read_event
none_told r event b e s = go (bad_record r) b (rw e at s)
  where
    go : (a b : Bool) → is_some (cond a None (Some (event_of r))) ≡ not b → b ≡ a
    go true true q = refl
    go true false q = absurd (false≢true q)
    go false true q = absurd (true≢false q)
    go false false q = refl

-- a log that is refused before its first event, by what its test tells
pub log_refused_told : (run : Run) (log : List ℕ) (r : Result Place Refusal) → IsErr r → told r ≡ refusal_before run log → stood run r ≡ log_of run log
log_refused_told run log (Ok next) failed e = absurd (false≢true failed)
log_refused_told run log (Err refusal) failed e =
    rw e (log_refused_before run log (λ z. refusal_stays (number refusal) _ (number_positive refusal) e z))

-- a refusal tells the same of the run as of its place
pub err_stood : (run : Run) (r : Result Run Refusal) (q : Result Place Refusal) → IsErr r → told r ≡ told q → stepped run r ≡ stood run q
err_stood run (Ok next) q failed e = absurd (false≢true failed)
err_stood run (Err a) (Ok place) failed e = absurd (refusal_stays (number a) 0 (number_positive a) e refl)
err_stood run (Err a) (Err b) failed e = ap (λ (n : ℕ). refused n run) e

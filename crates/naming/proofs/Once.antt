-- A log from a run with names: 12 of its first record, then 21, then what the log gives of the run, beside the names. Testing 21 of the names once is the same as
-- testing it at each record: a log leaves them, and the values and marks, as they are. Assumes nothing.
use Rattle.std.specs.Prelude.{Result, Ok, Err}
use Rattle.std.specs.Result.{IsErr}
use Rattle.refusals.specs.Checks.{number, told}
use Rattle.refusals.specs.declared.Refusal.{Refusal}
use Rattle.refusals.proofs.Checks.{number_positive}
use Rattle.logs.proofs.Once.{refusal_stays}
use Rattle.state.specs.declared.Place.{Place}
use Rattle.naming.specs.Calls.{named_stepped, onward, at_place}
use Prim.Native.Nat.{ℕ, zero, suc, ◌<◌}
use mathlib.Core.Path.{◌≡◌, refl, sym, ◌∙◌}
use mathlib.Core.Bool.{Bool, true, false, cond, ◌||◌, false≢true}
use mathlib.Core.List.{List}
use native.Mathlib.Decide.{ℕ_discrete}
use native.Mathlib.Omega.{arith}
use borrow.Author.Tests.{eq-eqb, ne_eqb}
use lib.Dec.{eqb}
use lib.ListN.{length}
use Rattle.refusals.specs.Numbers
use Rattle.refusals.specs.Refusals.{first}
use Rattle.rules.specs.Rules.{marks_in, broken}
use Rattle.state.specs.declared.Run.{Run}
use Rattle.events.specs.declared.Event.{Event}
use Rattle.following.specs.Run as plain
use Rattle.following.specs.declared.Stepped.{Stepped}
use Rattle.logs.specs.Log as log
use Rattle.logs.specs.Log.{record_count, record_at, bad_record, event_of}
use Rattle.logs.specs.Working.Once.{bad_first, refusal_before, stood}
use Rattle.logs.proofs.Once.{some_records}
use Rattle.names.specs.declared.Names.{Names}
use Rattle.named.specs.Named.{bad_names, broken_named}
use Rattle.named.specs.declared.NamedRun.{NamedRun}
use Rattle.naming.specs.Calls.{answered, answer}
use Rattle.naming.specs.Log.{step_of, recorded, applied, or_before, empty_log, log_of, beside}
use Rattle.naming.specs.declared.NamedStepped.{NamedStepped}

-- records read and applied in turn
recorded_refused : (s : NamedStepped) (r : List ℕ) → (s.number ≡ 0 → ⊥) → recorded s r ≡ s
unfolding recorded
recorded_refused s r h = rw (ne_eqb _ _ h)

module _ (state : NamedRun) (log : List ℕ) where
  applied_stays : (n : ℕ) → ((applied state log 1).number ≡ 0 → ⊥) → applied state log (suc n) ≡ applied state log 1
  unfolding applied
  applied_stays zero r = refl
  applied_stays (suc n) r = rw (applied_stays n r) (recorded_refused (applied state log 1) (record_at log (suc n)) r)

  -- where the first record is refused, its answer is that of the log
  applied_first : (number : ℕ) (n : ℕ) → (number ≡ 0 → ⊥) → 0 < n → recorded (answered Numbers.accepted state) (record_at log 0) ≡ answered number state
      → or_before state (applied state log n) ≡ answered number state
  unfolding applied or_before
  applied_first number zero r h first = absurd (omega (arith, h))
  applied_first number (suc n) r h first =
      let e : applied state log (suc n) ≡ answered number state = applied_stays n (rw first r) ∙ first in
      rw (e, ne_eqb _ _ r)

module _ (state : NamedRun) (log : List ℕ) where
  -- 12 of the first record
  named_bad_first : bad_first log ≡ true → answered Numbers.bad_record state ≡ log_of state log
  unfolding log_of bad_first recorded
  named_bad_first b = go (ℕ_discrete (length log) 0)
    where
      go : Dec (length log ≡ 0) → answered Numbers.bad_record state ≡ cond (eqb (length log) 0) (empty_log state) (or_before state (applied state log (record_count log)))
      go (yes z) = absurd (false≢true (rw (eq-eqb _ _ z) at b))
      go (no z) =
          let bad : bad_record (record_at log 0) ≡ true = rw (ne_eqb _ _ z) at b in
          rw (ne_eqb _ _ z) (sym (applied_first state log Numbers.bad_record (record_count log) (λ e. omega (arith, e)) (some_records log z) (rw bad)))

  -- then 21
  named_broken : bad_first log ≡ false → broken_named state ≡ true → answered Numbers.broken state ≡ log_of state log
  unfolding log_of empty_log bad_first recorded step_of answer first
  named_broken good b = go (ℕ_discrete (length log) 0)
    where
      go : Dec (length log ≡ 0) → answered Numbers.broken state ≡ cond (eqb (length log) 0) (empty_log state) (or_before state (applied state log (record_count log)))
      go (yes z) = rw (eq-eqb _ _ z, b)
      go (no z) =
          let right : bad_record (record_at log 0) ≡ false = rw (ne_eqb _ _ z) at good in
          rw (ne_eqb _ _ z) (sym (applied_first state log Numbers.broken (record_count log) (λ e. omega (arith, e)) (some_records log z) (rw (right, b))))

module _ (state : NamedRun) (log : List ℕ) where
  -- 12 of the first record, or 21 of the run
  pub named_refused_before : (refusal_before state.run log ≡ 0 → ⊥) → answered (refusal_before state.run log) state ≡ log_of state log
  unfolding refusal_before first broken_named
  named_refused_before r = go (bad_first log) (broken state.run) refl refl
    where
      go : (a b : Bool) → bad_first log ≡ a → broken state.run ≡ b → answered (refusal_before state.run log) state ≡ log_of state log
      go true b p q = rw p (named_bad_first state log p)
      go false true p q = rw (p, q) (named_broken state log p (rw q))
      go false false p q = absurd (r (rw (p, q)))

  pub named_refused_told : {A : Type 0} (next : A → NamedRun) (r : Result A Refusal) → IsErr r → told r ≡ refusal_before state.run log
      → named_stepped state (onward next r) ≡ log_of state log
  named_refused_told next (Ok found) failed e = absurd (false≢true failed)
  named_refused_told next (Err refusal) failed e = rw e (named_refused_before (λ z. refusal_stays (number refusal) _ (number_positive refusal) e z))

  -- 21 of the names
  pub named_bad_names : refusal_before state.run log ≡ 0 → bad_names state.run.job (marks_in state.run) state.names ≡ true
      → answered Numbers.broken state ≡ log_of state log
  unfolding refusal_before first broken_named
  named_bad_names z bad = go (bad_first log) (broken state.run) refl refl
    where
      go : (a b : Bool) → bad_first log ≡ a → broken state.run ≡ b → answered Numbers.broken state ≡ log_of state log
      go true b p q = absurd (omega (arith, rw p at z))
      go false true p q = named_broken state log p (rw q)
      go false false p q = named_broken state log p (rw (q, bad))

-- where a run stands or its refusal, beside the names of the state
pub place_beside : (state : NamedRun) (r : Result Place Refusal) → named_stepped state (onward (at_place state) r) ≡ beside state.names (stood state.run r)
place_beside state (Ok place) = refl
place_beside state (Err refusal) = refl

-- names that keep the rules beside a run
abbrev Right : Names → Run → Type 0
Right names run = bad_names run.job (marks_in run) names ≡ false

or_none : (a b : Bool) → b ≡ false → (a || b) ≡ a
or_none true b e = refl
or_none false b e = e

module _ (names : Names) where
  -- 21 is that of the run
  broken_same : (run : Run) → Right names run → broken_named (record { run = run; names = names }) ≡ broken run
  unfolding broken_named
  broken_same run right = or_none (broken run) (bad_names run.job (marks_in run) names) right

  step_beside : (run : Run) (e : Event) → Right names run → step_of (record { run = run; names = names }) e ≡ beside names (plain.step_of run e)
  unfolding step_of answer plain.step_of plain.step_refusal
  step_beside run e right = rw (broken_same run right) (go (eqb (first (plain.step_conditions run e)) 0))
    where
      go : (b : Bool)
          → answered (first (plain.step_conditions run e)) (cond b (record { run = plain.standing run (plain.next_place run e); names = names }) (record { run = run; names = names }))
          ≡ beside names (record { number = first (plain.step_conditions run e); run = cond b (plain.standing run (plain.next_place run e)) run })
      go true = refl
      go false = refl

  -- an event leaves values and marks as they are
  step_right : (run : Run) (e : Event) → Right names run → Right names (plain.step_of run e).run
  unfolding plain.step_of
  step_right run e right = go (eqb (plain.step_refusal run e) 0)
    where
      go : (b : Bool) → Right names (cond b (plain.standing run (plain.next_place run e)) run)
      go true = right
      go false = right

  recorded_beside : (s : Stepped) (r : List ℕ) → Right names s.run → recorded (beside names s) r ≡ beside names (log.recorded s r)
  unfolding recorded log.recorded
  recorded_beside s r right = rw (step_beside s.run (event_of r) right) (go (eqb s.number 0) (bad_record r))
    where
      go : (a b : Bool)
          → cond a (cond b (answered Numbers.bad_record (record { run = s.run; names = names })) (beside names (plain.step_of s.run (event_of r)))) (beside names s)
          ≡ beside names (cond a (cond b (plain.refused Numbers.bad_record s.run) (plain.step_of s.run (event_of r))) s)
      go true true = refl
      go true false = refl
      go false b = refl

  recorded_right : (s : Stepped) (r : List ℕ) → Right names s.run → Right names (log.recorded s r).run
  unfolding log.recorded
  recorded_right s r right = go (eqb s.number 0) (bad_record r)
    where
      go : (a b : Bool) → Right names (cond a (cond b (plain.refused Numbers.bad_record s.run) (plain.step_of s.run (event_of r))) s).run
      go true true = right
      go true false = step_right s.run (event_of r) right
      go false b = right

  module _ (run : Run) (l : List ℕ) (right : Right names run) where
    applied_right : (k : ℕ) → Right names (log.applied run l k).run
    unfolding log.applied
    applied_right zero = right
    applied_right (suc k) = recorded_right (log.applied run l k) (record_at l k) (applied_right k)

    applied_beside : (k : ℕ) → applied (record { run = run; names = names }) l k ≡ beside names (log.applied run l k)
    unfolding applied log.applied
    applied_beside zero = refl
    applied_beside (suc k) = rw (applied_beside k) (recorded_beside (log.applied run l k) (record_at l k) (applied_right k))

    -- what a log gives is what it gives of the run, beside the names
    pub log_beside : log_of (record { run = run; names = names }) l ≡ beside names (log.log_of run l)
    unfolding log_of empty_log or_before log.log_of log.empty_log log.or_before
    log_beside = rw (broken_same run right, applied_beside (record_count l)) (go (eqb (length l) 0) (broken run) (eqb (log.applied run l (record_count l)).number 0))
      where
        go : (a b c : Bool)
            → cond a (cond b (answered Numbers.broken (record { run = run; names = names })) (answered Numbers.accepted (record { run = run; names = names })))
            (cond c (beside names (log.applied run l (record_count l))) (answered (log.applied run l (record_count l)).number (record { run = run; names = names })))
            ≡ beside names (cond a (cond b (plain.refused Numbers.broken run) (plain.accepted run))
            (cond c (log.applied run l (record_count l)) (plain.refused (log.applied run l (record_count l)).number run)))
        go true true c = refl
        go true false c = refl
        go false b true = refl
        go false b false = refl

    -- and leaves values and marks as they are
    pub log_right : Right names (log.log_of run l).run
    unfolding log.log_of log.empty_log log.or_before
    log_right = go (eqb (length l) 0) (broken run) (eqb (log.applied run l (record_count l)).number 0)
      where
        go : (a b c : Bool) → Right names (cond a (cond b (plain.refused Numbers.broken run) (plain.accepted run))
            (cond c (log.applied run l (record_count l)) (plain.refused (log.applied run l (record_count l)).number run))).run
        go true true c = right
        go true false c = right
        go false b true = applied_right (record_count l)
        go false b false = right

-- a state that 21 turns down has its log refused, by 12 of the first record or by 21
pub log_broken : (state : NamedRun) (l : List ℕ) → broken_named state ≡ true → log_of state l ≡ answered (cond (bad_first l) Numbers.bad_record Numbers.broken) state
log_broken state l b = go (bad_first l) refl
  where
    go : (a : Bool) → bad_first l ≡ a → log_of state l ≡ answered (cond a Numbers.bad_record Numbers.broken) state
    go true q = sym (named_bad_first state l q)
    go false q = sym (named_broken state l q b)

-- a refused log leaves the state
pub log_refused_same : (state : NamedRun) (l : List ℕ) → ((log_of state l).number ≡ 0 → ⊥) → (log_of state l).state ≡ state
unfolding log_of empty_log or_before
log_refused_same state l = go (eqb (length l) 0) (broken_named state) (ℕ_discrete (applied state l (record_count l)).number 0)
  where
    go : (a b : Bool) → Dec ((applied state l (record_count l)).number ≡ 0)
        → ((cond a (cond b (answered Numbers.broken state) (answered Numbers.accepted state))
        (cond (eqb (applied state l (record_count l)).number 0) (applied state l (record_count l)) (answered (applied state l (record_count l)).number state))).number ≡ 0 → ⊥)
        → (cond a (cond b (answered Numbers.broken state) (answered Numbers.accepted state))
        (cond (eqb (applied state l (record_count l)).number 0) (applied state l (record_count l)) (answered (applied state l (record_count l)).number state))).state ≡ state
    go true true c h = refl
    go true false c h = refl
    go false b (yes z) h = absurd (h (rw (eq-eqb _ _ z) z))
    go false b (no z) h = rw (ne_eqb _ _ z)

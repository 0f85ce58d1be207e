-- A log and its events. An accepted log does what its events do one by one; a refused one hands back the state from before it; a bad record gives 12 unless an
-- event before it was refused.
-- Assumes nothing.
use Prim.Native.Nat.{ℕ, zero, suc, ◌<◌}
use mathlib.Core.Path.{◌≡◌, refl, sym, ◌∙◌, ap}
use mathlib.Core.Bool.{Bool, true, false, cond}
use mathlib.Core.List.{List, [], ◌∷◌, ◌++◌}
use mathlib.Core.Logic.{◌⊎◌, inl, inr}
use native.Mathlib.Nat.{eq-or-lt_of_le, le_of_suc-le-suc}
use native.Mathlib.Decide.{ℕ_discrete}
use native.Mathlib.Omega.{arith}
use borrow.Author.Tests.{eq-eqb, ne_eqb}
use lib.Dec.{eqb}
use lib.ListN.{length}
use Rattle.refusals.specs.Numbers
use Rattle.rules.specs.Rules.{broken}
use Rattle.following.specs.Run.{step_of, accepted, refused}
use Rattle.state.specs.declared.Run.{Run}
use Rattle.events.specs.declared.Event.{Event}
use Rattle.following.specs.declared.Stepped.{Stepped}
use Rattle.logs.specs.Log.{record_count, record_at, bad_record, event_of, recorded, applied, or_before, empty_log, log_of}
use Rattle.logs.proofs.Records.{accepted_is, recorded_event, recorded_accepted, applied_stays}
use Rattle.history.specs.Events.{steps, GoodRecords, events_to, events_of}

-- events, then others
pub steps_append : (run : Run) (es others : List Event)
    → steps run (es ++ others) ≡ cond (eqb (steps run es).number 0) (steps (steps run es).run others) (steps run es)
unfolding steps
steps_append run [] others = refl
steps_append run (x ∷ xs) others = go (ℕ_discrete (step_of run x).number 0) (steps_append (step_of run x).run xs others)
  where
    s : Stepped
    s = step_of run x

    go : Dec (s.number ≡ 0)
        → steps s.run (xs ++ others) ≡ cond (eqb (steps s.run xs).number 0) (steps (steps s.run xs).run others) (steps s.run xs)
        → steps run (x ∷ (xs ++ others)) ≡ cond (eqb (steps run (x ∷ xs)).number 0) (steps (steps run (x ∷ xs)).run others) (steps run (x ∷ xs))
    go (yes z) ih = rw (eq-eqb _ _ z) ih
    go (no z) ih = rw (ne_eqb _ _ z, ne_eqb _ _ z)

-- one event is a step
pub one_step : (run : Run) (e : Event) → steps run (e ∷ []) ≡ step_of run e
unfolding steps
one_step run e = go (ℕ_discrete (step_of run e).number 0)
  where
    go : Dec ((step_of run e).number ≡ 0) → cond (eqb (step_of run e).number 0) (accepted (step_of run e).run) (step_of run e) ≡ step_of run e
    go (yes z) = rw (eq-eqb _ _ z) (sym (accepted_is (step_of run e) z))
    go (no z) = rw (ne_eqb _ _ z)

-- one event more
steps_more : (run : Run) (es : List Event) (e : Event)
    → steps run (es ++ (e ∷ [])) ≡ cond (eqb (steps run es).number 0) (step_of (steps run es).run e) (steps run es)
steps_more run es e = steps_append run es (e ∷ []) ∙ rw (one_step (steps run es).run e)

no_record : (run : Run) (log : List ℕ) → applied run log zero ≡ steps run (events_to log zero)
unfolding applied events_to steps
no_record run log = refl

record_more : (run : Run) (log : List ℕ) (k : ℕ) → applied run log k ≡ steps run (events_to log k) → bad_record (record_at log k) ≡ false
    → applied run log (suc k) ≡ steps run (events_to log (suc k))
unfolding applied events_to
record_more run log k e w =
    recorded_event (applied run log k) (record_at log k) w ∙ rw e (sym (steps_more run (events_to log k) (event_of (record_at log k))))

applied_is_steps : (run : Run) (log : List ℕ) (k : ℕ) → GoodRecords log k → applied run log k ≡ steps run (events_to log k)
applied_is_steps run log zero w = no_record run log
applied_is_steps run log (suc k) w = record_more run log k (applied_is_steps run log k (λ i h. w i (omega arith))) (w k (omega arith))

-- a log of records that 12 accepts gives what its events, applied one by one, give; on the first refusal, the state from before the log
pub whole_log_is_steps : (run : Run) (log : List ℕ) → 0 < length log → GoodRecords log (record_count log) → log_of run log ≡ or_before run (steps run (events_of log))
unfolding log_of events_of
whole_log_is_steps run log l w = rw (ne_eqb (length log) 0 (omega arith), applied_is_steps run log (record_count log) w)

-- 21 is tested even for an empty log
pub log_empty : (run : Run) → log_of run [] ≡ empty_log run
unfolding log_of
log_empty run = refl

-- an accepted record follows accepted ones, and 12 accepts it
pub applied_good : (run : Run) (log : List ℕ) (k : ℕ) → (applied run log k).number ≡ 0 → GoodRecords log k
unfolding applied
applied_good run log zero e i h = absurd (omega arith)
applied_good run log (suc k) e i h =
    let one = recorded_accepted (applied run log k) (record_at log k) e in
    go (eq-or-lt_of_le (le_of_suc-le-suc h)) one.1 (applied_good run log k one.0 i)
  where
    go : (i ≡ k) ⊎ (i < k) → bad_record (record_at log k) ≡ false → (i < k → bad_record (record_at log i) ≡ false) → bad_record (record_at log i) ≡ false
    go (inl q) b ih = rw q b
    go (inr q) b ih = ih q

-- a refusal keeps its number, and an answer that is accepted stays
pub before_number : (run : Run) (s : Stepped) → (or_before run s).number ≡ s.number
unfolding or_before
before_number run s = go (eqb s.number 0)
  where
    go : (b : Bool) → (cond b s (refused s.number run)).number ≡ s.number
    go true = refl
    go false = refl

pub before_accepted : (run : Run) (s : Stepped) → s.number ≡ 0 → or_before run s ≡ s
unfolding or_before
before_accepted run s e = rw (eq-eqb _ _ e)

pub before_refused : (run : Run) (s : Stepped) → (s.number ≡ 0 → ⊥) → or_before run s ≡ refused s.number run
unfolding or_before
before_refused run s e = rw (ne_eqb _ _ e)

-- the answer to a log that is not empty, and to one that is
pub log_some : (run : Run) (log : List ℕ) → 0 < length log → log_of run log ≡ or_before run (applied run log (record_count log))
unfolding log_of
log_some run log h = rw (ne_eqb (length log) 0 (omega arith))

empty_accepted : (run : Run) → (empty_log run).number ≡ 0 → empty_log run ≡ accepted run
unfolding empty_log
empty_accepted run e = go (broken run) refl
  where
    go : (b : Bool) → broken run ≡ b → cond (broken run) (refused Numbers.broken run) (accepted run) ≡ accepted run
    go true q = absurd (omega (arith, rw q at e))
    go false q = rw q

none_is_steps : (run : Run) → (log_of run []).number ≡ 0 → log_of run [] ≡ steps run (events_of [])
unfolding log_of steps events_of events_to record_count
none_is_steps run e = empty_accepted run e

some_is_steps : (run : Run) (log : List ℕ) → 0 < length log → (log_of run log).number ≡ 0 → log_of run log ≡ steps run (events_of log)
unfolding events_of
some_is_steps run log h e =
    let answer = log_some run log h in
    let clear = sym (before_number run (applied run log (record_count log))) ∙ ap (λ (s : Stepped). s.number) (sym answer) ∙ e in
    answer ∙ before_accepted run _ clear ∙ applied_is_steps run log (record_count log) (applied_good run log (record_count log) clear)

-- an accepted log gives what its events, applied one by one, give
pub log_is_steps : (run : Run) (log : List ℕ) → (log_of run log).number ≡ 0 → log_of run log ≡ steps run (events_of log)
log_is_steps run [] e = none_is_steps run e
log_is_steps run (x ∷ xs) e = some_is_steps run (x ∷ xs) (omega arith) e

-- an empty log leaves the state, and so does a refused one
pub none_same : (run : Run) → (log_of run []).run ≡ run
unfolding log_of empty_log
none_same run = go (broken run)
  where
    go : (b : Bool) → (cond b (refused Numbers.broken run) (accepted run)).run ≡ run
    go true = refl
    go false = refl

pub log_refused_same : (run : Run) (log : List ℕ) → ((log_of run log).number ≡ 0 → ⊥) → (log_of run log).run ≡ run
log_refused_same run [] h = none_same run
log_refused_same run (x ∷ xs) h =
    let answer = log_some run (x ∷ xs) (omega arith) in
    rw answer (same (applied run (x ∷ xs) (record_count (x ∷ xs))) (λ z. h (ap (λ (s : Stepped). s.number) answer ∙ before_number run _ ∙ z)))
  where
    same : (s : Stepped) → (s.number ≡ 0 → ⊥) → (or_before run s).run ≡ run
    same s z = rw (before_refused run s z)

-- an empty log has no record
some_bytes : (log : List ℕ) (k : ℕ) → k < record_count log → length log ≡ 0 → ⊥
unfolding record_count
some_bytes log k h e = omega arith

-- the answer up to a bad record
bad_record_lem : (run : Run) (log : List ℕ) (k : ℕ) → GoodRecords log k → bad_record (record_at log k) ≡ true
    → (applied run log (suc k)).number ≡ cond (eqb (steps run (events_to log k)).number 0) Numbers.bad_record (steps run (events_to log k)).number
unfolding applied recorded
bad_record_lem run log k w b = rw (applied_is_steps run log k w, b) (go (eqb (steps run (events_to log k)).number 0))
  where
    s : Stepped
    s = steps run (events_to log k)

    go : (z : Bool) → (cond z (refused Numbers.bad_record s.run) s).number ≡ cond z Numbers.bad_record s.number
    go true = refl
    go false = refl

choice_positive : (n : ℕ) → cond (eqb n 0) Numbers.bad_record n ≡ 0 → ⊥
choice_positive n e = go (ℕ_discrete n 0)
  where
    go : Dec (n ≡ 0) → ⊥
    go (yes z) = omega (arith, rw (eq-eqb _ _ z) at e)
    go (no z) = z (rw (ne_eqb _ _ z) at e)

-- a bad record gives 12, unless an event before it was refused
pub log_bad_record : (run : Run) (log : List ℕ) (k : ℕ) → k < record_count log → GoodRecords log k → bad_record (record_at log k) ≡ true
    → log_of run log ≡ refused (cond (eqb (steps run (events_to log k)).number 0) Numbers.bad_record (steps run (events_to log k)).number) run
unfolding log_of or_before
log_bad_record run log k h w b =
    let n : ℕ = cond (eqb (steps run (events_to log k)).number 0) Numbers.bad_record (steps run (events_to log k)).number in
    let e : (applied run log (suc k)).number ≡ n = bad_record_lem run log k w b in
    let r : n ≡ 0 → ⊥ = choice_positive (steps run (events_to log k)).number in
    rw (ne_eqb (length log) 0 (some_bytes log k h), applied_stays run log (suc k) (record_count log) h (λ z. r (sym e ∙ z)), e, ne_eqb n 0 r)

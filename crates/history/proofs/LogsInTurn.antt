-- Two logs in turn are one log: where the first has whole records, as an accepted log has, the records of both are those of the first, then those of the
-- second. Assumes nothing.
use Prim.Native.Nat.{ℕ, zero, suc, ◌+◌, ◌-◌, ◌*◌, ◌≤◌, ◌<◌}
use mathlib.Core.Path.{◌≡◌, refl, sym, ◌∙◌, ap}
use mathlib.Core.Bool.{Bool, true, false, cond}
use mathlib.Core.List.{List, [], ◌∷◌, ◌++◌}
use native.Mathlib.Nat.{le_refl, le_of_lt}
use native.Mathlib.Decide.{ℕ_discrete}
use native.Mathlib.Omega.{arith}
use borrow.Author.Tests.{eq-eqb, ne_eqb, ltb-false}
use lib.Dec.{eqb}
use lib.ListN.{length, take, drop, length-append, length-drop, take-append-drop}
use lib.Seq.{take-append-le, drop-append-le, drop-append-add}
use Rattle.lists.proofs.Lists.{or_fails}
use Rattle.refusals.specs.Numbers
use Rattle.rules.specs.Rules.{broken}
use Rattle.following.specs.Run.{accepted, refused}
use Rattle.state.specs.declared.Run.{Run}
use Rattle.following.specs.declared.Stepped.{Stepped}
use Rattle.logs.specs.Log.{record_length, record_count, record_at, bad_record, recorded, applied, or_before, empty_log, log_of}
use Rattle.logs.proofs.Records.{accepted_is, recorded_refused, applied_zero, applied_suc}
use Rattle.logs.proofs.Once.{applied_unbroken}
use Rattle.history.specs.Events.{OneLog}
use Rattle.history.proofs.Logs.{before_number, before_accepted, before_refused, log_some, none_same, log_refused_same, applied_good}

-- the answer to records after s
after : Stepped → List ℕ → ℕ → Stepped
after s b j = cond (eqb s.number 0) (applied s.run b j) s

after_accepted : (s : Stepped) (b : List ℕ) (j : ℕ) → s.number ≡ 0 → after s b j ≡ applied s.run b j
unfolding after
after_accepted s b j z = rw (eq-eqb _ _ z)

after_refused : (s : Stepped) (b : List ℕ) (j : ℕ) → (s.number ≡ 0 → ⊥) → after s b j ≡ s
unfolding after
after_refused s b j z = rw (ne_eqb _ _ z)

module _ (a b : List ℕ) (k : ℕ) (whole : length a ≡ record_length * k) where
  record_left : (i : ℕ) → i < k → record_at (a ++ b) i ≡ record_at a i
  unfolding record_at
  record_left i h =
      rw (drop-append-le (record_length * i) a b (omega (arith, whole)))
      (take-append-le record_length (drop (record_length * i) a) b (rw (length-drop (record_length * i) a) (omega (arith, whole))))

  record_right : (j : ℕ) → record_at (a ++ b) (k + j) ≡ record_at b j
  unfolding record_at
  record_right j =
      let e : record_length * (k + j) ≡ length a + record_length * j = omega (arith, whole) in
      let same : drop (record_length * (k + j)) (a ++ b) ≡ drop (record_length * j) b = rw e (drop-append-add a b (record_length * j)) in
      ap (take record_length) same

  count_both : record_count (a ++ b) ≡ k + record_count b
  unfolding record_count
  count_both = rw (length-append a b) (omega (arith, whole))

  count_first : record_count a ≡ k
  unfolding record_count
  count_first = omega (arith, whole)

  module _ (run : Run) where
    left_more : (i : ℕ) → i < k → applied run (a ++ b) i ≡ applied run a i → applied run (a ++ b) (suc i) ≡ applied run a (suc i)
    left_more i h before = applied_suc run (a ++ b) i ∙ rw (before, record_left i h) (sym (applied_suc run a i))

    applied_left : (i : ℕ) → i ≤ k → applied run (a ++ b) i ≡ applied run a i
    applied_left zero h = applied_zero run (a ++ b) ∙ sym (applied_zero run a)
    applied_left (suc i) h = left_more i h (applied_left i (le_of_lt h))

    -- nothing more after s
    after_none : (s : Stepped) → s ≡ after s b zero
    after_none s = go (ℕ_discrete s.number 0)
      where
        go : Dec (s.number ≡ 0) → s ≡ after s b zero
        go (yes z) = accepted_is s z ∙ sym (applied_zero s.run b) ∙ sym (after_accepted s b zero z)
        go (no z) = sym (after_refused s b zero z)

    -- one record more after s
    after_more : (s : Stepped) (j : ℕ) → recorded (after s b j) (record_at b j) ≡ after s b (suc j)
    after_more s j = go (ℕ_discrete s.number 0)
      where
        go : Dec (s.number ≡ 0) → recorded (after s b j) (record_at b j) ≡ after s b (suc j)
        go (yes z) = rw (after_accepted s b j z, after_accepted s b (suc j) z) (sym (applied_suc s.run b j))
        go (no z) = rw (after_refused s b j z, after_refused s b (suc j) z) (recorded_refused s (record_at b j) z)

    right_none : applied run (a ++ b) (k + zero) ≡ after (applied run a k) b zero
    right_none =
        let e : k + zero ≡ k = omega arith in
        rw e (applied_left k (le_refl k) ∙ after_none (applied run a k))

    right_more : (j : ℕ) → applied run (a ++ b) (k + j) ≡ after (applied run a k) b j → applied run (a ++ b) (k + suc j) ≡ after (applied run a k) b (suc j)
    right_more j before =
        let e : k + suc j ≡ suc (k + j) = omega arith in
        rw e (applied_suc run (a ++ b) (k + j) ∙ rw (before, record_right j) (after_more (applied run a k) j))

    applied_right : (j : ℕ) → applied run (a ++ b) (k + j) ≡ after (applied run a k) b j
    applied_right zero = right_none
    applied_right (suc j) = right_more j (applied_right j)

    both : applied run (a ++ b) (record_count (a ++ b)) ≡ after (applied run a k) b (record_count b)
    both = rw count_both (applied_right (record_count b))

    -- the answer to the first log
    first_answer : 0 < length a → log_of run a ≡ or_before run (applied run a k)
    first_answer h = rw (← count_first) (log_some run a h)

    both_answer : 0 < length a → log_of run (a ++ b) ≡ or_before run (after (applied run a k) b (record_count b))
    both_answer h = log_some run (a ++ b) (rw (length-append a b) (omega arith)) ∙ ap (or_before run) both

    first_number : 0 < length a → (log_of run a).number ≡ (applied run a k).number
    first_number h = ap (λ (s : Stepped). s.number) (first_answer h) ∙ before_number run (applied run a k)

    stops : 0 < length a → ((log_of run a).number ≡ 0 → ⊥) → log_of run (a ++ b) ≡ log_of run a
    stops h r =
        both_answer h
        ∙ ap (or_before run) (after_refused (applied run a k) b (record_count b) (λ z. r (first_number h ∙ z)))
        ∙ sym (first_answer h)

-- handing back an earlier state still, once refused
before_before : (run middle : Run) (s : Stepped) → or_before run (or_before middle s) ≡ or_before run s
before_before run middle s = go (ℕ_discrete s.number 0)
  where
    go : Dec (s.number ≡ 0) → or_before run (or_before middle s) ≡ or_before run s
    go (yes z) = rw (before_accepted middle s z)
    go (no z) = rw (before_refused middle s z) (before_refused run (refused s.number middle) z ∙ sym (before_refused run s z))

-- a refused log hands back the state given
log_before : (run : Run) (log : List ℕ) → or_before run (log_of run log) ≡ log_of run log
log_before run log = go (ℕ_discrete (log_of run log).number 0)
  where
    go : Dec ((log_of run log).number ≡ 0) → or_before run (log_of run log) ≡ log_of run log
    go (yes z) = before_accepted run (log_of run log) z
    go (no z) = before_refused run (log_of run log) z ∙ ap (refused (log_of run log).number) (sym (log_refused_same run log z))

none_applied : (run : Run) → applied run [] (record_count []) ≡ accepted run
unfolding applied record_count
none_applied run = refl

none_accepted : (run : Run) → broken run ≡ false → log_of run [] ≡ accepted run
unfolding log_of empty_log
none_accepted run u = rw u

-- the second log after a state that 21 accepts
second : (run middle : Run) (b : List ℕ) → broken middle ≡ false → or_before run (applied middle b (record_count b)) ≡ or_before run (log_of middle b)
second run middle [] u = ap (or_before run) (none_applied middle ∙ sym (none_accepted middle u))
second run middle (x ∷ xs) u =
    sym (ap (or_before run) (log_some middle (x ∷ xs) (omega arith)) ∙ before_before run middle (applied middle (x ∷ xs) (record_count (x ∷ xs))))

no_record : (log : List ℕ) → 0 < length log → record_count log ≡ 0 → ⊥
unfolding record_count
no_record log h e = omega arith

some_record : (log : List ℕ) → 0 < length log → 0 < record_count log
unfolding record_count
some_record log h = omega arith

none_sound : (run : Run) → (log_of run []).number ≡ 0 → broken (log_of run []).run ≡ false
unfolding log_of empty_log
none_sound run e = go (broken run) refl
  where
    go : (b : Bool) → broken run ≡ b → broken (cond (broken run) (refused Numbers.broken run) (accepted run)).run ≡ false
    go true q = absurd (omega (arith, rw q at e))
    go false q = rw q q

module _ (run : Run) (a b : List ℕ) (k : ℕ) (whole : length a ≡ record_length * k) where
  goes_on : 0 < length a → (log_of run a).number ≡ 0 → log_of run (a ++ b) ≡ or_before run (log_of (log_of run a).run b)
  goes_on h e =
      let clear : (applied run a k).number ≡ 0 = sym (first_number a b k whole run h) ∙ e in
      let answer : log_of run a ≡ applied run a k = first_answer a b k whole run h ∙ before_accepted run (applied run a k) clear in
      both_answer a b k whole run h
      ∙ ap (or_before run) (after_accepted (applied run a k) b (record_count b) clear)
      ∙ second run (applied run a k).run b (applied_unbroken run a k (omega (arith, whole)) clear)
      ∙ ap (λ (s : Stepped). or_before run (log_of s.run b)) (sym answer)

-- a record that 12 accepts is not cut short
record_long : (r : List ℕ) → bad_record r ≡ false → record_length ≤ length r
unfolding bad_record
record_long r e = ltb-false (length r) record_length (or_fails _ _ e).0

record_within : (log : List ℕ) (i : ℕ) → length (record_at log i) ≤ length log - record_length * i
unfolding record_at
record_within log i =
    let rest : List ℕ = drop (record_length * i) log in
    let both : length (take record_length rest) + length (drop record_length rest) ≡ length rest =
    sym (length-append (take record_length rest) (drop record_length rest)) ∙ ap length (take-append-drop record_length rest) in
    omega (arith, both, length-drop (record_length * i) log)

-- so an accepted log has whole records
records_whole : (log : List ℕ) (c : ℕ) → record_count log ≡ suc c → record_length ≤ length (record_at log c) → length log ≡ record_length * suc c
unfolding record_count
records_whole log c e h = omega (arith, e, h, record_within log c)

log_whole : (run : Run) (log : List ℕ) → 0 < length log → (log_of run log).number ≡ 0 → length log ≡ record_length * record_count log
log_whole run log h e = go (record_count log) refl
  where
    clear : (applied run log (record_count log)).number ≡ 0
    clear = sym (before_number run (applied run log (record_count log))) ∙ ap (λ (s : Stepped). s.number) (sym (log_some run log h)) ∙ e

    go : (c : ℕ) → record_count log ≡ c → length log ≡ record_length * record_count log
    go zero q = absurd (no_record log h q)
    go (suc c) q =
        rw q (records_whole log c q (record_long (record_at log c) (applied_good run log (record_count log) clear c (rw q (omega arith)))))

-- two logs in turn are one log
pub two_logs : (run : Run) (a b : List ℕ) → OneLog run a b
two_logs run [] b =
    record {
      accepted_first = λ e. sym (log_before run b) ∙ ap (λ (r : Run). or_before run (log_of r b)) (sym (none_same run));
      refused_first = λ k h w e. absurd (omega (arith, w));
    }
two_logs run (x ∷ xs) b =
    record {
      accepted_first = λ e. goes_on run (x ∷ xs) b (record_count (x ∷ xs)) (log_whole run (x ∷ xs) (omega arith) e) (omega arith) e;
      refused_first = λ k h w e. stops (x ∷ xs) b k w run (omega arith) e;
    }

-- what a log accepts, 21 accepts
pub log_keeps_sound : (run : Run) (log : List ℕ) → (log_of run log).number ≡ 0 → broken (log_of run log).run ≡ false
log_keeps_sound run [] e = none_sound run e
log_keeps_sound run (x ∷ xs) e =
    let h : 0 < length (x ∷ xs) = omega arith in
    let log : List ℕ = x ∷ xs in
    let clear : (applied run (x ∷ xs) (record_count (x ∷ xs))).number ≡ 0 =
    sym (before_number run (applied run (x ∷ xs) (record_count (x ∷ xs)))) ∙ ap (λ (s : Stepped). s.number) (sym (log_some run (x ∷ xs) h)) ∙ e in
    let answer = log_some run (x ∷ xs) h ∙ before_accepted run (applied run (x ∷ xs) (record_count (x ∷ xs))) clear in
    rw answer (applied_unbroken run (x ∷ xs) (record_count (x ∷ xs)) (some_record (x ∷ xs) h) clear)

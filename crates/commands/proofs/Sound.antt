-- A state that an accepted call leaves is accepted by 21, and a refused call leaves the state. Assumes nothing.
use Prim.Native.Nat.{ℕ, ◌≤◌}
use mathlib.Core.Path.{◌≡◌, refl, sym, ◌∙◌, ap}
use mathlib.Core.Bool.{Bool, true, false, cond}
use mathlib.Core.List.{List}
use native.Mathlib.Omega.{arith}
use borrow.Author.Tests.{eq-eqb, ne_eqb, eqb-false, not-false}
use lib.ListN.{length, length-take}
use Rattle.refusals.specs.Numbers
use Rattle.refusals.specs.Refusals.{first, has, distinct, Numbered}
use Rattle.refusals.proofs.Refusals.{first_clear}
use Rattle.rules.specs.Rules.{marks_in, broken_place, broken}
use Rattle.rules.proofs.Soundness.{run_values, run_place, place_passed, place_unbroken, unbroken}
use Rattle.state.specs.declared.Place.{Place}
use Rattle.state.specs.declared.Run.{Run}
use Rattle.following.specs.Run.{standing}
use Rattle.logs.specs.Log as log
use Rattle.logs.specs.Working.Once.{bad_first}
use Rattle.history.proofs.LogsInTurn.{log_keeps_sound}
use Rattle.names.specs.Names.{name_limit, is_held, naming, dropping, place_under, holding}
use Rattle.names.specs.declared.Held.{Held}
use Rattle.named.specs.Named.{name_twice, some_place_broken, broken_named}
use Rattle.named.specs.declared.NamedRun.{NamedRun}
use Rattle.named.proofs.Passed.{named_passed, named_unbroken, named_right}
use Rattle.naming.specs.Calls.{held_by, with_held, at_place, answer, not_held, names_full, name_conditions, held_conditions, name_of, drop_of, return_of}
use Rattle.naming.specs.Log.{log_of, beside}
use Rattle.naming.specs.Turns.{Call, call_of}
use Rattle.naming.specs.Turns.Call.{logged, named, dropped, returned}
use Rattle.naming.specs.declared.NamedStepped.{NamedStepped}
use Rattle.naming.proofs.Once.{log_beside, log_right, log_broken, log_refused_same}
use Rattle.commands.proofs.Naming.{holding_holds, naming_once, dropping_once, naming_places, dropping_places, under_right, naming_held_long, naming_long, dropping_long}

-- an answer is accepted, or hands the state back
answer_number : (number : ℕ) (next state : NamedRun) → (answer number next state).number ≡ number
unfolding answer
answer_number number next state = refl

answer_next : (number : ℕ) (next state : NamedRun) → number ≡ 0 → (answer number next state).state ≡ next
unfolding answer
answer_next number next state z = rw (eq-eqb _ _ z)

answer_same : (number : ℕ) (next state : NamedRun) → (number ≡ 0 → ⊥) → (answer number next state).state ≡ state
unfolding answer
answer_same number next state z = rw (ne_eqb _ _ z)

name_numbered : (state : NamedRun) (k : ℕ) → Numbered (name_conditions state k)
unfolding has distinct
name_numbered state k = refl

held_numbered : (state : NamedRun) (k : ℕ) → Numbered (held_conditions state k)
unfolding has distinct
held_numbered state k = refl

held_within : (state : NamedRun) → length (held_by state) ≤ state.names.count
held_within state = omega (arith, length-take state.names.count state.names.entries)

-- what an accepted naming means
pub record Named (state : NamedRun) (k : ℕ) : Type 0 where
  pub sound : broken_named state ≡ false
  pub room : names_full state k ≡ false
  pub next : (name_of state k).state ≡ with_held state (naming k state.run.place (held_by state))

pub name_accepted : (state : NamedRun) (k : ℕ) → (name_of state k).number ≡ 0 → Named state k
unfolding name_of
name_accepted state k z =
    let clear = first_clear (name_conditions state k) (name_numbered state k) (sym (answer_number (first (name_conditions state k)) _ state) ∙ z) in
    record { sound = clear 0; room = clear 1; next = answer_next _ _ state (sym (answer_number (first (name_conditions state k)) _ state) ∙ z) }

-- an accepted drop
pub record Dropped (state : NamedRun) (k : ℕ) : Type 0 where
  pub sound : broken_named state ≡ false
  pub is_held_lem : is_held k (held_by state) ≡ true
  pub next : (drop_of state k).state ≡ with_held state (dropping k (held_by state))

not_not_held : (state : NamedRun) (k : ℕ) → not_held state k ≡ false → is_held k (held_by state) ≡ true
unfolding not_held
not_not_held state k e = not-false (is_held k (held_by state)) e

pub drop_accepted : (state : NamedRun) (k : ℕ) → (drop_of state k).number ≡ 0 → Dropped state k
unfolding drop_of
drop_accepted state k z =
    let number = sym (answer_number (first (held_conditions state k)) (with_held state (dropping k (held_by state))) state) ∙ z in
    let clear = first_clear (held_conditions state k) (held_numbered state k) number in
    record { sound = clear 0; is_held_lem = not_not_held state k (clear 1); next = answer_next _ _ state number }

-- an accepted return
pub record Returned (state : NamedRun) (k : ℕ) : Type 0 where
  pub sound : broken_named state ≡ false
  pub is_held_lem : is_held k (held_by state) ≡ true
  pub next : (return_of state k).state ≡ at_place state (place_under k (held_by state))

pub return_accepted : (state : NamedRun) (k : ℕ) → (return_of state k).number ≡ 0 → Returned state k
unfolding return_of
return_accepted state k z =
    let number = sym (answer_number (first (held_conditions state k)) (at_place state (place_under k (held_by state))) state) ∙ z in
    let clear = first_clear (held_conditions state k) (held_numbered state k) number in
    record { sound = clear 0; is_held_lem = not_not_held state k (clear 1); next = answer_next _ _ state number }

-- other names that keep the rules
with_sound : (state : NamedRun) (hs : List Held) → broken state.run ≡ false → length hs ≤ name_limit → name_twice hs ≡ false
    → some_place_broken state.run.job (marks_in state.run) hs ≡ false → broken_named (with_held state hs) ≡ false
unfolding holding
with_sound state hs run few once places =
    named_unbroken (with_held state hs) (record {
      run = run;
      few = few;
      once = rw (holding_holds state.names hs) once;
      places = rw (holding_holds state.names hs) places;
    })

-- one name more has room
name_few : (state : NamedRun) (k : ℕ) → state.names.count ≤ name_limit → names_full state k ≡ false → length (naming k state.run.place (held_by state)) ≤ name_limit
unfolding names_full
name_few state k few room = go (is_held k (held_by state)) refl
  where
    go : (b : Bool) → is_held k (held_by state) ≡ b → length (naming k state.run.place (held_by state)) ≤ name_limit
    go true q = omega (arith, naming_held_long k state.run.place (held_by state) q, held_within state, few)
    go false q =
        let other : state.names.count ≡ name_limit → ⊥ = eqb-false state.names.count name_limit (rw q at room) in
        omega (arith, naming_long k state.run.place (held_by state), held_within state, few, other)

place_right : (run : Run) → broken run ≡ false → broken_place run.job (marks_in run) run.place ≡ false
place_right run right = place_unbroken run.job (marks_in run) run.place (run_place run right)

name_keeps_sound : (state : NamedRun) (k : ℕ) → (name_of state k).number ≡ 0 → broken_named (name_of state k).state ≡ false
name_keeps_sound state k z =
    let a = name_accepted state k z in
    let p = named_passed state a.sound in
    rw a.next
    (with_sound state (naming k state.run.place (held_by state)) p.run (name_few state k p.few a.room)
    (naming_once k state.run.place (held_by state) p.once)
    (naming_places state.run.job (marks_in state.run) k state.run.place (held_by state) (place_right state.run p.run) p.places))

drop_keeps_sound : (state : NamedRun) (k : ℕ) → (drop_of state k).number ≡ 0 → broken_named (drop_of state k).state ≡ false
drop_keeps_sound state k z =
    let a = drop_accepted state k z in
    let p = named_passed state a.sound in
    rw a.next
    (with_sound state (dropping k (held_by state)) p.run (omega (arith, dropping_long k (held_by state), held_within state, p.few))
    (dropping_once k (held_by state) p.once)
    (dropping_places state.run.job (marks_in state.run) k (held_by state) p.places))

return_keeps_sound : (state : NamedRun) (k : ℕ) → (return_of state k).number ≡ 0 → broken_named (return_of state k).state ≡ false
return_keeps_sound state k z =
    let a = return_accepted state k z in
    let p = named_passed state a.sound in
    let place : Place = place_under k (held_by state) in
    let right = place_passed state.run.job (marks_in state.run) place (under_right state.run.job (marks_in state.run) k (held_by state) a.is_held_lem p.places) in
    rw a.next
    (named_unbroken (at_place state place) (record {
      run = unbroken (standing state.run place) (run_values state.run p.run) right;
      few = p.few;
      once = p.once;
      places = p.places;
    }))

-- what an accepted log gives
pub record Logged (state : NamedRun) (l : List ℕ) : Type 0 where
  pub sound : broken_named state ≡ false
  pub is : log_of state l ≡ beside state.names (log.log_of state.run l)
  pub number : (log.log_of state.run l).number ≡ 0

pub log_accepted : (state : NamedRun) (l : List ℕ) → (log_of state l).number ≡ 0 → Logged state l
log_accepted state l z = go (broken_named state) refl
  where
    some : (b : Bool) → cond b Numbers.bad_record Numbers.broken ≡ 0 → ⊥
    some true e = omega (arith, e)
    some false e = omega (arith, e)

    go : (b : Bool) → broken_named state ≡ b → Logged state l
    go true q = absurd (some (bad_first l) (ap (λ (s : NamedStepped). s.number) (sym (log_broken state l q)) ∙ z))
    go false q =
        let is = log_beside state.names state.run l (named_right state q) in
        record { sound = q; is = is; number = ap (λ (s : NamedStepped). s.number) (sym is) ∙ z }

log_keeps : (state : NamedRun) (l : List ℕ) → (log_of state l).number ≡ 0 → broken_named (log_of state l).state ≡ false
unfolding broken_named
log_keeps state l z =
    let a = log_accepted state l z in
    rw (a.is, log_keeps_sound state.run l a.number) (log_right state.names state.run l (named_right state a.sound))

-- a state that an accepted call leaves is accepted by 21
pub call_keeps_sound : (state : NamedRun) (c : Call) → (call_of state c).number ≡ 0 → broken_named (call_of state c).state ≡ false
unfolding call_of
call_keeps_sound state (logged l) z = log_keeps state l z
call_keeps_sound state (named k) z = name_keeps_sound state k z
call_keeps_sound state (dropped k) z = drop_keeps_sound state k z
call_keeps_sound state (returned k) z = return_keeps_sound state k z

-- a refused call leaves the state
pub call_refused_same : (state : NamedRun) (c : Call) → ((call_of state c).number ≡ 0 → ⊥) → (call_of state c).state ≡ state
unfolding call_of name_of drop_of return_of
call_refused_same state (logged l) z = log_refused_same state l z
call_refused_same state (named k) z = answer_same _ _ state (λ e. z (answer_number _ _ state ∙ e))
call_refused_same state (dropped k) z = answer_same _ _ state (λ e. z (answer_number _ _ state ∙ e))
call_refused_same state (returned k) z = answer_same _ _ state (λ e. z (answer_number _ _ state ∙ e))

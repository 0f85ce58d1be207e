-- Calls that are made one by one have the text of all of them in turn. Assumes nothing.
use Prim.Native.Nat.{ℕ, ◌+◌, ◌-◌, ◌*◌, ◌<◌, ◌≤◌}
use mathlib.Core.Path.{◌≡◌, refl, sym, ◌∙◌, ap}
use mathlib.Core.List.{List, [], ◌∷◌, ◌++◌, append_assoc, append-nil}
use mathlib.Core.Logic.{◌⊎◌, inl, inr}
use native.Mathlib.Decide.{ℕ_discrete}
use native.Mathlib.Nat.{eq-zero-or-pos}
use native.Mathlib.Omega.{arith}
use lib.ListN.{length, get_or, length-append}
use borrow.Author.Tests.{eq-eqb, ne_eqb}
use Rattle.starting.specs.Start.{start_of}
use Rattle.named.specs.declared.NamedRun.{NamedRun}
use Rattle.naming.specs.Calls.{answered}
use Rattle.naming.specs.Turns.{Call, call_of, in_turn}
use Rattle.naming.specs.Turns.Call.{logged}
use Rattle.naming.specs.declared.NamedStepped.{NamedStepped}
use Rattle.output.specs.Words.{name_word, drop_word, return_word}
use Rattle.output.specs.Texts.{standing_text, Holds, Text}
use Rattle.follow.specs.Prints.{named_text, unnamed, Unread, Leads, Lost, LogLed, CallLed, TurnsPrint, RunPrints, FollowPrints, CallPrints}
use Rattle.std.specs.Prelude.{Result, Ok, Err}

-- the words differ in their first letters
pub name_drop : name_word ≡ drop_word → ⊥
name_drop e = absurd (omega (arith, ap (λ (l : List ℕ). get_or l 0 0) e))

pub name_return : name_word ≡ return_word → ⊥
name_return e = absurd (omega (arith, ap (λ (l : List ℕ). get_or l 0 0) e))

pub drop_return : drop_word ≡ return_word → ⊥
drop_return e = absurd (omega (arith, ap (λ (l : List ℕ). get_or l 0 0) e))

-- one call
pub one_call : (state : NamedRun) (c : Call) → in_turn state (c ∷ []) ≡ call_of state c
unfolding in_turn
one_call state c = go (ℕ_discrete (call_of state c).number 0)
  where
    go : Dec ((call_of state c).number ≡ 0) → in_turn state (c ∷ []) ≡ call_of state c
    go (yes e) = rw (eq-eqb _ _ e) (ap (λ n. answered n (call_of state c).state) (sym e))
    go (no h) = rw (ne_eqb _ _ h) refl

-- a call that is accepted, and those after it
call_then : (state : NamedRun) (c : Call) (cs : List Call) → (call_of state c).number ≡ 0 → in_turn state (c ∷ cs) ≡ in_turn (call_of state c).state cs
unfolding in_turn
call_then state c cs e = rw (eq-eqb _ _ e) refl

-- a state reached from another by calls that were accepted, with so many words left
pub record Through (first state : NamedRun) (words left : ℕ) : Type 0 where
  pub calls : List Call
  pub all : 2 * length calls + left ≡ words
  pub same : (cs : List Call) → in_turn first (calls ++ cs) ≡ in_turn state cs

pub through_none : (first : NamedRun) (words : ℕ) → Through first first words words
through_none first words = record { calls = []; all = omega arith; same = λ cs. refl }

-- one call more
pub through_more : {first state : NamedRun} {words left : ℕ} {next : NamedRun} → 2 ≤ left → Through first state words left → CallLed state (Ok next)
    → Through first next words (left - 2)
unfolding Leads Lost
through_more {first} {state} {words} {left} {next} h t (inl l) =
    record {
      calls = t.calls ++ (l.call ∷ []);
      all = omega (arith, t.all, length-append t.calls (l.call ∷ []));
      same =
          λ cs.
          rw (append_assoc t.calls (l.call ∷ []) cs, l.leads.1)
          (t.same (l.call ∷ cs) ∙ call_then state l.call cs l.leads.0);
    }
through_more h t (inr l) = absurd l.lost

-- the last call
pub through_last : {first state : NamedRun} {words left : ℕ} {r : Text} → 2 ≤ left → Through first state words left → CallLed state (Err r) → TurnsPrint first words r
unfolding Leads Lost
through_last {first} {state} {words} {left} {r} h t (inl l) =
    let is = t.same (l.call ∷ []) ∙ one_call state l.call in
    inl (record {
      calls = t.calls ++ (l.call ∷ []);
      few = omega (arith, t.all, length-append t.calls (l.call ∷ []));
      all = λ z. absurd (l.leads.0 (ap (λ (s : NamedStepped). s.number) (sym is) ∙ z));
      text = rw is l.leads.1;
    })
through_last h t (inr l) = inr (record { asked = omega (arith, t.all); path = l.path; told = l.lost })

-- no word left
pub through_end : {first state : NamedRun} {words left : ℕ} {r : Text} → left < 2 → Through first state words left
    → Holds (standing_text state.run.place state.names) r → TurnsPrint first words r
unfolding in_turn named_text
through_end {first} {state} h t held =
    inl (record {
      calls = t.calls;
      few = omega (arith, t.all);
      all = λ z. omega (arith, t.all, h);
      text = rw (ap (in_turn first) (sym (append-nil t.calls)) ∙ t.same []) held;
    })

-- a further log is one call
pub log_call : {state : NamedRun} {r : Result NamedRun Text} (path : List ℕ) → LogLed state path r → CallLed state r
unfolding call_of
log_call path (inl l) = inl (record { call = logged l.log; leads = l.leads })
log_call path (inr l) = inr (record { path = path; lost = l })

-- the log alone, where nothing is called after it
pub log_last : {state : NamedRun} {path : List ℕ} {words : ℕ} {r : Text} → LogLed state path (Err r) → RunPrints state path words r
unfolding call_of Leads Lost
log_last {state} (inl l) =
    let is = one_call state (logged l.log) in
    inl (record {
      log = l.log;
      calls = [];
      few = omega arith;
      all = λ z. absurd (l.leads.0 (ap (λ (s : NamedStepped). s.number) (sym is) ∙ z));
      text = rw is l.leads.1;
    })
log_last (inr l) = inr (inl l)

-- the log, and the calls after it
pub log_then : {state : NamedRun} {path : List ℕ} {words : ℕ} {next : NamedRun} {q : Text} → LogLed state path (Ok next) → TurnsPrint next words q
    → RunPrints state path words q
unfolding call_of Leads Lost
log_then {state} {path} {words} {next} {q} (inl l) (inl t) =
    let text = rw l.leads.1 at t.text in
    let all = rw l.leads.1 at t.all in
    let is = call_then state (logged l.log) t.calls l.leads.0 in
    inl (record { log = l.log; calls = t.calls; few = t.few; all = λ z. all (ap (λ (s : NamedStepped). s.number) (sym is) ∙ z); text = rw is text })
log_then (inl l) (inr t) = inr (inr t)
log_then (inr l) t = absurd l

-- whatever is printed, it is in its room
unread_within : (path : List ℕ) (r : Text) → Unread path r → r.length ≤ length r.bytes
unread_within path r (inl t) = t.text_is.within
unread_within path r (inr t) = t.within

run_within : (state : NamedRun) (path : List ℕ) (words : ℕ) (r : Text) → RunPrints state path words r → r.length ≤ length r.bytes
run_within state path words r (inl t) = t.text.within
run_within state path words r (inr (inl t)) = unread_within path r t
run_within state path words r (inr (inr t)) = unread_within t.path r t.told

follow_within : (s marks path : List ℕ) (words : ℕ) (r : Text) → FollowPrints s marks path words r → r.length ≤ length r.bytes
follow_within s marks path words r prints = go (eq-zero-or-pos (start_of s marks).number)
  where
    go : ((start_of s marks).number ≡ 0) ⊎ (0 < (start_of s marks).number) → r.length ≤ length r.bytes
    go (inl e) = run_within (unnamed (start_of s marks).run) path words r (prints.followed e)
    go (inr h) = (prints.refused h).within

pub call_within : (s marks path : List ℕ) (words : ℕ) (r : Text) → CallPrints s marks path words r → r.length ≤ length r.bytes
call_within s marks path words r (inl t) = t.text_is.within
call_within s marks path words r (inr t) = follow_within s marks path words r t

-- Entries past the names held are carried along unread, whatever they hold: a call asks nothing of them, and leaves them as they are. Assumes nothing.
use Prim.Native.Nat.{ℕ, ◌+◌, ◌-◌, ◌≤◌}
use mathlib.Core.Path.{◌≡◌, refl, sym, ◌∙◌, ap}
use mathlib.Core.Bool.{Bool, true, false, cond}
use mathlib.Core.List.{List, ◌++◌, append_assoc}
use native.Mathlib.Decide.{ℕ_discrete}
use native.Mathlib.Omega.{arith}
use lib.Dec.{eqb}
use lib.ListN.{length, get_or, take, drop, replicate, length-append, length-replicate}
use lib.Seq.{get_or-append-add, get_or-drop}
use Rattle.refusals.specs.Refusals.{first}
use Rattle.names.specs.Names.{no_held, naming, dropping, place_under, holding}
use Rattle.names.specs.declared.Held.{Held}
use Rattle.names.specs.declared.Names.{Names}
use Rattle.named.specs.Named.{bad_names, broken_named}
use Rattle.named.specs.declared.NamedRun.{NamedRun}
use Rattle.named.proofs.Passed.{named_right}
use Rattle.naming.specs.Calls.{held_by, with_held, at_place, answer, not_held, names_full, name_conditions, held_conditions, name_of, drop_of, return_of}
use Rattle.naming.specs.Log.{log_of}
use Rattle.naming.specs.Turns.{Call, call_of}
use Rattle.naming.specs.Turns.Call.{logged, named, dropped, returned}
use Rattle.naming.specs.declared.NamedStepped.{NamedStepped}
use Rattle.naming.proofs.Once.{log_beside, log_broken}
use Rattle.commands.specs.Entries.{with_entries, SameButPast, Carried}
use Rattle.commands.proofs.Naming.{holding_holds}
use Rattle.commands.proofs.Sound.{log_accepted, name_accepted, drop_accepted, return_accepted, call_refused_same}

-- past all of them
past : (names : Names) (hs : List Held) (j : ℕ) → names.count ≤ j → length hs ≤ j → get_or (holding names hs).entries j no_held ≡ get_or names.entries j no_held
unfolding holding
past names hs j h k =
    let free : List Held = replicate (names.count - length hs) no_held in
    let size : length (hs ++ free) ≡ length hs + (names.count - length hs) = length-append hs free ∙ ap (λ x. length hs + x) (length-replicate (names.count - length hs) no_held) in
    let m : ℕ = length hs + (names.count - length hs) in
    let at : length (hs ++ free) + (j - m) ≡ j = omega (arith, size, h, k) in
    let there : m + (j - m) ≡ j = omega (arith, h, k) in
    rw (← (append_assoc hs free (drop m names.entries)))
    (ap (λ x. get_or ((hs ++ free) ++ drop m names.entries) x no_held) (sym at)
    ∙ get_or-append-add (hs ++ free) (drop m names.entries) (j - m) no_held
    ∙ get_or-drop m names.entries (j - m) no_held
    ∙ ap (λ x. get_or names.entries x no_held) there)

with_carried : (state : NamedRun) (hs : List Held) → Carried state (with_held state hs)
unfolding holding
with_carried state hs j h k = past state.names hs j h k

same_carried : (state after : NamedRun) → after.names ≡ state.names → Carried state after
same_carried state after e j h k = ap (λ (n : Names). get_or n.entries j no_held) e

accepted_carried : (state : NamedRun) (c : Call) → (call_of state c).number ≡ 0 → Carried state (call_of state c).state
unfolding call_of
accepted_carried state (logged l) z = same_carried state (log_of state l).state (ap (λ (s : NamedStepped). s.state.names) (log_accepted state l z).is)
accepted_carried state (named k) z = rw (name_accepted state k z).next (with_carried state (naming k state.run.place (held_by state)))
accepted_carried state (dropped k) z = rw (drop_accepted state k z).next (with_carried state (dropping k (held_by state)))
accepted_carried state (returned k) z = same_carried state (return_of state k).state (ap (λ (s : NamedRun). s.names) (return_accepted state k z).next)

-- a call leaves the entries past the names held, before and after it
pub entries_carried : (state : NamedRun) (c : Call) → Carried state (call_of state c).state
entries_carried state c = go (ℕ_discrete (call_of state c).number 0)
  where
    go : Dec ((call_of state c).number ≡ 0) → Carried state (call_of state c).state
    go (yes z) = accepted_carried state c z
    go (no z) = same_carried state (call_of state c).state (ap (λ (s : NamedRun). s.names) (call_refused_same state c z))

-- states that differ in entries past the names held at most
record Alike (a b : NamedRun) : Type 0 where
  run : a.run ≡ b.run
  count : a.names.count ≡ b.names.count
  held_same : held_by a ≡ held_by b

answers_alike : {n m : ℕ} {next other a b : NamedRun} → n ≡ m → Alike next other → Alike a b → SameButPast (answer n next a) (answer m other b)
unfolding answer
answers_alike {n} {m} {next} {other} {a} {b} e p q = rw e (go (eqb m 0))
  where
    go : (c : Bool) → SameButPast (record { number = m; state = cond c next a }) (record { number = m; state = cond c other b })
    go true = record { number = refl; run = p.run; count = p.count; held_same = p.held_same }
    go false = record { number = refl; run = q.run; count = q.count; held_same = q.held_same }

-- other entries, the same names held
module _ (state : NamedRun) (entries : List Held) (same : take state.names.count entries ≡ held_by state) where
  broken_unread : broken_named (with_entries state entries) ≡ broken_named state
  unfolding broken_named bad_names
  broken_unread = rw same

  name_refusal : (k : ℕ) → first (name_conditions (with_entries state entries) k) ≡ first (name_conditions state k)
  unfolding names_full
  name_refusal k = rw (broken_unread, same)

  held_refusal : (k : ℕ) → first (held_conditions (with_entries state entries) k) ≡ first (held_conditions state k)
  unfolding not_held
  held_refusal k = rw (broken_unread, same)

  states_alike : Alike (with_entries state entries) state
  states_alike = record { run = refl; count = refl; held_same = same }

  with_alike : (hs others : List Held) → hs ≡ others → Alike (with_held (with_entries state entries) hs) (with_held state others)
  unfolding holding
  with_alike hs others e =
      record {
        run = refl;
        count = ap length e;
        held_same = holding_holds (with_entries state entries).names hs ∙ e ∙ sym (holding_holds state.names others);
      }

  name_unread : (k : ℕ) → SameButPast (name_of (with_entries state entries) k) (name_of state k)
  unfolding name_of
  name_unread k = answers_alike (name_refusal k) (with_alike _ _ (ap (naming k state.run.place) same)) states_alike

  drop_unread : (k : ℕ) → SameButPast (drop_of (with_entries state entries) k) (drop_of state k)
  unfolding drop_of
  drop_unread k = answers_alike (held_refusal k) (with_alike _ _ (ap (dropping k) same)) states_alike

  return_unread : (k : ℕ) → SameButPast (return_of (with_entries state entries) k) (return_of state k)
  unfolding return_of
  return_unread k =
      answers_alike (held_refusal k) (record { run = ap (λ (hs : List Held). (at_place state (place_under k hs)).run) same; count = refl; held_same = same }) states_alike

  log_unread : (l : List ℕ) → SameButPast (log_of (with_entries state entries) l) (log_of state l)
  log_unread l = go (broken_named state) refl
    where
      go : (b : Bool) → broken_named state ≡ b → SameButPast (log_of (with_entries state entries) l) (log_of state l)
      go true q =
          rw (log_broken (with_entries state entries) l (broken_unread ∙ q), log_broken state l q) (record { number = refl; run = refl; count = refl; held_same = same })
      go false q =
          rw (
            log_beside (with_entries state entries).names state.run l (named_right (with_entries state entries) (broken_unread ∙ q)),
            log_beside state.names state.run l (named_right state q),
          ) (record { number = refl; run = refl; count = refl; held_same = same })

  -- a call asks nothing of entries past the names held
  pub entries_unread : (c : Call) → SameButPast (call_of (with_entries state entries) c) (call_of state c)
  unfolding call_of
  entries_unread (logged l) = log_unread l
  entries_unread (named k) = name_unread k
  entries_unread (dropped k) = drop_unread k
  entries_unread (returned k) = return_unread k

-- What a caller holds: a start that was accepted, no name held, and then logs and names in any order, some of them refused. The run stands where the present history
-- says, and just the names told are held, each with the place of the history that it remembers. Assumes nothing.
use Prim.Native.Nat.{ℕ}
use mathlib.Core.Path.{◌≡◌, refl, sym, ◌∙◌, ap}
use mathlib.Core.Bool.{true, false, cond, false≢true}
use mathlib.Core.List.{List, [], ◌∷◌, ◌++◌}
use native.Mathlib.Decide.{ℕ_discrete}
use native.Mathlib.Omega.{arith}
use borrow.Author.Tests.{eq-eqb, ne_eqb}
use lib.Dec.{eqb}
use Rattle.sheet.specs.Reading.{job_of}
use Rattle.marks.specs.Marks.{marks_of}
use Rattle.rules.specs.Rules.{total_of}
use Rattle.state.specs.declared.Place.{Place}
use Rattle.state.specs.declared.Run.{Run}
use Rattle.following.specs.Run.{accepted, standing}
use Rattle.following.specs.declared.Stepped.{Stepped}
use Rattle.starting.specs.Start.{start_of}
use Rattle.events.specs.declared.Event.{Event}
use Rattle.logs.specs.Log as log
use Rattle.logs.proofs.Records.{accepted_is}
use Rattle.history.specs.Events.{steps, events_of}
use Rattle.history.specs.Counts.{place_of, ticks}
use Rattle.history.proofs.StartsAccepted.{start_is_sound}
use Rattle.history.proofs.Histories.{ticks_are_sums}
use Rattle.history.proofs.Logs.{steps_append, log_is_steps}
use Rattle.history.proofs.Callers.{start_follows_history}
use Rattle.names.specs.Names.{is_held, naming, dropping, place_under}
use Rattle.names.specs.declared.Names.{Names}
use Rattle.named.specs.Named.{name_twice, some_place_broken, broken_named}
use Rattle.named.specs.declared.NamedRun.{NamedRun}
use Rattle.named.proofs.Passed.{named_passed, named_unbroken}
use Rattle.naming.specs.Calls.{held_by, name_of, drop_of, return_of}
use Rattle.naming.specs.Log.{log_of}
use Rattle.naming.specs.Turns.{Call, call_of, in_turn}
use Rattle.naming.specs.Turns.Call.{logged, named, dropped, returned}
use Rattle.naming.specs.declared.NamedStepped.{NamedStepped}
use Rattle.commands.specs.Commands.{Command, Told, nothing, among, tells, tells_from, told}
use Rattle.commands.specs.Commands.Command.{name, drop, return}
use Rattle.commands.specs.Callers.{commands_of, all_commands, tried_calls, taken_calls, Stands}
use Rattle.commands.proofs.Naming.{holding_holds}
use Rattle.commands.proofs.Sound.{name_accepted, drop_accepted, return_accepted, log_accepted, call_keeps_sound, call_refused_same}
use Rattle.commands.proofs.Told.{entries, held_among, entries_naming, entries_dropping, entries_under, among_besides, among_named, tells_events}

nothing_among : (k : ℕ) → among k [] ≡ false
unfolding among
nothing_among k = refl

-- commands, then others
tells_append : (t : Told) (cs ds : List Command) → tells_from t (cs ++ ds) ≡ tells_from (tells_from t cs) ds
unfolding tells_from
tells_append t [] ds = refl
tells_append t (c ∷ cs) ds = tells_append (tells t c) cs ds

-- calls that are all accepted are those tried in turn, and all their commands are taken
turns_tried : (state : NamedRun) (calls : List Call) → (in_turn state calls).number ≡ 0
    → (tried_calls state calls ≡ (in_turn state calls).state) × (taken_calls state calls ≡ all_commands calls)
unfolding in_turn tried_calls taken_calls all_commands
turns_tried state [] z = (refl, refl)
turns_tried state (c ∷ cs) z = go (ℕ_discrete (call_of state c).number 0) (turns_tried (call_of state c).state cs)
  where
    go : Dec ((call_of state c).number ≡ 0)
        → ((in_turn (call_of state c).state cs).number ≡ 0
        → (tried_calls (call_of state c).state cs ≡ (in_turn (call_of state c).state cs).state) × (taken_calls (call_of state c).state cs ≡ all_commands cs))
        → (tried_calls (call_of state c).state cs ≡ (in_turn state (c ∷ cs)).state)
        × (cond (eqb (call_of state c).number 0) (commands_of c) [] ++ taken_calls (call_of state c).state cs ≡ commands_of c ++ all_commands cs)
    go (yes e) ih =
        let rest = ih (rw (eq-eqb _ _ e) at z) in
        rw (eq-eqb _ _ e) (rest.0, ap (λ (l : List Command). commands_of c ++ l) rest.1)
    go (no e) ih = absurd (e (rw (ne_eqb _ _ e) at z))

-- a start that was accepted
module _ (sheet marks : List ℕ) (started : (start_of sheet marks).number ≡ 0) where
  -- a state whose histories were accepted, event by event
  record Follows (t : Told) (state : NamedRun) : Type 0 where
    present : steps (start_of sheet marks).run t.present ≡ accepted state.run
    held_are : held_by state ≡ entries (λ k. place_of (job_of sheet) (marks_of marks) (t.remembered k)) t.names
    each : (k : ℕ) → among k t.names ≡ true → (steps (start_of sheet marks).run (t.remembered k)).number ≡ 0
    sound : broken_named state ≡ false

  -- where accepted events lead
  leads : (events : List Event) → (steps (start_of sheet marks).run events).number ≡ 0
      → steps (start_of sheet marks).run events ≡ accepted (standing (start_of sheet marks).run (place_of (job_of sheet) (marks_of marks) events))
  leads events z = accepted_is (steps (start_of sheet marks).run events) z ∙ ap accepted (start_follows_history sheet marks started events z)

  stands_at : (t : Told) (state : NamedRun) → Follows t state → state.run ≡ standing (start_of sheet marks).run (place_of (job_of sheet) (marks_of marks) t.present)
  stands_at t state fs =
      let is = fs.present in
      sym (ap (λ (s : Stepped). s.run) is) ∙ start_follows_history sheet marks started t.present (ap (λ (s : Stepped). s.number) is)

  total_at : (t : Told) (state : NamedRun) → Follows t state → total_of state.run.place.sums ≡ ticks (job_of sheet) (marks_of marks) t.present
  unfolding place_of
  total_at t state fs = ap (λ (r : Run). total_of r.place.sums) (stands_at t state fs) ∙ sym (ticks_are_sums (job_of sheet) (marks_of marks) t.present)

  once : (t : Told) (state : NamedRun) → Follows t state → name_twice (entries (λ k. place_of (job_of sheet) (marks_of marks) (t.remembered k)) t.names) ≡ false
  once t state fs = rw (← fs.held_are) (named_passed state fs.sound).once

  -- a log
  follows_log : (t : Told) (state : NamedRun) (l : List ℕ) → Follows t state → (log_of state l).number ≡ 0 → broken_named (log_of state l).state ≡ false
      → Follows (record { present = t.present ++ events_of l; names = t.names; remembered = t.remembered }) (log_of state l).state
  follows_log t state l fs z sound =
      let a = log_accepted state l z in
      let events : steps state.run (events_of l) ≡ accepted (log.log_of state.run l).run =
      sym (log_is_steps state.run l a.number) ∙ accepted_is (log.log_of state.run l) a.number in
      let run : (log.log_of state.run l).run ≡ (log_of state l).state.run = ap (λ (s : NamedStepped). s.state.run) (sym a.is) in
      record {
        present = steps_append (start_of sheet marks).run t.present (events_of l) ∙ rw fs.present (events ∙ ap accepted run);
        held_are = ap (λ (s : NamedStepped). held_by s.state) a.is ∙ fs.held_are;
        each = fs.each;
        sound = sound;
      }

  -- a name
  follows_name : (t : Told) (state : NamedRun) (k : ℕ) → Follows t state → (name_of state k).number ≡ 0 → broken_named (name_of state k).state ≡ false
      → Follows (tells t (name k)) (name_of state k).state
  unfolding tells
  follows_name t state k fs z sound =
      let a = name_accepted state k z in
      let g : ℕ → Place = λ j. place_of (job_of sheet) (marks_of marks) (t.remembered j) in
      let h : ℕ → Place = λ j. place_of (job_of sheet) (marks_of marks) (cond (eqb j k) t.present (t.remembered j)) in
      let own : place_of (job_of sheet) (marks_of marks) t.present ≡ state.run.place = sym (ap (λ (r : Run). r.place) (stands_at t state fs)) in
      let here : h k ≡ state.run.place = ap (λ b. place_of (job_of sheet) (marks_of marks) (cond b t.present (t.remembered k))) (eq-eqb k k refl) ∙ own in
      let same : (j : ℕ) → (j ≡ k → ⊥) → h j ≡ g j =
      λ j e. ap (λ b. place_of (job_of sheet) (marks_of marks) (cond b t.present (t.remembered j))) (ne_eqb j k e) in
      record {
        present = fs.present ∙ ap (λ (s : NamedRun). accepted s.run) (sym a.next);
        held_are =
            ap held_by a.next
            ∙ holding_holds state.names (naming k state.run.place (held_by state))
            ∙ ap (naming k state.run.place) fs.held_are
            ∙ entries_naming g h k state.run.place here same t.names (once t state fs);
        each = λ j e. named_each t state k fs j e (ℕ_discrete j k);
        sound = sound;
      }
    where
      named_each : (t : Told) (state : NamedRun) (k : ℕ) → Follows t state → (j : ℕ) → among j (cond (among k t.names) t.names (t.names ++ (k ∷ []))) ≡ true → Dec (j ≡ k)
          → (steps (start_of sheet marks).run (cond (eqb j k) t.present (t.remembered j))).number ≡ 0
      named_each t state k fs j e (yes q) = rw (eq-eqb j k q) (ap (λ (s : Stepped). s.number) fs.present)
      named_each t state k fs j e (no q) = rw (ne_eqb j k q) (fs.each j (among_named j k t.names (λ p. q (sym p)) e))

  -- a drop
  follows_drop : (t : Told) (state : NamedRun) (k : ℕ) → Follows t state → (drop_of state k).number ≡ 0 → broken_named (drop_of state k).state ≡ false
      → Follows (tells t (drop k)) (drop_of state k).state
  unfolding tells
  follows_drop t state k fs z sound =
      let a = drop_accepted state k z in
      let g : ℕ → Place = λ j. place_of (job_of sheet) (marks_of marks) (t.remembered j) in
      record {
        present = fs.present ∙ ap (λ (s : NamedRun). accepted s.run) (sym a.next);
        held_are =
            ap held_by a.next
            ∙ holding_holds state.names (dropping k (held_by state))
            ∙ ap (dropping k) fs.held_are
            ∙ entries_dropping g k t.names (once t state fs);
        each = λ j e. fs.each j (among_besides g k j t.names e);
        sound = sound;
      }

  -- a return
  follows_return : (t : Told) (state : NamedRun) (k : ℕ) → Follows t state → (return_of state k).number ≡ 0 → broken_named (return_of state k).state ≡ false
      → Follows (tells t (return k)) (return_of state k).state
  unfolding tells
  follows_return t state k fs z sound =
      let a = return_accepted state k z in
      let g : ℕ → Place = λ j. place_of (job_of sheet) (marks_of marks) (t.remembered j) in
      let is : among k t.names ≡ true = sym (held_among g k t.names) ∙ ap (is_held k) (sym fs.held_are) ∙ a.is_held_lem in
      let under : place_under k (held_by state) ≡ g k = ap (place_under k) fs.held_are ∙ entries_under g k t.names is in
      let run : (return_of state k).state.run ≡ standing (start_of sheet marks).run (g k) =
      ap (λ (s : NamedRun). s.run) a.next ∙ ap (λ (r : Run). standing r (place_under k (held_by state))) (stands_at t state fs) ∙ ap (standing (start_of sheet marks).run) under in
      record {
        present = leads (t.remembered k) (fs.each k is) ∙ ap accepted (sym run);
        held_are = ap held_by a.next ∙ fs.held_are;
        each = fs.each;
        sound = sound;
      }

  follows_call : (t : Told) (state : NamedRun) (c : Call) → Follows t state → (call_of state c).number ≡ 0 → Follows (tells_from t (commands_of c)) (call_of state c).state
  unfolding call_of commands_of tells_from
  follows_call t state (logged l) fs z = rw (tells_events t (events_of l)) (follows_log t state l fs z (call_keeps_sound state (logged l) z))
  follows_call t state (named k) fs z = follows_name t state k fs z (call_keeps_sound state (named k) z)
  follows_call t state (dropped k) fs z = follows_drop t state k fs z (call_keeps_sound state (dropped k) z)
  follows_call t state (returned k) fs z = follows_return t state k fs z (call_keeps_sound state (returned k) z)

  follows_calls : (t : Told) (state : NamedRun) (calls : List Call) → Follows t state → Follows (tells_from t (taken_calls state calls)) (tried_calls state calls)
  unfolding taken_calls tried_calls tells_from
  follows_calls t state [] fs = fs
  follows_calls t state (c ∷ cs) fs = go (ℕ_discrete (call_of state c).number 0) (λ t fs. follows_calls t (call_of state c).state cs fs)
    where
      go : Dec ((call_of state c).number ≡ 0)
          → ((t : Told) → Follows t (call_of state c).state → Follows (tells_from t (taken_calls (call_of state c).state cs)) (tried_calls (call_of state c).state cs))
          → Follows (tells_from t (cond (eqb (call_of state c).number 0) (commands_of c) [] ++ taken_calls (call_of state c).state cs)) (tried_calls (call_of state c).state cs)
      go (yes z) ih =
          rw (eq-eqb _ _ z, tells_append t (commands_of c) (taken_calls (call_of state c).state cs)) (ih (tells_from t (commands_of c)) (follows_call t state c fs z))
      go (no z) ih = rw (ne_eqb _ _ z) (ih t (rw (call_refused_same state c z) fs))

  -- the start, with no name held
  module _ (names : Names) (none : names.count ≡ 0) where
    begins : Follows nothing (record { run = (start_of sheet marks).run; names = names })
    unfolding steps name_twice some_place_broken
    begins =
        record {
          present = refl;
          held_are = rw none;
          each = λ k e. absurd (false≢true (none_among k e));
          sound = named_unbroken (record { run = (start_of sheet marks).run; names = names }) (record {
            run = start_is_sound sheet marks started;
            few = omega (arith, none);
            once = rw none;
            places = rw none;
          });
        }
      where
        none_among : (k : ℕ) → among k [] ≡ true → false ≡ true
        none_among k e = sym (nothing_among k) ∙ e

    -- after calls tried in turn, some of them refused, the state stands where the histories of the accepted commands say
    pub calls_follow_history : (calls : List Call)
        → Stands (job_of sheet) (marks_of marks) (start_of sheet marks).run
        (told (taken_calls (record { run = (start_of sheet marks).run; names = names }) calls)) (tried_calls (record { run = (start_of sheet marks).run; names = names }) calls)
    unfolding told
    calls_follow_history calls =
        let t : Told = tells_from nothing (taken_calls (record { run = (start_of sheet marks).run; names = names }) calls) in
        let state : NamedRun = tried_calls (record { run = (start_of sheet marks).run; names = names }) calls in
        let fs = follows_calls nothing (record { run = (start_of sheet marks).run; names = names }) calls begins in
        record {
          present = stands_at t state fs;
          held_are = fs.held_are;
          total = total_at t state fs;
          sound = fs.sound;
        }

    -- where calls in turn are all accepted, none after a refusal, the state stands where the histories of all their commands say
    pub turns_follow_history : (calls : List Call) → (in_turn (record { run = (start_of sheet marks).run; names = names }) calls).number ≡ 0
        → Stands (job_of sheet) (marks_of marks) (start_of sheet marks).run (told (all_commands calls)) (in_turn (record { run = (start_of sheet marks).run; names = names }) calls).state
    turns_follow_history calls z =
        let start : NamedRun = record { run = (start_of sheet marks).run; names = names } in
        let both = turns_tried start calls z in
        rw (← both.0, ← both.1) (calls_follow_history calls)

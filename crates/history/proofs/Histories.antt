-- A followed run and its history. From any state that 21 accepts, an accepted event adds to each sum what the history counts for it and goes on with the history;
-- so do accepted events one by one, and from the beginning they give the history's own place and sums. Assumes nothing.
use Prim.Native.Nat.{ℕ, zero, suc, ◌+◌, ◌-◌, ◌≤◌, ◌<◌}
use mathlib.Core.Path.{◌≡◌, refl, ◌∙◌, ap}
use mathlib.Core.Bool.{Bool, true, false, not, ◌||◌, cond}
use mathlib.Core.List.{List, [], ◌∷◌}
use native.Mathlib.Decide.{dec_le, ℕ_discrete}
use native.Mathlib.Numerals.{add-one}
use native.Mathlib.Omega.{arith}
use borrow.Author.Tests.{le-leb, lt-leb, eq-eqb, ne_eqb, eqb-false, not-false}
use lib.Dec.{leb, eqb}
use Rattle.chain.specs.Time.{Marks, memory, disk}
use Rattle.chain.proofs.Equations.{last_first, last_le}
use Rattle.lists.proofs.Lists.{or_fails}
use Rattle.job.specs.Job.{total, between}
use Rattle.job.specs.declared.Job.{Job}
use Rattle.job.proofs.Weights.{total_more, total_mono}
use Rattle.marks.specs.Pays.{table, pays_of}
use Rattle.costs.specs.Costs.{v_at, cm_at, cd_at, verify_paid, saves_paid}
use Rattle.rules.specs.Rules.{total_of, marks_in, awaits, bad_awaiting, broken}
use Rattle.state.specs.State.{beginning}
use Rattle.state.specs.declared.Sums.{Sums}
use Rattle.state.specs.declared.Place.{Place}
use Rattle.state.specs.declared.Run.{Run}
use Rattle.rules.proofs.Copies.{last_up_to}
use Rattle.rules.proofs.Soundness.{run_place, run_marks}
use Rattle.events.specs.Events.{after_done, after_passed, back_to_memory, back_to_disk, place_after}
use Rattle.following.specs.Run.{next_place, out_of_turn, standing, step_of}
use Rattle.events.specs.declared.Event.{Event}
use Rattle.events.specs.declared.Event.TheVariants.{Done, Passed, Failed, Stopped}
use Rattle.history.specs.Events.{steps}
use Rattle.history.specs.History.{History, at_start, happened, history_from, history}
use Rattle.history.specs.Counts.{count_from, count, joins_kept, moves, joins_redone, joins_verify, joins_saves, joins_recovery, sums_of, place_of, ticks_of, ticks}
use Rattle.history.specs.States.{history_at, Added, Plain, StepCounts}
use Rattle.following.proofs.Steps.{step_accepted}
use Rattle.history.proofs.Copies.{history_goes_on}

-- what a mark pays, by its row of the table and by its number
record Pays (job : Job) (k v : ℕ) : Type 0 where
  verify : verify_paid job k v ≡ v_at job v
  saves : saves_paid job k v ≡ cond (leb memory k) (cm_at job v) 0 + cond (leb disk k) (cd_at job v) 0

mark_pays : (job : Job) (k v : ℕ) → 0 < k → k ≤ disk → Pays job k v
unfolding verify_paid saves_paid pays_of table
mark_pays job zero v a b = absurd (omega arith)
mark_pays job (suc zero) v a b = record { verify = refl; saves = refl }
mark_pays job (suc (suc zero)) v a b = record { verify = refl; saves = refl }
mark_pays job (suc (suc (suc zero))) v a b = record { verify = refl; saves = refl }
mark_pays job (suc (suc (suc (suc k)))) v a b = absurd (omega arith)

-- the parts of an event's ticks
ticks_parts : (job : Job) (f : Marks) (h : History) (e : Event)
    → ticks_of job f h e ≡ joins_kept job h e + joins_redone h e + joins_verify job h e + joins_saves job f h e + joins_recovery job h e
unfolding ticks_of joins_kept joins_redone joins_verify joins_saves joins_recovery
ticks_parts job f h Done = omega arith
ticks_parts job f h Passed = omega arith
ticks_parts job f h Failed = omega arith
ticks_parts job f h (Stopped lost) = omega arith

-- the five sums by themselves
record Each (job : Job) (f : Marks) (h : History) (e : Event) (before after : Sums) : Type 0 where
  kept : after.kept + moves job h e ≡ before.kept + joins_kept job h e
  redone : after.redone ≡ before.redone + (joins_redone h e + moves job h e)
  verify : after.verify ≡ before.verify + joins_verify job h e
  saves : after.saves ≡ before.saves + joins_saves job f h e
  recovery : after.recovery ≡ before.recovery + joins_recovery job h e

each_added : {job : Job} {f : Marks} {h : History} {e : Event} {before after : Sums} → Each job f h e before after → Added job f h e before after
unfolding total_of
each_added {job} {f} {h} {e} each =
    record {
      kept = each.kept;
      redone = each.redone;
      verify = each.verify;
      saves = each.saves;
      recovery = each.recovery;
      together = omega (arith, ticks_parts job f h e, each.kept, each.redone, each.verify, each.saves, each.recovery);
    }

module _ (run : Run) (unbroken : broken run ≡ false) where
  kept_here : run.place.sums.kept ≡ total run.job.weights run.place.position
  kept_here = (run_place run unbroken).kept

  -- the weights after a copy, which are part of what is kept
  moved_within : (c : ℕ) → c ≤ run.place.position → between run.job.weights c run.place.position ≤ run.place.sums.kept
  unfolding between
  moved_within c l = omega (arith, kept_here, total_mono run.job.weights c run.place.position l)

  -- an awaited verification is that of a mark
  awaited_mark : awaits run.place ≡ true → 0 < marks_in run run.place.position
  unfolding bad_awaiting
  awaited_mark t =
      let clear : (eqb run.place.position 0 || eqb (marks_in run run.place.position) 0) ≡ false = rw t at (run_place run unbroken).awaiting in
      omega (arith, eqb-false (marks_in run run.place.position) 0 (or_fails (eqb run.place.position 0) _ clear).1)

  event_counted : (e : Event) → out_of_turn (awaits run.place) e ≡ false
      → Each run.job (marks_in run) (history_at run) e run.place.sums (next_place run e).sums
  unfolding
      history_at next_place place_after out_of_turn after_done after_passed back_to_memory back_to_disk joins_kept moves joins_redone joins_verify joins_saves joins_recovery
  event_counted Done t = record { kept = omega arith; redone = omega arith; verify = omega arith; saves = omega arith; recovery = omega arith }
  event_counted Passed t =
      let p : ℕ = run.place.position in
      let pays = mark_pays run.job (marks_in run p) p (awaited_mark (not-false (awaits run.place) t)) (run_marks run unbroken p (run_place run unbroken).position) in
      record {
        kept = omega arith;
        redone = omega arith;
        verify = omega (arith, pays.verify);
        saves = omega (arith, pays.saves);
        recovery = omega arith;
      }
  event_counted Failed t =
      let p : ℕ = run.place.position in
      let within = moved_within _ (last_le memory (marks_in run) p) in
      rw (not-false (awaits run.place) t)
      (record { kept = omega (arith, within); redone = omega arith; verify = omega arith; saves = omega arith; recovery = omega arith })
  event_counted (Stopped lost) t =
      let p : ℕ = run.place.position in
      let within = moved_within _ (last_up_to disk (marks_in run) p) in
      rw t (record { kept = omega (arith, within); redone = omega arith; verify = omega arith; saves = omega arith; recovery = omega arith })

-- an event leaves 0 or 1, whatever stood there
byte_plain : (b : Bool) → ◌≡◌ {A = ℕ} (cond b 0 1) (cond (not (eqb (cond b 0 1) 0)) 1 0)
byte_plain true = refl
byte_plain false = refl

next_plain : (run : Run) (e : Event) → Plain (next_place run e)
unfolding next_place place_after after_done after_passed back_to_memory back_to_disk
next_plain run Done = byte_plain (eqb (marks_in run (suc run.place.position)) 0)
next_plain run Passed = refl
next_plain run Failed = refl
next_plain run (Stopped lost) = refl

-- an accepted event, from any state
pub step_counts : (run : Run) (e : Event) → (step_of run e).number ≡ 0 → StepCounts run e (step_of run e).run
step_counts run e z =
    let a = step_accepted run e z in
    rw a.next
    (record {
      same_sheet = refl;
      goes_on = history_goes_on run e a.in_turn_lem;
      plain = next_plain run e;
      added = each_added (event_counted run a.unbroken e a.in_turn_lem);
    })

-- accepted events one by one, from any state: what StepCounts says of one event, of all of them
record Followed (run : Run) (events : List Event) (after : Run) : Type 0 where
  same_sheet : after ≡ standing run after.place
  goes_on : history_at after ≡ history_from (marks_in run) (history_at run) events
  plain : Plain run.place → Plain after.place
  kept : after.place.sums.kept + count_from (moves run.job) (marks_in run) (history_at run) events
      ≡ run.place.sums.kept + count_from (joins_kept run.job) (marks_in run) (history_at run) events
  redone : after.place.sums.redone
      ≡ run.place.sums.redone
      + (count_from joins_redone (marks_in run) (history_at run) events + count_from (moves run.job) (marks_in run) (history_at run) events)
  verify : after.place.sums.verify ≡ run.place.sums.verify + count_from (joins_verify run.job) (marks_in run) (history_at run) events
  saves : after.place.sums.saves ≡ run.place.sums.saves + count_from (joins_saves run.job (marks_in run)) (marks_in run) (history_at run) events
  recovery : after.place.sums.recovery ≡ run.place.sums.recovery + count_from (joins_recovery run.job) (marks_in run) (history_at run) events

nothing_followed : (run : Run) → Followed run [] run
unfolding history_from count_from
nothing_followed run =
    record { same_sheet = refl; goes_on = refl; plain = λ p. p; kept = refl; redone = omega arith; verify = omega arith; saves = omega arith; recovery = omega arith }

-- one event, then the others
event_followed : (run : Run) (place : Place) (e : Event) (events : List Event) (after : Run) → StepCounts run e (standing run place)
    → Followed (standing run place) events after → Followed run (e ∷ events) after
unfolding history_from count_from
event_followed run place e events after one others =
    let added = one.added in
    record {
      same_sheet = others.same_sheet;
      goes_on = rw one.goes_on at others.goes_on;
      plain = λ p. others.plain one.plain;
      kept = omega (arith, added.kept, rw one.goes_on at others.kept);
      redone = omega (arith, added.redone, rw one.goes_on at others.redone);
      verify = omega (arith, added.verify, rw one.goes_on at others.verify);
      saves = omega (arith, added.saves, rw one.goes_on at others.saves);
      recovery = omega (arith, added.recovery, rw one.goes_on at others.recovery);
    }

follows_on : (run : Run) (events : List Event) → (steps run events).number ≡ 0 → Followed run events (steps run events).run
unfolding steps
follows_on run [] z = nothing_followed run
follows_on run (e ∷ es) z = go (ℕ_discrete (step_of run e).number 0) (λ r. follows_on r es)
  where
    go : Dec ((step_of run e).number ≡ 0) → ((r : Run) → (steps r es).number ≡ 0 → Followed r es (steps r es).run)
        → Followed run (e ∷ es) (cond (eqb (step_of run e).number 0) (steps (step_of run e).run es) (step_of run e)).run
    go (yes q) ih =
        let next = (step_accepted run e q).next in
        rw (eq-eqb _ _ q, next)
        (event_followed run (next_place run e) e es _ (rw next at (step_counts run e q)) (ih (standing run (next_place run e)) (rw (eq-eqb _ _ q, next) at z)))
    go (no q) ih = absurd (q (rw (ne_eqb _ _ q) at z))

same_place : {p q a b k l r s v w x y c d : ℕ} → p ≡ q → a ≡ b → k ≡ l → r ≡ s → v ≡ w → x ≡ y → c ≡ d
    → ◌≡◌ {A = Place}
    (record { position = p; awaiting = a; sums = record { kept = k; redone = r; verify = v; saves = x; recovery = c } })
    (record { position = q; awaiting = b; sums = record { kept = l; redone = s; verify = w; saves = y; recovery = d } })
same_place e1 e2 e3 e4 e5 e6 e7 = rw (e1, e2, e3, e4, e5, e6, e7)

-- a run that stands before task 1 with all five sums at 0
module _ (run : Run) (new : run.place ≡ beginning) where
  history_begins : history_at run ≡ at_start
  unfolding history_at
  history_begins = rw (new, last_first memory (marks_in run), last_first disk (marks_in run))

  -- demand 2: 'A followed run goes back to the place, and counts the ticks, that the paper's rules give for its whole history.'
  -- Through any accepted events the run stands where its history says, awaits what it awaits, and has its five sums.
  pub follows_history : (events : List Event) → (steps run events).number ≡ 0
      → (steps run events).run ≡ standing run (place_of run.job (marks_in run) events)
  unfolding place_of sums_of history count history_at
  follows_history events z =
      let followed = follows_on run events z in
      let stands = followed.goes_on ∙ ap (λ (h : History). history_from (marks_in run) h events) history_begins in
      let new-kept = ap (λ (p : Place). p.sums.kept) new in
      let new-redone = ap (λ (p : Place). p.sums.redone) new in
      let new-verify = ap (λ (p : Place). p.sums.verify) new in
      let new-saves = ap (λ (p : Place). p.sums.saves) new in
      let new-recovery = ap (λ (p : Place). p.sums.recovery) new in
      followed.same_sheet
      ∙ ap (standing run)
      (same_place
      (ap (λ (h : History). h.position) stands)
      (followed.plain (rw new) ∙ ap (λ (h : History). cond h.awaiting 1 0) stands)
      (omega (arith, new-kept, rw history_begins at followed.kept))
      (omega (arith, new-redone, rw history_begins at followed.redone))
      (omega (arith, new-verify, rw history_begins at followed.verify))
      (omega (arith, new-saves, rw history_begins at followed.saves))
      (omega (arith, new-recovery, rw history_begins at followed.recovery)))

-- the copies of a history lie in order
record Ordered (h : History) : Type 0 where
  in_memory : h.in_memory ≤ h.position
  on_disk : h.on_disk ≤ h.in_memory

-- a copy at p is no later than p, and what saves on disk saves in memory
saved_within : (b : Bool) {p m : ℕ} → m ≤ p → cond b p m ≤ p
saved_within true l = omega arith
saved_within false l = l

saved_order : (k : ℕ) {p m d : ℕ} → d ≤ m → m ≤ p → cond (leb disk k) p d ≤ cond (leb memory k) p m
saved_order k {p} {m} {d} a b = go (dec_le memory k) (dec_le disk k)
  where
    go : Dec (memory ≤ k) → Dec (disk ≤ k) → cond (leb disk k) p d ≤ cond (leb memory k) p m
    go (yes x) (yes y) = rw (le-leb memory k x, le-leb disk k y) (omega arith)
    go (yes x) (no y) = rw (le-leb memory k x, lt-leb disk k (omega arith)) (omega arith)
    go (no x) (yes y) = absurd (omega arith)
    go (no x) (no y) = rw (lt-leb memory k (omega arith), lt-leb disk k (omega arith)) a

module _ (job : Job) (f : Marks) where
  order_kept : (h : History) → Ordered h → (e : Event) → Ordered (happened f h e)
  unfolding happened
  order_kept h o Done = record { in_memory = omega (arith, o.in_memory); on_disk = o.on_disk }
  order_kept h o Passed =
      record { in_memory = saved_within (leb memory (f h.position)) o.in_memory; on_disk = saved_order (f h.position) o.on_disk o.in_memory }
  order_kept h o Failed = record { in_memory = omega arith; on_disk = o.on_disk }
  order_kept h o (Stopped lost) = record { in_memory = omega arith; on_disk = omega arith }

  -- what is kept is the weight up to the position: what joined it less what moved
  balance_one : (h : History) → Ordered h → (e : Event)
      → total job.weights h.position + joins_kept job h e ≡ total job.weights (happened f h e).position + moves job h e
  unfolding happened joins_kept moves between
  balance_one h o Done = omega (arith, rw (add-one h.position) at (total_more job.weights h.position))
  balance_one h o Passed = omega arith
  balance_one h o Failed = omega (arith, total_mono job.weights h.in_memory h.position o.in_memory)
  balance_one h o (Stopped lost) = omega (arith, total_mono job.weights h.on_disk h.position (omega (arith, o.in_memory, o.on_disk)))

  balance : (h : History) → Ordered h → (events : List Event)
      → total job.weights h.position + count_from (joins_kept job) f h events
      ≡ total job.weights (history_from f h events).position + count_from (moves job) f h events
  unfolding history_from count_from
  balance h o [] = refl
  balance h o (e ∷ es) = omega (arith, balance (happened f h e) (order_kept h o e) es, balance_one h o e)

  parts_from : (h : History) (events : List Event)
      → count_from (ticks_of job f) f h events
      ≡ count_from (joins_kept job) f h events
      + count_from joins_redone f h events
      + count_from (joins_verify job) f h events
      + count_from (joins_saves job f) f h events
      + count_from (joins_recovery job) f h events
  unfolding count_from
  parts_from h [] = refl
  parts_from h (e ∷ es) = omega (arith, parts_from (happened f h e) es, ticks_parts job f h e)

  -- 'The ticks of all events, taken from the history, equal the five sums added.'
  pub ticks_are_sums : (events : List Event) → ticks job f events ≡ total_of (sums_of job f events)
  unfolding ticks sums_of count total_of total
  ticks_are_sums events =
      omega (arith, parts_from at_start events, balance at_start (record { in_memory = omega arith; on_disk = omega arith }) events)

-- What an accepted step says: each of 21 to 25 is passed; a refused one leaves the state; and from a state that 21 accepts a step is 22 to 25 alone.
-- Assumes nothing.
use Prim.Native.Nat.{ℕ, ◌<◌}
use mathlib.Core.Path.{◌≡◌, refl}
use mathlib.Core.Bool.{Bool, true, false, ◌&&◌, cond}
use native.Mathlib.Omega.{arith}
use borrow.Author.Tests.{eqb-true, eqb-false, ne_eqb}
use lib.Dec.{eqb}
use Rattle.refusals.specs.Numbers
use Rattle.refusals.specs.Refusals.{first, has, distinct, Numbered}
use Rattle.refusals.proofs.Refusals.{first_clear}
use Rattle.rules.specs.Rules.{awaits, broken, finished, over_total}
use Rattle.rules.proofs.Soundness.{run_place}
use Rattle.following.specs.Run.{out_of_turn, over_weight, next_place, standing, step_conditions, step_refusal, accepted, refused, step_of}
use Rattle.following.specs.Working.Lent.{event_refusal, step_on}
use Rattle.state.specs.declared.Run.{Run}
use Rattle.events.specs.declared.Event.{Event}
use Rattle.following.specs.declared.Stepped.{Stepped}

step_numbered : (run : Run) (event : Event) → Numbered (step_conditions run event)
unfolding has distinct
step_numbered run event = refl

-- what passing 21 to 25 means
pub record Accepted (run : Run) (event : Event) : Type 0 where
  pub unbroken : broken run ≡ false
  pub unfinished : finished run ≡ false
  pub in_turn_lem : out_of_turn (awaits run.place) event ≡ false
  pub within_weight : over_weight run event ≡ false
  pub within_total : over_total (next_place run event).sums ≡ false
  pub next : (step_of run event).run ≡ standing run (next_place run event)

pub step_accepted : (run : Run) (event : Event) → (step_of run event).number ≡ 0 → Accepted run event
unfolding step_of step_refusal
step_accepted run event e =
    let clear = first_clear (step_conditions run event) (step_numbered run event) e in
    record { unbroken = clear 0; unfinished = clear 1; in_turn_lem = clear 2; within_weight = clear 3; within_total = clear 4; next = rw e }

-- a refused event leaves the state
pub step_refused_same : (run : Run) (e : Event) → ((step_of run e).number ≡ 0 → ⊥) → (step_of run e).run ≡ run
unfolding step_of
step_refused_same run e h = rw (ne_eqb _ _ h)

module _ (run : Run) where
  pub step_broken : (event : Event) → broken run ≡ true → refused Numbers.broken run ≡ step_of run event
  unfolding step_of step_refusal first
  step_broken event b = rw b

  -- from a state that 21 accepts
  pub step_on_lem : broken run ≡ false → (event : Event) → step_of run event ≡ step_on run event
  unfolding step_of step_refusal step_on event_refusal first
  step_on_lem right event = rw right (go (event_refusal run event))
    where
      go : (k : ℕ) → ◌≡◌ {A = Stepped} (record { number = k; run = cond (eqb k 0) (standing run (next_place run event)) run })
          (cond (eqb k 0) (accepted (standing run (next_place run event))) (refused k run))
      go k = cases (eqb k 0) refl
        where
          cases : (b : Bool) → eqb k 0 ≡ b → ◌≡◌ {A = Stepped} (record { number = k; run = cond b (standing run (next_place run event)) run })
              (cond b (accepted (standing run (next_place run event))) (refused k run))
          cases true e = rw (eqb-true k 0 e)
          cases false e = refl

  pub step_on_accepted : (event : Event) → event_refusal run event ≡ 0 → step_on run event ≡ accepted (standing run (next_place run event))
  unfolding step_on
  step_on_accepted event z = rw z

  pub step_on_refused : (event : Event) → (event_refusal run event ≡ 0 → ⊥) → step_on run event ≡ refused (event_refusal run event) run
  unfolding step_on
  step_on_refused event z = rw (ne_eqb _ _ z)

  -- 22 to 25 by their tests, in their order
  module _ (event : Event) where
    pub event_finished : finished run ≡ true → Numbers.finished ≡ event_refusal run event
    unfolding event_refusal first
    event_finished f = rw f

    module _ (unfinished : finished run ≡ false) where
      pub event_out_of_turn : out_of_turn (awaits run.place) event ≡ true → Numbers.out_of_turn ≡ event_refusal run event
      unfolding event_refusal first
      event_out_of_turn t = rw (unfinished, t)

      module _ (turn : out_of_turn (awaits run.place) event ≡ false) where
        pub event_over_weight : over_weight run event ≡ true → Numbers.over_weight ≡ event_refusal run event
        unfolding event_refusal first
        event_over_weight w = rw (unfinished, turn, w)

        pub event_over_total : over_weight run event ≡ false → over_total (next_place run event).sums ≡ true → Numbers.over_total ≡ event_refusal run event
        unfolding event_refusal first
        event_over_total w o = rw (unfinished, turn, w, o)

        pub event_accepted : over_weight run event ≡ false → over_total (next_place run event).sums ≡ false → Numbers.accepted ≡ event_refusal run event
        unfolding event_refusal first
        event_accepted w o = rw (unfinished, turn, w, o)

  -- while nothing is awaited in a run that is not finished, a task is running
  pub task_runs : broken run ≡ false → finished run ≡ false → awaits run.place ≡ false → run.place.position < run.job.tasks
  unfolding finished
  task_runs right unfinished a =
      let short = eqb-false run.place.position run.job.tasks (go (eqb run.place.position run.job.tasks) (rw a at unfinished)) in
      omega (arith, (run_place run right).position, short)
    where
      go : (x : Bool) → (x && true) ≡ false → x ≡ false
      go true e = e
      go false e = e

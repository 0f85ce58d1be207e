-- The step of a run from event to event: refusals 21 to 25 of document 01, and the state that follows.
use Rattle.std.specs.Prelude.{ℕ, Bool, false, not, cond, List, [], ◌∷◌, ltb, eqb, Result, Ok, Err}
use Rattle.refusals.specs.Numbers
use Rattle.refusals.specs.Refusals.{Condition, refusal, first}
use Rattle.refusals.specs.Checks.{number}
use Rattle.refusals.specs.declared.Refusal.{Refusal}
use Rattle.job.specs.Job.{weight_at}
use Rattle.state.specs.declared.Place.{Place}
use Rattle.state.specs.declared.Run.{Run}
use Rattle.rules.specs.Rules.{marks_in, awaits, over_total, broken, finished}
use Rattle.events.specs.Events.{place_after}
use Rattle.events.specs.declared.Event.{Event}
use Rattle.events.specs.declared.Event.TheVariants.{Done, Passed, Failed, Stopped}
use Rattle.following.specs.declared.Stepped.{Stepped}

-- the place after the event
unfoldable pub next_place : Run → Event → Place
next_place run event = place_after run.job (marks_in run) run.place event

-- 23: out of turn: Done or Stopped while a verification is awaited, Passed or Failed otherwise
unfoldable pub out_of_turn : Bool → Event → Bool
out_of_turn awaiting Done = awaiting
out_of_turn awaiting Passed = not awaiting
out_of_turn awaiting Failed = not awaiting
out_of_turn awaiting (Stopped lost) = awaiting

-- 24: lost ticks above the running task's weight
unfoldable pub over_weight : Run → Event → Bool
over_weight run Done = false
over_weight run Passed = false
over_weight run Failed = false
over_weight run (Stopped lost) = ltb (weight_at run.job.weights run.place.position) lost

-- refusals 22 to 25, in their order; 25: the new total would pass 2^40
abbrev pub event_conditions : Run → Event → List Condition
event_conditions run event =
    refusal Numbers.finished (finished run)
    ∷ refusal Numbers.out_of_turn (out_of_turn (awaits run.place) event)
    ∷ refusal Numbers.over_weight (over_weight run event)
    ∷ refusal Numbers.over_total (over_total (next_place run event).sums)
    ∷ []

-- refusals 21 to 25, in their order
abbrev pub step_conditions : Run → Event → List Condition
step_conditions run event = refusal Numbers.broken (broken run) ∷ event_conditions run event

unfoldable pub step_refusal : Run → Event → ℕ
step_refusal run event = first (step_conditions run event)

-- the same run at another place
abbrev pub standing : Run → Place → Run
standing run place = record { job = run.job; marks = run.marks; place = place }

-- an answer; a state with nothing refused, and a refusal with the state that it hands back
abbrev pub answered : ℕ → Run → Stepped
answered number run = record { number = number; run = run }

abbrev pub accepted : Run → Stepped
accepted run = answered Numbers.accepted run

abbrev pub refused : ℕ → Run → Stepped
refused number run = answered number run

-- the answer that tells a run, or a refusal and the run from before
abbrev pub stepped : (before : Run) → Result Run Refusal → Stepped
stepped before (Ok run) = accepted run
stepped before (Err refusal) = refused (number refusal) before

-- what a step gives: 0 and the next state, or the first refusal that holds and the state unchanged
unfoldable pub step_of : Run → Event → Stepped
step_of run event =
    record {
      number = step_refusal run event;
      run = cond (eqb (step_refusal run event) 0) (standing run (next_place run event)) run;
    }

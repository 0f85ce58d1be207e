-- A step over lent weights and marks, from a state that 21 accepts.
use Rattle.std.specs.Prelude.{ℕ, ◌≡◌, Bool, false, cond, List, eqb, Result, IfOk}
use Rattle.refusals.specs.Checks.{told}
use Rattle.refusals.specs.declared.Refusal.{Refusal}
use Rattle.refusals.specs.Refusals.{first}
use Rattle.state.specs.declared.Place.{Place}
use Rattle.state.specs.declared.Run.{Run}
use Rattle.rules.specs.Rules.{broken}
use Rattle.carried.specs.Working.Carried.{Carries}
use Rattle.carried.specs.declared.Saved.{Saved}
use Rattle.carried.specs.declared.Carried.{Carried}
use Rattle.events.specs.declared.Event.{Event}
use Rattle.following.specs.Run.{over_weight, event_conditions, next_place, standing, accepted, refused}
use Rattle.following.specs.declared.Lent.{Lent}
use Rattle.following.specs.declared.Stepped.{Stepped}

-- the state that is lent in parts
abbrev pub lent_run : Lent → Carried → Run
lent_run lent carried =
    record { job = record { tasks = lent.tasks; platform = lent.platform; weights = lent.weights.now }; marks = lent.marks.now; place = carried.place }

-- 24 in every state with these weights at this position
abbrev pub OverWeight : (weights : List ℕ) → (position : ℕ) → Event → Bool → Type 0
OverWeight weights position event r = (run : Run) → run.job.weights ≡ weights → run.place.position ≡ position → r ≡ over_weight run event

abbrev pub carrying : Place → (memory disk : Saved) → Carried
carrying place memory disk = record { place = place; memory = memory; disk = disk }

-- a state that 21 accepts, and what is carried of it
pub record ReadyForEvent (run : Run) (c : Carried) : Type 0 where
  pub unbroken : broken run ≡ false
  pub carries : Carries run c

-- the first of 22 to 25 that holds, or 0
unfoldable pub event_refusal : Run → Event → ℕ
event_refusal run event = first (event_conditions run event)

-- what an event gives where 21 is not asked
unfoldable pub step_on : Run → Event → Stepped
step_on run event = cond (eqb (event_refusal run event) 0) (accepted (standing run (next_place run event))) (refused (event_refusal run event) run)

-- the answer of a step: what is carried on of the next state, or the refusal
pub record Moves (run : Run) (event : Event) (m : Result Carried Refusal) : Type 0 where
  pub number : told m ≡ event_refusal run event
  pub carries : IfOk m (λ next. Carries (standing run (next_place run event)) next)

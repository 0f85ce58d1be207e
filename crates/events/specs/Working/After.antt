-- The place after an event, from what the code is lent: in every job with these weights or costs.
use Rattle.std.specs.Prelude.{ℕ, ◌-◌, ◌≡◌, List}
use Rattle.job.specs.Job.{total}
use Rattle.job.specs.declared.Platform.{Platform}
use Rattle.job.specs.declared.Job.{Job}
use Rattle.marks.specs.Marks.{marks_of}
use Rattle.state.specs.declared.Sums.{Sums}
use Rattle.state.specs.declared.Place.{Place}
use Rattle.carried.specs.declared.Saved.{Saved}
use Rattle.events.specs.Events.{move, after_done, after_passed, back_to_memory, back_to_disk}

-- the place at the copy, with the weights after it moved
abbrev pub back_at : Saved → Sums → Place
back_at copy sums = record { position = copy.position; awaiting = 0; sums = move (sums.kept - copy.kept) sums }

-- kept is the weight of the tasks up to the place, and up to the copy
pub record KeptTo (w : List ℕ) (place : Place) (copy : Saved) : Type 0 where
  pub here : place.sums.kept ≡ total w place.position
  pub there : copy.kept ≡ total w copy.position

abbrev pub AfterDone : (weights marks : List ℕ) → Place → Place → Type 0
AfterDone weights marks place next = (job : Job) → job.weights ≡ weights → next ≡ after_done job (marks_of marks) place

abbrev pub AfterPassed : Platform → (marks : List ℕ) → Place → Place → Type 0
AfterPassed platform marks place next = (job : Job) → job.platform ≡ platform → next ≡ after_passed job (marks_of marks) place

abbrev pub AfterFailed : Platform → Place → Saved → Place → Type 0
AfterFailed platform place copy next =
    (job : Job) → job.platform ≡ platform → KeptTo job.weights place copy → next ≡ back_to_memory job place copy.position

abbrev pub AfterStopped : Platform → Place → Saved → (lost : ℕ) → Place → Type 0
AfterStopped platform place copy lost next =
    (job : Job) → job.platform ≡ platform → KeptTo job.weights place copy → next ≡ back_to_disk job place copy.position lost

-- Any state as a history that goes on, and what an accepted event does to it.
use Rattle.std.specs.Prelude.{◌+◌, ◌≡◌, cond}
use Rattle.chain.specs.Time.{Marks, memory, disk, last}
use Rattle.job.specs.declared.Job.{Job}
use Rattle.rules.specs.Rules.{total_of, marks_in, awaits, passed_before}
use Rattle.state.specs.declared.Sums.{Sums}
use Rattle.state.specs.declared.Place.{Place}
use Rattle.state.specs.declared.Run.{Run}
use Rattle.following.specs.Run.{standing}
use Rattle.events.specs.declared.Event.{Event}
use Rattle.history.specs.History.{History, happened}
use Rattle.history.specs.Counts.{joins_kept, moves, joins_redone, joins_verify, joins_saves, joins_recovery, ticks_of}

-- a state as a history that goes on: the copies are the last ones that the marks passed have saved
unfoldable pub history_at : Run → History
history_at run =
    record {
      position = run.place.position;
      awaiting = awaits run.place;
      in_memory = last memory (marks_in run) (passed_before run.place);
      on_disk = last disk (marks_in run) (passed_before run.place);
    }

-- what an event adds to the sums: to each by itself, and together the event's ticks
pub record Added (job : Job) (f : Marks) (h : History) (e : Event) (before after : Sums) : Type 0 where
  pub kept : after.kept + moves job h e ≡ before.kept + joins_kept job h e
  pub redone : after.redone ≡ before.redone + (joins_redone h e + moves job h e)
  pub verify : after.verify ≡ before.verify + joins_verify job h e
  pub saves : after.saves ≡ before.saves + joins_saves job f h e
  pub recovery : after.recovery ≡ before.recovery + joins_recovery job h e
  pub together : total_of after ≡ total_of before + ticks_of job f h e

-- the byte that says whether a verification is awaited is 0 or 1
abbrev pub Plain : Place → Type 0
Plain place = place.awaiting ≡ cond (awaits place) 1 0

-- an accepted event: the sheet's values and the marks stay, the run goes where the history goes from the copies that the marks passed have saved, and to the
-- sums is added what the history counts
pub record StepCounts (run : Run) (e : Event) (after : Run) : Type 0 where
  pub same_sheet : after ≡ standing run after.place
  pub goes_on : history_at after ≡ happened (marks_in run) (history_at run) e
  pub plain : Plain after.place
  pub added : Added run.job (marks_in run) (history_at run) e run.place.sums after.place.sums

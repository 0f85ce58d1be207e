-- What a run has counted, from its job, its marks and its list of events alone: each sum by itself, over the list of events. Weights
-- and costs are those of the job; no definition of the step of a run is used.
use Rattle.std.specs.Prelude.{ℕ, ◌+◌, ◌-◌, cond, List, [], ◌∷◌, leb}
use Rattle.chain.specs.Time.{Marks, memory, disk}
use Rattle.job.specs.Job.{weight_at, between}
use Rattle.job.specs.declared.Job.{Job}
use Rattle.costs.specs.Costs.{v_at, cm_at, cd_at, rd_at, rm_at}
use Rattle.state.specs.declared.Sums.{Sums}
use Rattle.state.specs.declared.Place.{Place}
use Rattle.events.specs.declared.Event.{Event}
use Rattle.events.specs.declared.Event.TheVariants.{Done, Passed, Failed, Stopped}
use Rattle.history.specs.History.{History, at_start, happened, history}

-- ticks by event, from where the run stood before it
abbrev pub Count : Type 0
Count = History → Event → ℕ

-- the ticks of all events from h on
unfoldable pub count_from : Count → Marks → History → List Event → ℕ
count_from c f h [] = 0
count_from c f h (e ∷ es) = c h e + count_from c f (happened f h e) es

unfoldable pub count : Count → Marks → List Event → ℕ
count c f events = count_from c f at_start events

-- Done: the running task's weight joins kept
unfoldable pub joins_kept : Job → Count
joins_kept job h Done = weight_at job.weights h.position
joins_kept job h Passed = 0
joins_kept job h Failed = 0
joins_kept job h (Stopped lost) = 0

-- Failed and Stopped: the weights after the copy move from kept to redone
unfoldable pub moves : Job → Count
moves job h Done = 0
moves job h Passed = 0
moves job h Failed = between job.weights h.in_memory h.position
moves job h (Stopped lost) = between job.weights h.on_disk h.position

-- Stopped: the lost ticks join redone
unfoldable pub joins_redone : Count
joins_redone h Done = 0
joins_redone h Passed = 0
joins_redone h Failed = 0
joins_redone h (Stopped lost) = lost

-- Passed and Failed: V joins verify
unfoldable pub joins_verify : Job → Count
joins_verify job h Done = 0
joins_verify job h Passed = v_at job h.position
joins_verify job h Failed = v_at job h.position
joins_verify job h (Stopped lost) = 0

-- Passed: C_M joins saves at a mark of 2 or 3, and C_D at a mark of 3
unfoldable pub joins_saves : Job → Marks → Count
joins_saves job f h Done = 0
joins_saves job f h Passed =
    cond (leb memory (f h.position)) (cm_at job h.position) 0 + cond (leb disk (f h.position)) (cd_at job h.position) 0
joins_saves job f h Failed = 0
joins_saves job f h (Stopped lost) = 0

-- Failed: R_M' joins recovery. Stopped: R_D' joins recovery
unfoldable pub joins_recovery : Job → Count
joins_recovery job h Done = 0
joins_recovery job h Passed = 0
joins_recovery job h Failed = rm_at job h.in_memory
joins_recovery job h (Stopped lost) = rd_at job h.on_disk

-- the five sums of a run's events
unfoldable pub sums_of : Job → Marks → List Event → Sums
sums_of job f events =
    record {
      kept = count (joins_kept job) f events - count (moves job) f events;
      redone = count joins_redone f events + count (moves job) f events;
      verify = count (joins_verify job) f events;
      saves = count (joins_saves job f) f events;
      recovery = count (joins_recovery job) f events;
    }

-- where the run stands after its events, and its five sums
unfoldable pub place_of : Job → Marks → List Event → Place
place_of job f events =
    record { position = (history f events).position; awaiting = cond (history f events).awaiting 1 0; sums = sums_of job f events }

-- the ticks that an event takes: the task's weight; V and the mark's copies; V and R_M'; the lost ticks and R_D'
unfoldable pub ticks_of : Job → Marks → Count
ticks_of job f h Done = weight_at job.weights h.position
ticks_of job f h Passed =
    v_at job h.position + (cond (leb memory (f h.position)) (cm_at job h.position) 0 + cond (leb disk (f h.position)) (cd_at job h.position) 0)
ticks_of job f h Failed = v_at job h.position + rm_at job h.in_memory
ticks_of job f h (Stopped lost) = lost + rd_at job h.on_disk

-- the ticks of all events
unfoldable pub ticks : Job → Marks → List Event → ℕ
ticks job f events = count (ticks_of job f) f events

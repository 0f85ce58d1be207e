-- Events applied one by one, the events of a log, and events or logs tried in turn.
use Rattle.std.specs.Prelude.{ℕ, zero, suc, ◌<◌, ◌*◌, ◌≡◌, false, cond, List, [], ◌∷◌, ◌++◌, eqb, length}
use Rattle.following.specs.Run.{accepted, step_of}
use Rattle.state.specs.declared.Run.{Run}
use Rattle.events.specs.declared.Event.{Event}
use Rattle.following.specs.declared.Stepped.{Stepped}
use Rattle.logs.specs.Log.{record_length, record_count, record_at, bad_record, event_of, or_before, log_of}

-- events applied one by one; nothing is applied after a refusal
unfoldable pub steps : Run → List Event → Stepped
steps run [] = accepted run
steps run (e ∷ es) = cond (eqb (step_of run e).number 0) (steps (step_of run e).run es) (step_of run e)

-- 12 accepts the records before k
abbrev pub GoodRecords : List ℕ → ℕ → Type 0
GoodRecords log k = (i : ℕ) → i < k → bad_record (record_at log i) ≡ false

-- the events of the records before k
unfoldable pub events_to : List ℕ → ℕ → List Event
events_to log zero = []
events_to log (suc k) = events_to log k ++ (event_of (record_at log k) ∷ [])

-- the events of a log
unfoldable pub events_of : List ℕ → List Event
events_of log = events_to log (record_count log)

-- log b followed after log a, and both as one log. Where a is accepted, the one log gives what b gives from the state after a, but that a refusal hands back
-- the state from before a. Where a, of k whole records, is refused, so is the one log
pub record OneLog (run : Run) (a b : List ℕ) : Type 0 where
  pub accepted_first : (log_of run a).number ≡ 0 → log_of run (a ++ b) ≡ or_before run (log_of (log_of run a).run b)
  pub refused_first : (k : ℕ) → 0 < k → length a ≡ record_length * k → ((log_of run a).number ≡ 0 → ⊥) → log_of run (a ++ b) ≡ log_of run a

-- each event tried in turn, whether or not those before it were accepted: the state after them, and those that were accepted
unfoldable pub tried : Run → List Event → Run
tried run [] = run
tried run (e ∷ es) = tried (step_of run e).run es

unfoldable pub taken : Run → List Event → List Event
taken run [] = []
taken run (e ∷ es) = cond (eqb (step_of run e).number 0) (e ∷ []) [] ++ taken (step_of run e).run es

-- the same of logs
unfoldable pub tried_logs : Run → List (List ℕ) → Run
tried_logs run [] = run
tried_logs run (log ∷ logs) = tried_logs (log_of run log).run logs

unfoldable pub taken_logs : Run → List (List ℕ) → List Event
taken_logs run [] = []
taken_logs run (log ∷ logs) = cond (eqb (log_of run log).number 0) (events_of log) [] ++ taken_logs (log_of run log).run logs

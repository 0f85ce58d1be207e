-- What a caller holds: a start that was accepted, and what was followed after it, by events or by logs, one after another, some of them refused. In each case
-- the run keeps its values and marks, stands where the history of the accepted events says, and has its five sums. Assumes nothing.
use Prim.Native.Nat.{ℕ, zero, suc}
use mathlib.Core.Path.{◌≡◌, refl, sym, ◌∙◌, ap, fun_ext}
use mathlib.Core.Bool.{Bool, true, false, cond}
use mathlib.Core.List.{List, [], ◌∷◌, ◌++◌}
use native.Mathlib.Decide.{ℕ_discrete}
use borrow.Author.Tests.{eq-eqb, ne_eqb}
use lib.Dec.{eqb}
use lib.ListN.{get_or, replicate}
use Rattle.chain.specs.Time.{Marks}
use Rattle.units.specs.Limits.{task_limit}
use Rattle.job.specs.Job.{zero_job}
use Rattle.job.specs.declared.Job.{Job}
use Rattle.sheet.specs.Reading.{job_of}
use Rattle.marks.specs.Marks.{marks_of}
use Rattle.rules.specs.Rules.{total_of, marks_in}
use Rattle.state.specs.State.{beginning, fresh, zero_run, ZeroPast}
use Rattle.state.specs.declared.Run.{Run}
use Rattle.state.proofs.EntriesTaken.{cleared_same, fresh_past_n}
use Rattle.following.specs.Run.{accepted, standing, step_of}
use Rattle.starting.specs.Start.{start_refusal, start_of}
use Rattle.events.specs.declared.Event.{Event}
use Rattle.following.specs.declared.Stepped.{Stepped}
use Rattle.logs.specs.Log.{log_of}
use Rattle.logs.proofs.Records.{accepted_is}
use Rattle.history.specs.Events.{steps, events_of, tried, taken, tried_logs, taken_logs}
use Rattle.history.specs.Counts.{place_of, ticks}
use Rattle.history.proofs.StartsAccepted.{Begun, start_begun}
use Rattle.history.proofs.Histories.{follows_history, ticks_are_sums}
use Rattle.following.proofs.Steps.{step_refused_same}
use Rattle.history.proofs.Logs.{steps_append, one_step, log_is_steps, log_refused_same}

-- accepted events, then what others lead to
steps_then : (run : Run) (es others : List Event) (middle after : Run) → steps run es ≡ accepted middle → steps middle others ≡ accepted after
    → steps run (es ++ others) ≡ accepted after
steps_then run es others middle after e f = steps_append run es others ∙ rw e f

-- the events taken lead where all that were tried lead
taken_steps : (run : Run) (events : List Event) → steps run (taken run events) ≡ accepted (tried run events)
unfolding steps taken tried
taken_steps run [] = refl
taken_steps run (e ∷ es) = go (ℕ_discrete (step_of run e).number 0) (taken_steps (step_of run e).run es)
  where
    go : Dec ((step_of run e).number ≡ 0) → steps (step_of run e).run (taken (step_of run e).run es) ≡ accepted (tried (step_of run e).run es)
        → steps run (cond (eqb (step_of run e).number 0) (e ∷ []) [] ++ taken (step_of run e).run es) ≡ accepted (tried (step_of run e).run es)
    go (yes z) ih = rw (eq-eqb _ _ z)
        (steps_then run (e ∷ []) (taken (step_of run e).run es) (step_of run e).run (tried (step_of run e).run es) (one_step run e ∙ accepted_is (step_of run e) z) ih)
    go (no z) ih = rw (ne_eqb _ _ z) (ap (λ (r : Run). steps r (taken (step_of run e).run es)) (sym (step_refused_same run e z)) ∙ ih)

-- the same of logs
logs_steps : (run : Run) (logs : List (List ℕ)) → steps run (taken_logs run logs) ≡ accepted (tried_logs run logs)
unfolding steps taken_logs tried_logs
logs_steps run [] = refl
logs_steps run (log ∷ logs) = go (ℕ_discrete (log_of run log).number 0) (logs_steps (log_of run log).run logs)
  where
    go : Dec ((log_of run log).number ≡ 0) → steps (log_of run log).run (taken_logs (log_of run log).run logs) ≡ accepted (tried_logs (log_of run log).run logs)
        → steps run (cond (eqb (log_of run log).number 0) (events_of log) [] ++ taken_logs (log_of run log).run logs) ≡ accepted (tried_logs (log_of run log).run logs)
    go (yes z) ih =
        rw (eq-eqb _ _ z) (steps_then run (events_of log) _ (log_of run log).run _ (sym (log_is_steps run log z) ∙ accepted_is (log_of run log) z) ih)
    go (no z) ih = rw (ne_eqb _ _ z) (ap (λ (r : Run). steps r (taken_logs (log_of run log).run logs)) (sym (log_refused_same run log z)) ∙ ih)

-- a start that was accepted
module _ (sheet marks : List ℕ) (started : (start_of sheet marks).number ≡ 0) where
  begun : Begun sheet marks
  begun = start_begun sheet marks started

  start_begins : (start_of sheet marks).run.place ≡ beginning
  unfolding fresh
  start_begins = rw begun.run

  start_job : (start_of sheet marks).run.job ≡ job_of sheet
  start_job = rw begun.run begun.job

  start_marks : marks_in (start_of sheet marks).run ≡ marks_of marks
  unfolding fresh
  start_marks = rw begun.run (fun_ext at)
    where
      at : (v : ℕ) → marks_in (fresh (job_of sheet) marks) v ≡ marks_of marks v
      at zero = refl
      at (suc j) = cleared_same (job_of sheet).tasks marks begun.long begun.few j

  -- through any accepted events the run keeps its sheet's values and marks, stands where the history of the sheet, the marks and the events says, and has its
  -- five sums
  pub start_follows_history : (events : List Event) → (steps (start_of sheet marks).run events).number ≡ 0
      → (steps (start_of sheet marks).run events).run ≡ standing (start_of sheet marks).run (place_of (job_of sheet) (marks_of marks) events)
  start_follows_history events e =
      follows_history (start_of sheet marks).run start_begins events e
      ∙ ap (standing (start_of sheet marks).run) (ap (λ (j : Job). place_of j (marks_in (start_of sheet marks).run) events) start_job
      ∙ ap (λ (f : Marks). place_of (job_of sheet) f events) start_marks)

  -- the same of an accepted log
  pub log_follows_history : (log : List ℕ) → (log_of (start_of sheet marks).run log).number ≡ 0
      → (log_of (start_of sheet marks).run log).run ≡ standing (start_of sheet marks).run (place_of (job_of sheet) (marks_of marks) (events_of log))
  log_follows_history log e =
      let same = log_is_steps (start_of sheet marks).run log e in
      ap (λ (s : Stepped). s.run) same ∙ start_follows_history (events_of log) (ap (λ (s : Stepped). s.number) (sym same) ∙ e)

  -- and its five sums added are the ticks of the log's events
  pub log_ticks : (log : List ℕ) → (log_of (start_of sheet marks).run log).number ≡ 0
      → total_of (log_of (start_of sheet marks).run log).run.place.sums ≡ ticks (job_of sheet) (marks_of marks) (events_of log)
  unfolding place_of
  log_ticks log e =
      ap (λ (r : Run). total_of r.place.sums) (log_follows_history log e) ∙ sym (ticks_are_sums (job_of sheet) (marks_of marks) (events_of log))

  -- events tried in turn, some of them refused: the history is that of the accepted ones
  pub tried_follows_history : (events : List Event)
      → tried (start_of sheet marks).run events
      ≡ standing (start_of sheet marks).run (place_of (job_of sheet) (marks_of marks) (taken (start_of sheet marks).run events))
  tried_follows_history events =
      let same = taken_steps (start_of sheet marks).run events in
      sym (ap (λ (s : Stepped). s.run) same) ∙ start_follows_history (taken (start_of sheet marks).run events) (ap (λ (s : Stepped). s.number) same)

  -- logs tried in turn, some of them refused; one event is a log of one record
  pub logs_follow_history : (logs : List (List ℕ))
      → tried_logs (start_of sheet marks).run logs
      ≡ standing (start_of sheet marks).run (place_of (job_of sheet) (marks_of marks) (taken_logs (start_of sheet marks).run logs))
  logs_follow_history logs =
      let same = logs_steps (start_of sheet marks).run logs in
      sym (ap (λ (s : Stepped). s.run) same) ∙ start_follows_history (taken_logs (start_of sheet marks).run logs) (ap (λ (s : Stepped). s.number) same)

-- the state with every field 0 has 0 past its no tasks
zero_past_n : ZeroPast zero_run
unfolding zero_run zero_job
zero_past_n = record { weights = λ j h. zeros task_limit j; marks = λ j h. zeros task_limit j }
  where
    zeros : (n i : ℕ) → ◌≡◌ {A = ℕ} (get_or (replicate n 0) i 0) 0
    zeros zero i = refl
    zeros (suc n) zero = refl
    zeros (suc n) (suc i) = zeros n i

-- every start, accepted or refused, gives a state with 0 past task n
pub start_past_n : (sheet marks : List ℕ) → ZeroPast (start_of sheet marks).run
unfolding start_of
start_past_n sheet marks = go (eqb (start_refusal sheet marks) 0)
  where
    go : (b : Bool) → ZeroPast (cond b (fresh (job_of sheet) marks) zero_run)
    go true = fresh_past_n (job_of sheet) marks
    go false = zero_past_n

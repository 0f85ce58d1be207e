-- What document 01 asks of the state of a run: refusals 21 and 22, the total of the sums, which 25 asks too, and which marks a run has passed.
use Rattle.std.specs.Prelude.{ℕ, suc, ◌+◌, ◌^◌, Bool, not, ◌||◌, ◌&&◌, cond, List, ◌∷◌, ◌++◌, ltb, eqb, take}
use Rattle.refusals.specs.Numbers
use Rattle.refusals.specs.Refusals.{Condition, refusal, first}
use Rattle.chain.specs.Time.{Marks}
use Rattle.job.specs.Job.{total}
use Rattle.job.specs.Checks.{bad_count, job_conditions}
use Rattle.job.specs.declared.Job.{Job}
use Rattle.marks.specs.Marks.{marks_of, marks_conditions}
use Rattle.state.specs.declared.Sums.{Sums}
use Rattle.state.specs.declared.Place.{Place}
use Rattle.state.specs.declared.Run.{Run}

-- the limit of the sums together
abbrev pub total_limit : ℕ
total_limit = 2 ^ 40

-- the five sums added
unfoldable pub total_of : Sums → ℕ
total_of s = s.kept + s.redone + s.verify + s.saves + s.recovery

-- the marks of a state, by position
abbrev pub marks_in : Run → Marks
marks_in run = marks_of run.marks

-- the marks that are read: those of the tasks
abbrev pub marks_read : Run → List ℕ
marks_read run = take run.job.tasks run.marks

-- 3 and 7 to 10, asked of a task count, sheet values and marks
abbrev pub value_conditions : Job → List ℕ → List Condition
value_conditions job marks = refusal Numbers.bad_count (bad_count job.tasks) ∷ (job_conditions job ++ marks_conditions job marks)

unfoldable pub broken_values : Job → List ℕ → Bool
broken_values job marks = not (eqb (first (value_conditions job marks)) 0)

-- a verification is awaited: the byte that says so is not 0
abbrev pub awaits : Place → Bool
awaits place = not (eqb place.awaiting 0)

-- a verification is awaited where the mark is 0 or at position 0
unfoldable pub bad_awaiting : Marks → Place → Bool
bad_awaiting f place = awaits place && (eqb place.position 0 || eqb (f place.position) 0)

-- the sums together pass 2^40
unfoldable pub over_total : Sums → Bool
over_total s = ltb total_limit (total_of s)

-- what 21 asks of position, awaited verification and sums
unfoldable pub broken_place : Job → Marks → Place → Bool
broken_place job f place =
    ltb job.tasks place.position
    || (bad_awaiting f place
    || (not (eqb place.sums.kept (total job.weights place.position))
    || over_total place.sums))

-- 21: its task count, sheet values or marks break 3 or 7 to 10, or its place breaks a rule
unfoldable pub broken : Run → Bool
broken run = broken_values run.job (marks_read run) || broken_place run.job (marks_in run) run.place

-- 22: finished, that is, position n and nothing awaited
abbrev pub finished_at : (n : ℕ) → Place → Bool
finished_at n place = eqb place.position n && not (awaits place)

unfoldable pub finished : Run → Bool
finished run = finished_at run.job.tasks run.place

-- the marks that a run has passed are those before this position: its own while its verification is awaited, or the next
abbrev pub passed_before : Place → ℕ
passed_before place = cond (awaits place) place.position (suc place.position)

-- Starting a run: refusals 1 to 10 of document 01.
use Rattle.std.specs.Prelude.{ℕ, cond, List, ◌++◌, eqb, Result, Ok, Err}
use Rattle.refusals.specs.Numbers
use Rattle.refusals.specs.Refusals.{Condition, first}
use Rattle.refusals.specs.Checks.{number}
use Rattle.refusals.specs.declared.Refusal.{Refusal}
use Rattle.sheet.specs.Reading.{job_of, sheet_conditions}
use Rattle.marks.specs.Marks.{marks_conditions}
use Rattle.state.specs.State.{fresh, zero_run}
use Rattle.state.specs.declared.Run.{Run}
use Rattle.starting.specs.declared.Started.{Started}

-- a refused start: its number, and a state with every field 0
abbrev pub refused_start : ℕ → Started
refused_start number = record { number = number; run = zero_run }

-- refusals 1 to 10
abbrev pub start_conditions : List ℕ → List ℕ → List Condition
start_conditions sheet marks = sheet_conditions sheet ++ marks_conditions (job_of sheet) marks

unfoldable pub start_refusal : List ℕ → List ℕ → ℕ
start_refusal sheet marks = first (start_conditions sheet marks)

-- what a start gives: 0 and the fresh run, or the first refusal that holds and a state with every field 0
unfoldable pub start_of : List ℕ → List ℕ → Started
start_of sheet marks =
    record {
      number = start_refusal sheet marks;
      run = cond (eqb (start_refusal sheet marks) 0) (fresh (job_of sheet) marks) zero_run;
    }

-- the answer that tells a run or a refusal
abbrev pub started : Result Run Refusal → Started
started (Ok run) = record { number = Numbers.accepted; run = run }
started (Err refusal) = refused_start (number refusal)

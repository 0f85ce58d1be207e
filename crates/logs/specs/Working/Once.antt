-- A log where 21 is not asked: its records are tested for 12, then for 22 to 25.
use Rattle.std.specs.Prelude.{ℕ, zero, suc, ◌≡◌, Bool, not, ◌&&◌, cond, List, [], ◌∷◌, eqb, length, Result, Ok, Err}
use Rattle.refusals.specs.Numbers
use Rattle.refusals.specs.Refusals.{refusal, first}
use Rattle.rules.specs.Rules.{broken}
use Rattle.following.specs.Run.{standing, accepted, refused}
use Rattle.following.specs.Working.Lent.{step_on}
use Rattle.state.specs.declared.Place.{Place}
use Rattle.state.specs.declared.Run.{Run}
use Rattle.following.specs.declared.Stepped.{Stepped}
use Rattle.carried.specs.declared.Carried.{Carried}
use Rattle.refusals.specs.Checks.{number}
use Rattle.refusals.specs.declared.Refusal.{Refusal}
use Rattle.logs.specs.Log.{record_at, bad_record, event_of, or_before}

-- 12 of the first record
unfoldable pub bad_first : List ℕ → Bool
bad_first log = not (eqb (length log) 0) && bad_record (record_at log 0)

-- what is tested before the first event: 12 of the first record, then 21
unfoldable pub refusal_before : Run → List ℕ → ℕ
refusal_before run log = first (refusal Numbers.bad_record (bad_first log) ∷ refusal Numbers.broken (broken run) ∷ [])

-- one record more
unfoldable pub recorded_on : Stepped → List ℕ → Stepped
recorded_on s r = cond (eqb s.number 0) (cond (bad_record r) (refused Numbers.bad_record s.run) (step_on s.run (event_of r))) s

-- the records before k
unfoldable pub applied_on : Run → List ℕ → ℕ → Stepped
applied_on run log zero = accepted run
applied_on run log (suc k) = recorded_on (applied_on run log k) (record_at log k)

-- the answer that tells where a run stands, or a refusal and the run from before
abbrev pub stood : (before : Run) → Result Place Refusal → Stepped
stood before (Ok place) = accepted (standing before place)
stood before (Err refusal) = refused (number refusal) before

-- the records before k lead to this place, or to this refusal of the run from before them
abbrev pub Ends : Run → List ℕ → (k : ℕ) → Result Carried Refusal → Type 0
Ends run log k (Ok carried) = accepted (standing run carried.place) ≡ or_before run (applied_on run log k)
Ends run log k (Err refusal) = refused (number refusal) run ≡ or_before run (applied_on run log k)

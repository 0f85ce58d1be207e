-- Request 107: what the answers to a sheet and to a dearer one say of each other, whether the marks are priced or planned, and what has to be asked of the two sheets.
use Rattle.std.specs.Prelude.{ℕ, ◌≤◌, ◌≡◌, List, [], ◌∷◌, ◌++◌}
use Rattle.refusals.specs.Numbers
use Rattle.refusals.specs.Refusals.{Condition, refusal, first}
use Rattle.refusals.specs.declared.Answer.{Answer}
use Rattle.job.specs.Checks.{bad_value}
use Rattle.layout.specs.Layout.{layout_conditions}
use Rattle.sheet.specs.Reading.{job_of}

-- what is asked of the cheaper sheet: that none of 1 to 6 and 28 refuses it. 7 and 8 then refuse it only where they refuse the dearer (`cheaper_clear`)
unfoldable pub cheaper_refusal : List ℕ → ℕ
cheaper_refusal s = first (layout_conditions s)

-- of the dearer: that none of 1 to 7 and 28 does. 8 refuses both or neither (`dearer_clear`)
abbrev pub dearer_conditions : List ℕ → List Condition
dearer_conditions s = layout_conditions s ++ (refusal Numbers.bad_value (bad_value (job_of s)) ∷ [])

unfoldable pub dearer_refusal : List ℕ → ℕ
dearer_refusal s = first (dearer_conditions s)

-- r' is the answer to the dearer sheet, and not sooner than r. P is what is asked of the first sheet, and P' of the second, so that no other refusal is given:
-- `price_not_sooner`, `plan_not_sooner`, `energy_not_sooner` and `printed_not_sooner` say what that is
pub record NotSooner (P P' : Type 0) (r r' : Answer) : Type 0 where
  -- of two results the dearer's time (by energy, its energy) is not less
  pub time : r.number ≡ Numbers.accepted → r'.number ≡ Numbers.accepted → r.time ≤ r'.time
  -- 'if the cheaper sheet gets 13, so does the dearer one'
  pub slow : r.number ≡ Numbers.too_slow → P' → r'.number ≡ Numbers.too_slow
  -- and where the dearer gets a result, so does the cheaper
  pub result : r'.number ≡ Numbers.accepted → P → r.number ≡ Numbers.accepted

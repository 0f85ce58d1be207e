-- What checks tell by their numbers. Assumes nothing.
use Prim.Native.Nat.{ℕ, zero, suc, ◌<◌}
use mathlib.Core.Path.{◌≡◌, refl, sym, ◌∙◌, ap}
use native.Mathlib.Omega.{arith}
use mathlib.Core.Bool.{true, false, cond, false≢true}
use lib.Dec.{eqb}
use Rattle.std.specs.Result.{IsErr, is_err}
use Rattle.std.proofs.Common.{Result, Ok, Err}
use mathlib.Core.List.{List, ◌++◌}
use Rattle.refusals.specs.Refusals.{Condition, Numbered, first}
use Rattle.refusals.proofs.Refusals.{first_stands, first_goes_on}
use Rattle.refusals.specs.Answers.{refused, answered}
use Rattle.refusals.specs.Checks.{number, told, Tells, answer_of}
use Rattle.refusals.specs.declared.Answer.{Answer}
use Rattle.refusals.specs.declared.Refusal.{Refusal}
use Rattle.refusals.specs.declared.Refusal.TheVariants.{BadLength, BadForm, BadCount, BadSections, BadExtents, BadKinds, BadValue, BadTask, BadMarks, BadStretch, ShortBuffer, BadRecord, TooSlow, Broken, Finished, OutOfTurn, OverWeight, OverTotal, OtherPlatform, LongChain, StrayByte, BadPower, NotHeld, NamesFull}
use Rattle.refusals.proofs.Answers.{answered_refused, answered_accepted}

-- no refusal has the number of an accepted call
pub number_positive : (r : Refusal) → 0 < number r
number_positive BadLength = omega arith
number_positive BadForm = omega arith
number_positive BadCount = omega arith
number_positive BadSections = omega arith
number_positive BadExtents = omega arith
number_positive BadKinds = omega arith
number_positive BadValue = omega arith
number_positive BadTask = omega arith
number_positive BadMarks = omega arith
number_positive BadStretch = omega arith
number_positive ShortBuffer = omega arith
number_positive BadRecord = omega arith
number_positive TooSlow = omega arith
number_positive Broken = omega arith
number_positive Finished = omega arith
number_positive OutOfTurn = omega arith
number_positive OverWeight = omega arith
number_positive OverTotal = omega arith
number_positive OtherPlatform = omega arith
number_positive LongChain = omega arith
number_positive StrayByte = omega arith
number_positive BadPower = omega arith
number_positive NotHeld = omega arith
number_positive NamesFull = omega arith

-- what tells a value by its case tells its number, and the answer made of it is that of the number and the value
pub tells_told : {A : Type 0} (r : Result A Refusal) (code : ℕ) (value : A) → Tells r code value → told r ≡ code
tells_told (Ok a) code value e = sym e.0
tells_told (Err refusal) code value e = sym e

pub tells_answer : (r : Result ℕ Refusal) (code value : ℕ) → Tells r code value → answer_of r ≡ answered code value
tells_answer (Ok a) code value e = answered_accepted value (sym e.0) e.1
tells_answer (Err refusal) code value e = answered_refused value (sym e) (number_positive refusal)

-- what refuses has a number above 0
pub told_positive : {A : Type 0} (r : Result A Refusal) → IsErr r → 0 < told r
told_positive (Ok a) e = absurd (false≢true e)
told_positive (Err refusal) e = number_positive refusal

-- a check that refuses decides, whatever is checked after it
pub refuses_first : {A : Type 0} (r : Result A Refusal) (cs ds : List Condition) → IsErr r → told r ≡ first cs → told r ≡ first (cs ++ ds)
refuses_first r cs ds failed e = e ∙ sym (first_stands cs ds (omega (arith, told_positive r failed)))

-- after a check that passes, those after it decide
pub passes_on : {A : Type 0} {n : ℕ} (r : Result A Refusal) (a : A) (cs ds : List Condition) → Numbered cs → r ≡ Ok a → told r ≡ first cs → n ≡ first ds → n ≡ first (cs ++ ds)
passes_on r a cs ds numbered passed e later = later ∙ sym (first_goes_on cs ds numbered (sym e ∙ ap told passed))

-- the answer of a call that refuses
pub answer_refused : (r : Result ℕ Refusal) (time : ℕ) {code : ℕ} → IsErr r → told r ≡ code → answer_of r ≡ answered code time
answer_refused (Ok a) time failed e = absurd (false≢true failed)
answer_refused (Err refusal) time failed e = answered_refused time e (number_positive refusal)

pub answer_refusal : (r : Result ℕ Refusal) {code : ℕ} → IsErr r → told r ≡ code → answer_of r ≡ refused code
answer_refusal (Ok a) failed e = absurd (false≢true failed)
answer_refusal (Err refusal) failed e = ap refused e

-- a check by whether it refuses
pub told_failed : {A : Type 0} (r : Result A Refusal) → is_err r ≡ true → 0 < told r
told_failed (Ok a) e = absurd (false≢true e)
told_failed (Err refusal) e = number_positive refusal

pub told_passed : {A : Type 0} (r : Result A Refusal) → is_err r ≡ false → told r ≡ 0
told_passed (Ok a) e = refl
told_passed (Err refusal) e = absurd (false≢true (sym e))

-- each number is that of one refusal
numbered : ℕ → Refusal
numbered n =
    (cond (eqb n 1) BadLength
    (cond (eqb n 2) BadForm
    (cond (eqb n 3) BadCount
    (cond (eqb n 4) BadSections
    (cond (eqb n 5) BadExtents
    (cond (eqb n 6) BadKinds
    (cond (eqb n 7) BadValue
    (cond (eqb n 8) BadTask
    (cond (eqb n 9) BadMarks
    (cond (eqb n 10) BadStretch
    (cond (eqb n 11) ShortBuffer
    (cond (eqb n 12) BadRecord
    (cond (eqb n 13) TooSlow
    (cond (eqb n 21) Broken
    (cond (eqb n 22) Finished
    (cond (eqb n 23) OutOfTurn
    (cond (eqb n 24) OverWeight
    (cond (eqb n 25) OverTotal
    (cond (eqb n 26) OtherPlatform
    (cond (eqb n 27) LongChain
    (cond (eqb n 28) StrayByte
    (cond (eqb n 29) BadPower
    (cond (eqb n 30) NotHeld
    NamesFull)))))))))))))))))))))))

numbered_number : (r : Refusal) → numbered (number r) ≡ r
unfolding numbered
numbered_number BadLength = refl
numbered_number BadForm = refl
numbered_number BadCount = refl
numbered_number BadSections = refl
numbered_number BadExtents = refl
numbered_number BadKinds = refl
numbered_number BadValue = refl
numbered_number BadTask = refl
numbered_number BadMarks = refl
numbered_number BadStretch = refl
numbered_number ShortBuffer = refl
numbered_number BadRecord = refl
numbered_number TooSlow = refl
numbered_number Broken = refl
numbered_number Finished = refl
numbered_number OutOfTurn = refl
numbered_number OverWeight = refl
numbered_number OverTotal = refl
numbered_number OtherPlatform = refl
numbered_number LongChain = refl
numbered_number StrayByte = refl
numbered_number BadPower = refl
numbered_number NotHeld = refl
numbered_number NamesFull = refl

pub number_once : (r q : Refusal) → number r ≡ number q → r ≡ q
number_once r q e = sym (numbered_number r) ∙ (ap numbered e ∙ numbered_number q)

-- Why a call is refused, as a number, and what a check or a call that may be refused tells.
use Rattle.std.specs.Prelude.{ℕ, ◌≡◌, Result, Ok, Err}
use Rattle.refusals.specs.Numbers
use Rattle.refusals.specs.Answers.{refused, accepted}
use Rattle.refusals.specs.declared.Answer.{Answer}
use Rattle.refusals.specs.declared.Refusal.{Refusal}
use Rattle.refusals.specs.declared.Refusal.TheVariants.{BadLength, BadForm, BadCount, BadSections, BadExtents, BadKinds, BadValue, BadTask, BadMarks, BadStretch, ShortBuffer, BadRecord, TooSlow, Broken, Finished, OutOfTurn, OverWeight, OverTotal, OtherPlatform, LongChain, StrayByte, BadPower, NotHeld, NamesFull}

-- the number of a refusal
abbrev pub number : Refusal → ℕ
number BadLength = Numbers.bad_length
number BadForm = Numbers.bad_form
number BadCount = Numbers.bad_count
number BadSections = Numbers.bad_sections
number BadExtents = Numbers.bad_extents
number BadKinds = Numbers.bad_kinds
number BadValue = Numbers.bad_value
number BadTask = Numbers.bad_task
number BadMarks = Numbers.bad_marks
number BadStretch = Numbers.bad_stretch
number ShortBuffer = Numbers.short_buffer
number BadRecord = Numbers.bad_record
number TooSlow = Numbers.too_slow
number Broken = Numbers.broken
number Finished = Numbers.finished
number OutOfTurn = Numbers.out_of_turn
number OverWeight = Numbers.over_weight
number OverTotal = Numbers.over_total
number OtherPlatform = Numbers.other_platform
number LongChain = Numbers.long_chain
number StrayByte = Numbers.stray_byte
number BadPower = Numbers.bad_power
number NotHeld = Numbers.not_held
number NamesFull = Numbers.names_full

-- the number of what a check tells: 0 where it passes
abbrev pub told : {A : Type 0} → Result A Refusal → ℕ
told (Ok a) = Numbers.accepted
told (Err refusal) = number refusal

-- each case of what a call tells: number 0 and its value, or the number of the refusal
abbrev pub Tells : {A : Type 0} → Result A Refusal → (code : ℕ) → (value : A) → Type 0
Tells (Ok a) code value = (code ≡ Numbers.accepted) × (a ≡ value)
Tells (Err refusal) code value = code ≡ number refusal

-- the answer that tells a time or a refusal
abbrev pub answer_of : Result ℕ Refusal → Answer
answer_of (Ok time) = accepted time
answer_of (Err refusal) = refused (number refusal)

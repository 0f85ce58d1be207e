-- The answer of a call that gives a time.
use Rattle.std.specs.Prelude.{ℕ, cond, eqb}
use Rattle.refusals.specs.Numbers
use Rattle.refusals.specs.declared.Answer.{Answer}

-- 'A refused plan or price gives time 0'
abbrev pub refused : ℕ → Answer
refused number = record { number = number; time = 0 }

abbrev pub accepted : ℕ → Answer
accepted time = record { number = Numbers.accepted; time = time }

-- the answer with this number: the time, where nothing is refused
unfoldable pub answered : ℕ → ℕ → Answer
answered number time = cond (eqb number Numbers.accepted) (accepted time) (refused number)

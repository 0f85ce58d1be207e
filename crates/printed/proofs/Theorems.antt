-- What the program prints for a sheet is determined, byte by byte, and is what `plan` prints, but for a chain that is too long: answer and marks are the
-- planner's (`printed_is_plan`), and the text is theirs. Assumes nothing.
use Prim.Native.Nat.{ℕ, ◌≤◌}
use mathlib.Core.Path.{◌≡◌, refl}
use mathlib.Core.List.{List}
use mathlib.Core.Logic.{◌≢◌}
use native.Mathlib.Omega.{arith}
use Rattle.refusals.specs.Numbers
use Rattle.refusals.specs.declared.Answer.{Answer}
use Rattle.header.specs.Header.{tasks}
use Rattle.sheet.specs.Reading.{job_of, sheet_refusal}
use Rattle.costs.specs.Stretch.{chain_of}
use Rattle.costs.proofs.Stretches.{S_rises}
use Rattle.answers.proofs.Answers.{checked_once}
use Rattle.planning.specs.Promise.{Plans}
use Rattle.planning.proofs.Theorems.{some_task}
use Rattle.engine.specs.Promise.{printed_limit, printed_refusal, PlansAsPrinted}
use Rattle.engine.proofs.Answers.{printed_passed}
use Rattle.engine.proofs.Theorems.{printed_is_plan}
use Rattle.output.specs.Words.{time_word}
use Rattle.output.specs.Texts.{blank_marks, text_of, PlanPrints, Text}
use Rattle.output.proofs.Prints.{holds_once, prints_once}
use Rattle.printed.specs.Prints.{SheetPrints}

module _ (s : List ℕ) where
  once : (a b : List ℕ) (x y : Answer) → PlansAsPrinted s blank_marks a x → PlansAsPrinted s blank_marks b y → (x ≡ y) × (a ≡ b)
  once = checked_once (printed_refusal s) (chain_of (job_of s)) (S_rises (job_of s)) (job_of s).tasks (λ z. some_task s (printed_passed s z)) blank_marks

  pub text_once : (r q : Text) → SheetPrints s r → SheetPrints s q → text_of r ≡ text_of q
  text_once r q f g = prints_once once f g

  -- a sheet that passes checks 1 to 8 with more than 8 tasks gets 27; any other has the text that `plan` prints
  pub text_as_plan : (r q : Text) → (sheet_refusal s ≡ 0 → (job_of s).tasks ≤ printed_limit) → SheetPrints s r → PlanPrints (Plans s) time_word (tasks s) q
      → text_of r ≡ text_of q
  text_as_plan r q short f g =
      let same = printed_is_plan s blank_marks f.marks g.marks f.answer g.answer f.promise g.promise in
      let other : f.answer.number ≢ Numbers.long_chain = λ e. let long = same.long.0 e in omega (arith, long.1, short long.0) in
      holds_once (rw (same.answer other, same.buffer other) refl) f.text g.text

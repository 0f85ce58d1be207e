-- What the program prints for a sheet is determined, byte by byte: answer and marks are (`plan_once`), and the text is theirs. The time that it prints is the
-- price of the marks that it prints: the text tells the answer (`plan_told`), and the price of a plan's marks is the plan's answer (`plan_prices`).
-- Assumes nothing.
use Prim.Native.Nat.{ℕ, suc, ◌<◌}
use mathlib.Core.Path.{◌≡◌, sym, ◌∙◌}
use mathlib.Core.List.{List}
use native.Mathlib.Omega.{arith}
use lib.ListN.{length, take, get_or, length-take}
use Rattle.refusals.specs.Answers.{accepted}
use Rattle.refusals.proofs.Answers.{answer_same}
use Rattle.header.specs.Header.{tasks}
use Rattle.sheet.specs.Reading.{job_of, sheet_refusal}
use Rattle.costs.specs.Stretch.{chain_of}
use Rattle.costs.proofs.Stretches.{S_rises}
use Rattle.pricing.specs.Price.{price_of}
use Rattle.answers.proofs.Answers.{checked_result}
use Rattle.planning.proofs.Theorems.{some_task, plan_once, plan_prices}
use Rattle.numerals.specs.Digits.{base}
use Rattle.output.specs.Words.{time_word}
use Rattle.output.specs.Texts.{blank_marks, text_of, plan_text, Text}
use Rattle.output.proofs.Prints.{prints_once}
use Rattle.output.proofs.Tells.{plan_told, marks_told}
use Rattle.plan.specs.Prints.{SheetPrints}

module _ (s : List ℕ) where
  pub text_once : (r q : Text) → SheetPrints s r → SheetPrints s q → text_of r ≡ text_of q
  text_once r q f g = prints_once (plan_once s blank_marks) f g

  -- demand 2 of the printed time: it is the price of the printed marks, those that a user reads as one digit each
  pub text_time_is_price : (r : Text) (time : ℕ) (marks : List ℕ) → SheetPrints s r → ((j : ℕ) → j < length marks → get_or marks j 0 < base)
      → text_of r ≡ plan_text time_word (accepted time) marks → price_of s marks ≡ accepted time
  unfolding job_of
  text_time_is_price r time marks f short e =
      let told = plan_told _ _ f.answer (accepted time) (take (tasks s) f.marks) marks (omega arith) (sym f.text.bytes ∙ e) in
      let priced = plan_prices s blank_marks f.marks f.answer f.promise told.number in
      let same = marks_told (take (tasks s) f.marks) marks (own told.number) short (told.marks told.number) in
      rw (← same) (priced ∙ answer_same f.answer (accepted time) told.number (told.figure told.number))
    where
      own : f.answer.number ≡ 0 → (j : ℕ) → j < length (take (tasks s) f.marks) → get_or (take (tasks s) f.marks) j 0 < base
      own z j h =
          let result = checked_result (sheet_refusal s) (chain_of (job_of s)) (S_rises (job_of s)) (job_of s).tasks (some_task s) blank_marks f.marks f.answer f.promise z in
          omega (arith, result.planned.plan.allowed.setting.marks (suc j) (omega arith) (omega (arith, length-take (tasks s) f.marks)))

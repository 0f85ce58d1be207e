-- What the program prints for a sheet and two powers is determined, byte by byte: answer and marks are (`energy_once`), and the text is theirs. The energy that
-- it prints is the least, and that of the marks that it prints: the text tells the answer (`plan_told`), of which that holds (`energy_least`). Assumes nothing.
use Prim.Native.Nat.{ℕ, suc, ◌<◌}
use mathlib.Core.Path.{◌≡◌, sym, ◌∙◌}
use mathlib.Core.List.{List}
use native.Mathlib.Omega.{arith}
use lib.ListN.{length, take, get_or, length-take}
use Rattle.refusals.specs.Answers.{accepted}
use Rattle.header.specs.Header.{tasks}
use Rattle.sheet.specs.Reading.{job_of}
use Rattle.costs.specs.declared.Powers.{Powers}
use Rattle.costs.specs.Energy.{energy_chain}
use Rattle.costs.proofs.Stretches.{energy_rises}
use Rattle.answers.proofs.Answers.{checked_result}
use Rattle.planning.specs.Energy.{energy_refusal, LeastEnergy}
use Rattle.planning.proofs.ByEnergy.{energy_some_task, energy_once, energy_least}
use Rattle.numerals.specs.Digits.{base}
use Rattle.output.specs.Words.{energy_word}
use Rattle.output.specs.Texts.{blank_marks, text_of, plan_text, Text}
use Rattle.output.proofs.Prints.{prints_once}
use Rattle.output.proofs.Tells.{plan_told, marks_told}
use Rattle.energy.specs.Prints.{SheetPrints}

module _ (powers : Powers) (s : List ℕ) where
  pub text_once : (r q : Text) → SheetPrints powers s r → SheetPrints powers s q → text_of r ≡ text_of q
  text_once r q f g = prints_once (energy_once powers s blank_marks) f g

  -- the printed energy is the least, and that of the printed marks, those that a user reads as one digit each
  pub text_energy_is_least : (r : Text) (energy : ℕ) (marks : List ℕ) → SheetPrints powers s r → ((j : ℕ) → j < length marks → get_or marks j 0 < base)
      → text_of r ≡ plan_text energy_word (accepted energy) marks → LeastEnergy powers s marks energy
  unfolding job_of
  text_energy_is_least r energy marks f short e =
      let told = plan_told _ _ f.answer (accepted energy) (take (tasks s) f.marks) marks (omega arith) (sym f.text.bytes ∙ e) in
      let least = energy_least powers s blank_marks f.marks f.answer f.promise told.number in
      let same = marks_told (take (tasks s) f.marks) marks (own told.number) short (told.marks told.number) in
      rw (same, told.figure told.number) at least
    where
      own : f.answer.number ≡ 0 → (j : ℕ) → j < length (take (tasks s) f.marks) → get_or (take (tasks s) f.marks) j 0 < base
      own z j h =
          let result =
          checked_result (energy_refusal powers s) (energy_chain powers (job_of s)) (energy_rises powers (job_of s)) (job_of s).tasks (energy_some_task powers s) blank_marks
          f.marks f.answer f.promise z in
          omega (arith, result.planned.plan.allowed.setting.marks (suc j) (omega arith) (omega (arith, length-take (tasks s) f.marks)))

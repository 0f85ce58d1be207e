-- What the program prints for a sheet.
use Rattle.std.specs.Prelude.{ℕ, List}
use Rattle.header.specs.Header.{tasks}
use Rattle.engine.specs.Promise.{PlansAsPrinted}
use Rattle.output.specs.Words.{time_word}
use Rattle.output.specs.Texts.{PlanPrints, Text}

-- the least time and the marks of the sheet's plan by the equations as printed, or its refusal
abbrev pub SheetPrints : List ℕ → Text → Type 0
SheetPrints s r = PlanPrints (PlansAsPrinted s) time_word (tasks s) r

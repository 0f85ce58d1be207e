-- What the program prints for a sheet and two powers.
use Rattle.std.specs.Prelude.{ℕ, List}
use Rattle.header.specs.Header.{tasks}
use Rattle.costs.specs.declared.Powers.{Powers}
use Rattle.planning.specs.Energy.{PlansByEnergy}
use Rattle.output.specs.Words.{energy_word}
use Rattle.output.specs.Texts.{PlanPrints, Text}

-- the least energy and the marks of the sheet's plan by energy, or its refusal
abbrev pub SheetPrints : Powers → List ℕ → Text → Type 0
SheetPrints powers s r = PlanPrints (PlansByEnergy powers s) energy_word (tasks s) r

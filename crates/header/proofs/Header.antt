-- What the form decides: that the limit of the task count is within the product's, and that there are at least two sections. Assumes nothing.
use Prim.Native.Nat.{ℕ, ◌≤◌}
use mathlib.Core.Path.{refl}
use mathlib.Core.List.{List}
use lib.Dec.{lit≤}
use Rattle.units.specs.Limits.{task_limit}
use Rattle.refusals.specs.Refusals.{has, distinct, Numbered}
use Rattle.header.specs.Header.{tasks_most, sections, header_conditions}

pub header_numbered : (s : List ℕ) → Numbered (header_conditions s)
unfolding has distinct
header_numbered s = refl

pub most_tasks : (s : List ℕ) → tasks_most s ≤ task_limit
unfolding tasks_most
most_tasks s = lit≤ tt

-- a section for the platform and one for the weights
pub two_sections : (s : List ℕ) → 2 ≤ sections s
unfolding sections
two_sections s = lit≤ tt

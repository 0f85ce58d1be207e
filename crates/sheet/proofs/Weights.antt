-- The weights of a section, read one by one. Assumes nothing.
use Prim.Native.Nat.{ℕ, ◌+◌, ◌<◌}
use mathlib.Core.Path.{◌≡◌}
use mathlib.Core.List.{List}
use lib.ListN.{set}
use Rattle.lists.proofs.Lists.{store_next}
use Rattle.units.specs.Limits.{task_limit}
use Rattle.sheet.specs.Reading.{section_field, weights_of}

-- one weight more of a weights section
pub weights_more : (p : List ℕ) (j : ℕ) → j < task_limit → set (weights_of p j) j (section_field p j) ≡ weights_of p (j + 1)
unfolding weights_of
weights_more p j h = store_next task_limit (section_field p) j h

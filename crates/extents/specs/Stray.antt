-- Request 105's 28 in words: a byte that is in no section.
use Rattle.std.specs.Prelude.{ℕ, ◌≤◌, ◌<◌, ◌≡◌, false, List, length}
use Rattle.header.specs.Header.{sections, least_offset}
use Rattle.extents.specs.Extents.{in_section}

-- byte i, from 20 on and before the sheet's end, is in no section
pub record IsStray (s : List ℕ) (i : ℕ) : Type 0 where
  pub from : least_offset s ≤ i
  pub before : i < length s
  pub in_none : (k : ℕ) → k < sections s → in_section s k i ≡ false

-- the sheet has such a byte
pub record HasStray (s : List ℕ) : Type 0 where
  pub at : ℕ
  pub stray : IsStray s at

-- Request 105: an accepted sheet is its header and its sections and nothing else; what the request changed.
use Rattle.std.specs.Prelude.{ℕ, zero, suc, ◌≤◌, ◌<◌, ◌≡◌, true, false, List, [], ◌∷◌, ◌++◌, length, take}
use Rattle.refusals.specs.Numbers
use Rattle.refusals.specs.Refusals.{Condition, refusal, first, has}
use Rattle.header.specs.Header.{sections, least_offset, section, header_conditions}
use Rattle.extents.specs.Extents.{bad_extents, covered, stray_byte}
use Rattle.extents.specs.Stray.{HasStray}
use Rattle.kinds.specs.Kinds.{bad_kinds}
use Rattle.layout.specs.Layout.{layout_conditions}

-- checks 1 to 5
abbrev pub conditions_to5 : List ℕ → List Condition
conditions_to5 s = header_conditions s ++ (refusal Numbers.bad_extents (bad_extents s) ∷ [])

-- checks 1 to 6 as they were before the request
abbrev pub conditions_before : List ℕ → List Condition
conditions_before s = conditions_to5 s ++ (refusal Numbers.bad_kinds (bad_kinds s) ∷ [])

-- the number that checks 1 to 6 give, before the request and now, with the same checks after them
pub record BeforeAndNow (s : List ℕ) (after : List Condition) : Type 0 where
  -- 1 to 5 are given as before
  pub earlier : 0 < first (conditions_to5 s) → first (layout_conditions s ++ after) ≡ first (conditions_before s ++ after)
  -- a sheet without a stray byte answers as before, whatever is checked in front of it (in a join, the first sheet)
  pub as_before : stray_byte s ≡ false → (front : List Condition)
      → first (front ++ (layout_conditions s ++ after)) ≡ first (front ++ (conditions_before s ++ after))
  -- one with a stray byte that passes 1 to 5 gets 28
  pub refused : HasStray s → first (conditions_to5 s) ≡ 0 → first (layout_conditions s ++ after) ≡ Numbers.stray_byte
  -- and no other does, where no check after 6 has that number (in a join, those of the second sheet have it)
  pub only : has Numbers.stray_byte after ≡ false → first (layout_conditions s ++ after) ≡ Numbers.stray_byte
      → (first (conditions_to5 s) ≡ 0) × HasStray s

-- the number of a sheet that has a stray byte: the first of 1 to 5 that holds, else 28
abbrev pub stray_number : List ℕ → ℕ
stray_number s = first (conditions_to5 s ++ (refusal Numbers.stray_byte true ∷ []))

-- the header: the bytes before 20
abbrev pub header : List ℕ → List ℕ
header s = take (least_offset s) s

-- the first m sections, one after the other
unfoldable pub sections_to : List ℕ → ℕ → List ℕ
sections_to s zero = []
sections_to s (suc i) = sections_to s i ++ section s i

-- what is known of a sheet that passes checks 1 to 6
pub record Whole (s : List ℕ) : Type 0 where
  -- each byte from 20 on is in a section
  pub all_covered : (i : ℕ) → least_offset s ≤ i → i < length s → covered s i ≡ true
  -- the sheet is its header and its sections, in their order
  pub parts : s ≡ header s ++ sections_to s (sections s)

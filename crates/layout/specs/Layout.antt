-- The layout of document 01's job sheet: checks 1 to 6 in their order, with request 105's 28 after 5.
use Rattle.std.specs.Prelude.{ℕ, List, [], ◌∷◌, ◌++◌}
use Rattle.refusals.specs.Numbers
use Rattle.refusals.specs.Refusals.{Condition, refusal}
use Rattle.header.specs.Header.{header_conditions}
use Rattle.extents.specs.Extents.{bad_extents, stray_byte}
use Rattle.kinds.specs.Kinds.{bad_kinds}

-- checks 5, 28 and 6
abbrev pub section_conditions : List ℕ → List Condition
section_conditions s =
    refusal Numbers.bad_extents (bad_extents s)
    ∷ refusal Numbers.stray_byte (stray_byte s)
    ∷ refusal Numbers.bad_kinds (bad_kinds s)
    ∷ []

-- checks 1 to 6, 28 among them after 5: every list that is said to have 1 to 6, 1 to 8 or 1 to 10 has this one in it
abbrev pub layout_conditions : List ℕ → List Condition
layout_conditions s = header_conditions s ++ section_conditions s

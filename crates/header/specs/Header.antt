-- The header of document 01's job sheet: the form, the task count, the pairs of offset and length; checks 1 to 4 in their order. What a form decides is a
-- function of the sheet.
use Rattle.std.specs.Prelude.{ℕ, ◌+◌, ◌*◌, Bool, not, ◌||◌, List, [], ◌∷◌, ltb, eqb, length, take, drop}
use Rattle.units.specs.Limits.{task_limit}
use Rattle.refusals.specs.Numbers
use Rattle.refusals.specs.Refusals.{Condition, refusal}
use Rattle.fields.specs.Bytes.{byte_at, field_at, field_length}

abbrev pub shortest_sheet : ℕ
shortest_sheet = 20

abbrev pub longest_sheet : ℕ
longest_sheet = 4096

-- byte 0 is the form, 1
abbrev pub form : ℕ
form = 1

-- byte 1 is the task count n
unfoldable pub tasks : List ℕ → ℕ
tasks s = byte_at s 1

-- which is at most 64
unfoldable pub tasks_most : List ℕ → ℕ
tasks_most s = task_limit

-- the number of sections, 2
unfoldable pub sections : List ℕ → ℕ
sections s = 2

-- the pairs of offset and length begin at byte 4, each of two fields
abbrev pub pairs_start : ℕ
pairs_start = 4

abbrev pub pair_length : ℕ
pair_length = 8

-- the header ends with the last pair, at byte 20: no section begins before
abbrev pub least_offset : List ℕ → ℕ
least_offset s = pairs_start + pair_length * sections s

-- the offset and the length of section i, from 0
unfoldable pub offset : List ℕ → ℕ → ℕ
offset s i = field_at s (pairs_start + pair_length * i)

unfoldable pub size : List ℕ → ℕ → ℕ
size s i = field_at s (pairs_start + field_length + pair_length * i)

-- the bytes of section i
unfoldable pub section : List ℕ → ℕ → List ℕ
section s i = take (size s i) (drop (offset s i) s)

-- 1: sheet under 20 or over 4,096 bytes
unfoldable pub bad_length : List ℕ → Bool
bad_length s = ltb (length s) shortest_sheet || ltb longest_sheet (length s)

-- 2: byte 0 is not 1, or byte 3 not 0
unfoldable pub bad_form : List ℕ → Bool
bad_form s = not (eqb (byte_at s 0) form) || not (eqb (byte_at s 3) 0)

-- 3: n is 0 or above 64
unfoldable pub bad_tasks : List ℕ → Bool
bad_tasks s = eqb (tasks s) 0 || ltb (tasks_most s) (tasks s)

-- 4: section count, byte 2, is not 2
unfoldable pub bad_sections : List ℕ → Bool
bad_sections s = not (eqb (byte_at s 2) (sections s))

-- checks 1 to 4
abbrev pub header_conditions : List ℕ → List Condition
header_conditions s =
    refusal Numbers.bad_length (bad_length s)
    ∷ refusal Numbers.bad_form (bad_form s)
    ∷ refusal Numbers.bad_count (bad_tasks s)
    ∷ refusal Numbers.bad_sections (bad_sections s)
    ∷ []

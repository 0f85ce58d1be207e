-- Where the sections of a sheet lie: check 5, and request 105's 28.
use Rattle.std.specs.Prelude.{ℕ, zero, suc, ◌+◌, Bool, not, ◌||◌, ◌&&◌, List, leb, ltb, eqb, length}
use Rattle.lists.specs.Lists.{some}
use Rattle.header.specs.Header.{sections, least_offset, offset, size}

-- the end of the section before section i; before the first stands the header
unfoldable pub end_before : List ℕ → ℕ → ℕ
end_before s zero = least_offset s
end_before s (suc i) = offset s i + size s i

-- of section i: a length is 0, an offset is under 20 or under the end of the section before, or an end passes the sheet
unfoldable pub bad_extent : List ℕ → ℕ → Bool
bad_extent s i =
    eqb (size s i) 0
    || (ltb (offset s i) (least_offset s) || (ltb (offset s i) (end_before s i) || ltb (length s) (offset s i + size s i)))

-- 5: the same of some section
unfoldable pub bad_extents : List ℕ → Bool
bad_extents s = some (sections s) (bad_extent s)

-- byte i is in section k: from its offset on, before its end
unfoldable pub in_section : List ℕ → (k i : ℕ) → Bool
in_section s k i = leb (offset s k) i && ltb i (offset s k + size s k)

-- byte i is in a section
unfoldable pub covered : List ℕ → ℕ → Bool
covered s i = some (sections s) (λ k. in_section s k i)

-- 28 (request 105): 'a byte from 20 on in no section', before the sheet's end
unfoldable pub stray_byte : List ℕ → Bool
stray_byte s = some (length s) (λ i. leb (least_offset s) i && not (covered s i))

-- section i does not follow directly on what stands before it
unfoldable pub apart : List ℕ → ℕ → Bool
apart s i = not (eqb (offset s i) (end_before s i))

-- 'Sections now follow one another directly from byte 20, and the last ends with the sheet': past 5, that there is no such byte (`stray_contiguous`)
unfoldable pub contiguous : List ℕ → Bool
contiguous s = not (some (sections s) (apart s)) && eqb (length s) (end_before s (sections s))

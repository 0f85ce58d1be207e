-- The kinds of a sheet's sections: check 6, and which section is of a kind.
use Rattle.std.specs.Prelude.{ℕ, zero, suc, ◌+◌, ◌*◌, Bool, cond, not, ◌||◌, List, eqb}
use Rattle.lists.specs.Lists.{some}
use Rattle.fields.specs.Bytes.{byte_at, field_length}
use Rattle.header.specs.Header.{tasks, sections, offset, size}

-- a section's first byte is its kind
unfoldable pub kind : List ℕ → ℕ → ℕ
kind s i = byte_at s (offset s i)

-- the kinds, numbered from 1
abbrev pub platform_kind : ℕ
platform_kind = 1

abbrev pub weights_kind : ℕ
weights_kind = 2

-- kind 1, platform, is 29 bytes
abbrev pub platform_length : ℕ
platform_length = 29

-- kind 2, weights, is 1 + 4n bytes
abbrev pub weights_length : ℕ → ℕ
weights_length n = 1 + field_length * n

-- the length of a section of the kind k in a sheet of n tasks; 0, which no section is long, where k is no kind
unfoldable pub length_of : (k n : ℕ) → ℕ
length_of k n = cond (eqb k platform_kind) platform_length (cond (eqb k weights_kind) (weights_length n) 0)

-- section i is of the kind k
abbrev pub is_kind : List ℕ → (k i : ℕ) → Bool
is_kind s k i = eqb (kind s i) k

-- the sheet has a section of the kind k
unfoldable pub has_kind : List ℕ → ℕ → Bool
has_kind s k = some (sections s) (is_kind s k)

-- of the first m sections, the first of the kind k, or the last where none is
unfoldable pub index_in : List ℕ → (k m : ℕ) → ℕ
index_in s k zero = 0
index_in s k (suc m) = cond (some m (is_kind s k)) (index_in s k m) m

-- which section is of the kind k, where the sheet has one
unfoldable pub index_of : List ℕ → ℕ → ℕ
index_of s k = index_in s k (sections s)

-- how many of the first m sections are of the kind k
unfoldable pub counted : List ℕ → (k m : ℕ) → ℕ
counted s k zero = 0
counted s k (suc i) = counted s k i + cond (is_kind s k i) 1 0

-- one section of each kind: of each from 1 to as many as there are sections
unfoldable pub not_one : List ℕ → ℕ → Bool
not_one s j = not (eqb (counted s (j + 1) (sections s)) 1)

unfoldable pub one_of_each : List ℕ → Bool
one_of_each s = not (some (sections s) (not_one s))

-- section i has not the length of its kind
unfoldable pub wrong_length : List ℕ → ℕ → Bool
wrong_length s i = not (eqb (size s i) (length_of (kind s i) (tasks s)))

-- 6: not one section of each kind, or a wrong length
unfoldable pub bad_kinds : List ℕ → Bool
bad_kinds s = not (one_of_each s) || some (sections s) (wrong_length s)

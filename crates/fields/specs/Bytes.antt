-- Bytes and fields of a list of bytes.
use Rattle.std.specs.Prelude.{ℕ, ◌+◌, ◌*◌, ◌^◌, ◌<◌, ◌≡◌, List, get_or}

-- the byte at i
abbrev pub byte_at : List ℕ → ℕ → ℕ
byte_at s i = get_or s i 0

-- a multi-byte field: unsigned, 4 bytes, lowest byte first
abbrev pub field_at : List ℕ → ℕ → ℕ
field_at s i = byte_at s i + 2 ^ 8 * byte_at s (i + 1) + 2 ^ 16 * byte_at s (i + 2) + 2 ^ 24 * byte_at s (i + 3)

abbrev pub field_length : ℕ
field_length = 4

-- a list of bytes: what stands in it is below 2^8
abbrev pub AreBytes : List ℕ → Type 0
AreBytes l = (i : ℕ) → byte_at l i < 2 ^ 8

-- a result that is this value, and below this bound
pub record Ranged (value bound result : ℕ) : Type 0 where
  pub is : result ≡ value
  pub range : result < bound

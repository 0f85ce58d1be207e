-- Fields as they are written.
use Rattle.std.specs.Prelude.{ℕ, ◌/◌, ◌%◌, ◌^◌, List, [], ◌∷◌, ◌++◌}

-- a field: 4 bytes, lowest first. A field is below 2^32, so that its last byte is one too
unfoldable pub field_bytes : ℕ → List ℕ
field_bytes x = x % 2 ^ 8 ∷ x / 2 ^ 8 % 2 ^ 8 ∷ x / 2 ^ 16 % 2 ^ 8 ∷ x / 2 ^ 24 ∷ []

-- fields, one after the other
unfoldable pub fields : List ℕ → List ℕ
fields [] = []
fields (x ∷ l) = field_bytes x ++ fields l

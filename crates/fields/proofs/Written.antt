-- The writer of fields and the reader of fields: what is written is what is read. Assumes nothing.
use Prim.Native.Nat.{ℕ, zero, suc, ◌+◌, ◌*◌, ◌<◌}
use mathlib.Core.Path.{◌≡◌, refl, sym, ◌∙◌}
use mathlib.Core.List.{List, [], ◌∷◌, ◌++◌, append_assoc}
use native.Mathlib.Omega.{arith}
use lib.ListN.{length, get_or}
use lib.Seq.{get_or-append-add}
use Rattle.fields.specs.Bytes.{byte_at, field_at, field_length}
use Rattle.fields.specs.Written.{field_bytes, fields}

-- a field that is written first is the field that is read at 0
pub field_read : (x : ℕ) (l : List ℕ) → field_at (field_bytes x ++ l) 0 ≡ x
unfolding field_bytes
field_read x l = omega arith

pub length_fields : (l : List ℕ) → length (fields l) ≡ field_length * length l
unfolding fields field_bytes
length_fields [] = refl
length_fields (x ∷ l) = omega (arith, length_fields l)

-- a field after other bytes
pub field_after : (before l : List ℕ) (i : ℕ) → field_at (before ++ l) (length before + i) ≡ field_at l i
field_after before l i = rw (get_or-append-add before l i 0, byte 1, byte 2, byte 3)
  where
    byte : (k : ℕ) → byte_at (before ++ l) (length before + i + k) ≡ byte_at l (i + k)
    byte k = let e : length before + i + k ≡ length before + (i + k) = omega arith in rw e (get_or-append-add before l (i + k) 0)

-- field j of fields that are written one after the other is value j
pub fields_read : (l : List ℕ) (j : ℕ) → j < length l → field_at (fields l) (field_length * j) ≡ get_or l j 0
unfolding fields field_bytes
fields_read [] j h = absurd (omega arith)
fields_read (x ∷ l) zero h = field_read x (fields l)
fields_read (x ∷ l) (suc j) h =
    let e : field_length * suc j ≡ field_length + field_length * j = omega arith in
    rw e (field_after (field_bytes x) (fields l) (field_length * j) ∙ fields_read l j (omega arith))

-- fields of two lists
pub fields_append : (l m : List ℕ) → fields (l ++ m) ≡ fields l ++ fields m
unfolding fields
fields_append [] m = refl
fields_append (x ∷ l) m = rw (fields_append l m) (sym (append_assoc (field_bytes x) (fields l) (fields m)))

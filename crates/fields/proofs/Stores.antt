-- Runs of stores: a field is its four bytes, and one run after another is one run. Assumes nothing.
use Prim.Native.Nat.{ℕ, suc, ◌+◌, ◌-◌, ◌*◌, ◌/◌, ◌%◌, ◌<◌, ◌≤◌, ◌^◌}
use mir.Syntax.{w32}
use borrow.Rule.Slice.PartMut.{put_mid}
use Rattle.std.specs.Int.{to_le_bytes}
use mathlib.Core.Path.{◌≡◌, refl, ◌∙◌}
use mathlib.Core.List.{List, [], ◌∷◌, ◌++◌, append-nil, append_assoc}
use native.Mathlib.Numerals.{add-one}
use native.Mathlib.Omega.{arith}
use lib.ListN.{length, get_or, take, set}
use lib.Seq.{sets, sets-eq, drop-drop, take-suc, length-take-le}
use Rattle.fields.specs.Bytes.{field_length}
use Rattle.fields.specs.Written.{field_bytes, fields}
use Rattle.fields.proofs.Written.{length_fields, fields_append}

-- a field of 32 bits, lowest byte first
pub field_bytes_low : (x : ℕ) → x < 2 ^ 32 → to_le_bytes w32 x ≡ field_bytes x
unfolding field_bytes
field_bytes_low x h =
    let last : x / 16777216 % 256 ≡ x / 2 ^ 24 = omega arith in
    rw last refl

length_field : (x : ℕ) → length (field_bytes x) ≡ field_length
unfolding field_bytes
length_field x = refl

pub field_stored : (b : List ℕ) (at x : ℕ) {bytes : List ℕ} → x < 2 ^ 32 → at + field_length ≤ length b → bytes ≡ to_le_bytes w32 x
    → put_mid at (at + field_length - at) b bytes ≡ sets b at (field_bytes x)
field_stored b at x h room e =
    let four : at + field_length - at ≡ field_length = omega arith in
    let long = length_field x in
    rw (e ∙ field_bytes_low x h, four, sets-eq (field_bytes x) b at (omega (arith, room, long)), long, drop-drop, append_assoc) refl

-- a second run that starts where the first ends
pub sets_append : (l m b : List ℕ) (at next : ℕ) → next ≡ at + length l → sets (sets b at l) next m ≡ sets b at (l ++ m)
sets_append [] m b at next e = let q : next ≡ at = omega arith in rw q refl
sets_append (x ∷ l) m b at next e = sets_append l m (set b at x) (suc at) next (omega arith)

-- one field more of a list of values
pub fields_more : (values b : List ℕ) (at j : ℕ) → j < length values
    → sets (sets b at (fields (take j values))) (at + field_length * j) (field_bytes (get_or values j 0)) ≡ sets b at (fields (take (j + 1) values))
unfolding fields
fields_more values b at j h =
    rw (add-one j, take-suc values j 0 h, fields_append (take j values) (get_or values j 0 ∷ []), append-nil (field_bytes (get_or values j 0)))
    (sets_append (fields (take j values)) (field_bytes (get_or values j 0)) b at (at + field_length * j)
    (omega (arith, length_fields (take j values), length-take-le j values (omega arith))))

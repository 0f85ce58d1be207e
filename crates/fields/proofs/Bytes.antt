-- A field says its four bytes, so that lists of bytes with the same fields are the same; a piece of a list of bytes is one, and so is a list with one byte
-- changed. Assumes nothing.
use Prim.Native.Nat.{ℕ, zero, suc, ◌+◌, ◌-◌, ◌*◌, ◌^◌, ◌/◌, ◌%◌, ◌<◌}
use mathlib.Core.Path.{◌≡◌, refl, sym, ◌∙◌}
use mathlib.Core.List.{List}
use native.Mathlib.Decide.{ℕ_discrete, dec_lt}
use native.Mathlib.Omega.{arith}
use lib.Dec.{lit<}
use lib.ListN.{length, take, drop, set, length-set, length-take, get_or-eq_default}
use lib.Seq.{ext_get_or, get_or-take, get_or-drop, get_or-set_same, get_or-set_other}
use Rattle.fields.specs.Bytes.{byte_at, field_at, field_length, AreBytes}

-- lists that agree up to the end of a field have the same field
pub field_agrees : (p q : List ℕ) (a : ℕ) → ((j : ℕ) → j < a + field_length → byte_at p j ≡ byte_at q j) → field_at p a ≡ field_at q a
field_agrees p q a same = rw (same a (omega arith), same (a + 1) (omega arith), same (a + 2) (omega arith), same (a + 3) (omega arith)) refl

-- a piece of a list of bytes is one
pub piece_bytes : (s : List ℕ) → AreBytes s → (n a : ℕ) → AreBytes (take n (drop a s))
piece_bytes s bytes n a i = go (dec_lt i n)
  where
    go : Dec (i < n) → byte_at (take n (drop a s)) i < 2 ^ 8
    go (yes h) = rw (get_or-take n (drop a s) i 0 h, get_or-drop a s i 0) (bytes (a + i))
    go (no h) = rw (get_or-eq_default (take n (drop a s)) 0 {n = i} (omega (arith, length-take n (drop a s)))) (lit< tt)

module _ (p q : List ℕ) (bytes-p : AreBytes p) (bytes-q : AreBytes q) where
  below : (i : ℕ) → (byte_at p i < 2 ^ 8) × (byte_at q i < 2 ^ 8)
  below i = (bytes-p i, bytes-q i)

  -- the same field has the same bytes
  field_bytes_lem : (a : ℕ) → field_at p a ≡ field_at q a → (j : ℕ) → j < field_length → byte_at p (a + j) ≡ byte_at q (a + j)
  field_bytes_lem a e zero h = let start : a + 0 ≡ a = omega arith in rw start (omega (arith, e, below a, below (a + 1), below (a + 2), below (a + 3)))
  field_bytes_lem a e (suc zero) h = omega (arith, e, below a, below (a + 1), below (a + 2), below (a + 3))
  field_bytes_lem a e (suc (suc zero)) h = omega (arith, e, below a, below (a + 1), below (a + 2), below (a + 3))
  field_bytes_lem a e (suc (suc (suc zero))) h = omega (arith, e, below a, below (a + 1), below (a + 2), below (a + 3))
  field_bytes_lem a e (suc (suc (suc (suc j)))) h = absurd (omega arith)

  -- some bytes, then fields
  pub fields_same : (lead n : ℕ) → length p ≡ lead + field_length * n → length q ≡ lead + field_length * n
      → ((i : ℕ) → i < lead → byte_at p i ≡ byte_at q i)
      → ((i : ℕ) → i < n → field_at p (lead + field_length * i) ≡ field_at q (lead + field_length * i)) → p ≡ q
  fields_same lead n lp lq led fields = ext_get_or 0 p q (lp ∙ sym lq) (λ i h. at i h (dec_lt i lead))
    where
      at : (i : ℕ) → i < length p → Dec (i < lead) → byte_at p i ≡ byte_at q i
      at i h (yes l) = led i l
      at i h (no l) =
          let m : ℕ = (i - lead) / field_length in
          let j : ℕ = (i - lead) % field_length in
          let e : lead + field_length * m + j ≡ i = omega arith in
          rw e at (field_bytes_lem (lead + field_length * m) (fields m (omega arith)) j (omega arith))

-- a byte written into a list of bytes leaves one
pub bytes_set : (s : List ℕ) (i b : ℕ) → AreBytes s → b < 2 ^ 8 → AreBytes (set s i b)
bytes_set s i b bytes h j = go (ℕ_discrete j i) (dec_lt i (length s))
  where
    go : Dec (j ≡ i) → Dec (i < length s) → byte_at (set s i b) j < 2 ^ 8
    go (no q) l = rw (get_or-set_other s i j b 0 q) (bytes j)
    go (yes q) (yes l) = rw (q, get_or-set_same s i b 0 l) h
    go (yes q) (no l) = rw (get_or-eq_default (set s i b) 0 {n = j} (omega (arith, length-set s i b))) (lit< tt)

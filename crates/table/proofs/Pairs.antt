-- Where pairs of positions stand: no two pairs have the same place, and all places lie within a table that is long enough. The pairs of the far end v fill the places from
-- triangle v to triangle (v + 1). Assumes nothing.
use Prim.Native.Nat.{ℕ, zero, suc, ◌+◌, ◌-◌, ◌*◌, ◌/◌, ◌≤◌, ◌<◌}
use mathlib.Core.Path.{◌≡◌, refl}
use Rattle.chain.proofs.Products.{capped}
use native.Mathlib.Decide.{dec_lt}
use native.Mathlib.Omega.{arith}
use Rattle.units.specs.Limits.{positions}
use Rattle.table.specs.Working.Table.{triangle, needed, table_length, pair_index, IsPair}

triangle_double : (a : ℕ) → 2 * triangle a + a ≡ a * a
unfolding triangle
triangle_double zero = refl
triangle_double (suc a) = omega (arith, triangle_double a)

-- the code's own way to work it out
pub triangle_is : (a : ℕ) → 0 < a → a * (a - 1) / 2 ≡ triangle a
triangle_is zero h = absurd (omega arith)
triangle_is (suc a) h =
    let e : suc a - 1 ≡ a = omega arith in
    rw e (omega (arith, triangle_double (suc a)))

triangle_mono : (a b : ℕ) → a < b → triangle a + a ≤ triangle b
unfolding triangle
triangle_mono a zero h = absurd (omega arith)
triangle_mono a (suc b) h = go (dec_lt a b) (triangle_mono a b)
  where
    go : Dec (a < b) → (a < b → triangle a + a ≤ triangle b) → triangle a + a ≤ triangle b + b
    go (yes l) ih = omega (arith, ih l)
    go (no l) ih = let e : a ≡ b = omega arith in rw e (omega arith)

pub triangle_le : (a b : ℕ) → a ≤ b → triangle a ≤ triangle b
triangle_le a b h = go (dec_lt a b)
  where
    go : Dec (a < b) → triangle a ≤ triangle b
    go (yes l) = omega (arith, triangle_mono a b l)
    go (no l) = let e : a ≡ b = omega arith in rw e (omega arith)

-- a table that is long enough for n tasks is long enough for fewer
pub needed_less : (v n : ℕ) → v ≤ n → needed v ≤ needed n
needed_less v n h = omega (arith, triangle_le (suc v) (suc n) (omega arith))

-- and that of the longest chain for every chain
pub needed_most : (n : ℕ) → n < positions → needed n ≤ table_length
needed_most n h = omega (arith, triangle_le (suc n) positions (omega arith), triangle_is positions (omega arith))

pub pair_within : (u v : ℕ) → IsPair u v → pair_index u v < triangle (suc v)
unfolding pair_index triangle
pair_within u v p = omega (arith, p.order)

place_apart : (a b i j : ℕ) → i < a → j < b → triangle a + i ≡ triangle b + j → (a ≡ b) × (i ≡ j)
place_apart a b i j h k e = go (dec_lt a b) (dec_lt b a)
  where
    go : Dec (a < b) → Dec (b < a) → (a ≡ b) × (i ≡ j)
    go (yes l) d = absurd (omega (arith, triangle_mono a b l))
    go (no l) (yes m) = absurd (omega (arith, triangle_mono b a m))
    go (no l) (no m) = let z : a ≡ b = omega arith in (z, omega (arith, rw z at e))

-- two pairs at the same place are one pair
pub pair_apart : (u v x y : ℕ) → IsPair u v → IsPair x y → pair_index u v ≡ pair_index x y → (u ≡ x) × (v ≡ y)
unfolding pair_index
pair_apart u v x y p q e =
    let r = place_apart v y u x p.order q.order e in
    (r.1, r.0)

-- the code's own place of a pair
pub pair_index_is : (u v : ℕ) → IsPair u v → v * (v - 1) / 2 + u ≡ pair_index u v
unfolding pair_index
pair_index_is u v p = rw (triangle_is v (omega (arith, p.order)))

pub far_product : (u v : ℕ) → IsPair u v → v * (v - 1) ≤ positions * positions
far_product u v p = capped positions positions (omega (arith, p.few)) (omega (arith, p.few))

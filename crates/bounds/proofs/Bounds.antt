-- The bounds in their table: how far they go, so that no product or sum passes 64 bits, and S of the table's chain in its two parts. Assumes nothing.
use Prim.Native.Nat.{ℕ, ◌+◌, ◌-◌, ◌*◌, ◌≤◌, ◌<◌, ◌^◌}
use mathlib.Core.Path.{◌≡◌}
use mathlib.Core.List.{List}
use native.Mathlib.Decide.{dec_lt}
use native.Mathlib.Nat.{mul-le-mul_left}
use native.Mathlib.Omega.{arith}
use lib.ListN.{get_or}
use Rattle.units.specs.Unit.{unit, up}
use Rattle.units.specs.Limits.{none, positions}
use Rattle.units.proofs.Laws.{up_mono, up_cap}
use Rattle.chain.specs.Working.Bounds.{Bounds, slope_cap, slope, base_ticks, least_disk, Splits}
use Rattle.chain.specs.Working.Factors.{stretch_of, disk_cap}
use Rattle.chain.specs.Working.Search.{Rising}
use Rattle.chain.proofs.Bounds.{splits_rise}
use Rattle.chain.proofs.Products.{capped}
use Rattle.table.specs.Working.Table.{rd_start, column, entry_of, chain_in, disk_recovery_cap}
use Rattle.bounds.specs.Working.Bounds.{time_start, base_start, bounds_needed, bounds_length, square_at, bounds_in, apart_in, Bounding}

-- the most ticks that a recovery from disk adds
abbrev pub recovery_ticks : ℕ
recovery_ticks = 2 ^ 39

-- the product of a slope and a recovery
pub recovery_product : (k x : ℕ) → k ≤ slope_cap → x ≤ disk_cap → k * x ≤ recovery_ticks * unit
recovery_product k x h l = omega (arith, capped slope_cap disk_cap h l)

pub recovery_cap : (k x : ℕ) → k ≤ slope_cap → x ≤ disk_cap → up (k * x) ≤ recovery_ticks
recovery_cap k x h l = up_cap recovery_ticks (recovery_product k x h l)

module _ (b : Bounds) (u v x : ℕ) (h : x ≤ disk_cap) where
  pub slope_cap_lem : slope b u v ≤ slope_cap
  unfolding slope
  slope_cap_lem = omega arith

  pub slope_product : slope b u v * x ≤ recovery_ticks * unit
  slope_product = recovery_product (slope b u v) x slope_cap_lem h

  pub slope_ticks : up (slope b u v * x) ≤ recovery_ticks
  slope_ticks = recovery_cap (slope b u v) x slope_cap_lem h

-- S of the table's chain in its two parts
pub chain_in_splits : (t : List ℕ) → Splits (chain_in t) (apart_in t)
unfolding chain_in apart_in stretch_of
chain_in_splits t =
    record {
      whole = λ u v m d Q' M'. omega arith;
      rises = λ u v m q x h. omega (arith, up_mono (mul-le-mul_left ((entry_of t u v).both - unit) h));
    }

-- so S rises with Q' and M'
pub chain_in_rises : (t : List ℕ) → Rising (chain_in t)
chain_in_rises t = splits_rise (chain_in t) (apart_in t) (chain_in_splits t)

rows_le : (n a b : ℕ) → a ≤ b → (n + 1) * a ≤ (n + 1) * b
rows_le n a b h = mul-le-mul_left (n + 1) h

-- two places of the square are within the table, and apart where their row or their column differs
pub square_within : (n row at : ℕ) → row ≤ n → at ≤ n → square_at n row at < bounds_needed n
square_within n row at h l = omega (arith, rows_le n (row + 1) (n + 1) (omega arith))

square_row : (n row at row' at' : ℕ) → at ≤ n → row < row' → square_at n row at < square_at n row' at'
square_row n row at row' at' h l = omega (arith, rows_le n (row + 1) row' (omega arith))

pub square_apart : (n row at row' at' : ℕ) → at ≤ n → at' ≤ n → square_at n row at ≡ square_at n row' at' → (row ≡ row') × (at ≡ at')
square_apart n row at row' at' h h' e = go (dec_lt row row') (dec_lt row' row)
  where
    go : Dec (row < row') → Dec (row' < row) → (row ≡ row') × (at ≡ at')
    go (yes l) d = absurd (omega (arith, square_row n row at row' at' h l))
    go (no l) (yes k) = absurd (omega (arith, square_row n row' at' row at h' k))
    go (no l) (no k) = let z : row ≡ row' = omega arith in (z, omega (arith, rw z at e))

-- the bounds of the longest chain have room for those of every chain
pub bounds_most : (n : ℕ) → n < positions → bounds_needed n ≤ bounds_length
bounds_most n h = let h' : n + 1 ≤ positions = omega arith in omega (arith, capped positions positions h' h')

-- bounds up to an earlier position
pub bounding_less : (n top m : ℕ) (t b : List ℕ) → m ≤ top → Bounding n top t b → Bounding n m t b
bounding_less n top m t b h f =
    record {
      long = f.long;
      within = omega (arith, f.within);
      few = f.few;
      below = record {
        base_low = λ d u a k. f.below.base_low d u a (omega arith);
        part_first = λ u v a k. f.below.part_first u v a (omega arith);
        part_step = λ w u v a e k. f.below.part_step w u v a e (omega arith);
        time_step = λ u v a k. f.below.time_step u v a (omega arith);
        risk_step = λ u v a k. f.below.risk_step u v a (omega arith);
        after_next = λ d u v a e k. f.below.after_next d u v a e (omega arith);
        after_disk = λ d u a k. f.below.after_disk d u a (omega arith);
      };
      parts = λ u v a k. f.parts u v a (omega arith);
      times = λ v k. f.times v (omega arith);
      afters = λ d u a k. f.afters d u a (omega arith);
    }

-- the time of a position, as the columns have it
pub time_entry : (n : ℕ) (b : List ℕ) (u : ℕ) → (bounds_in n b).time u ≤ none → get_or b (time_start + u) 0 ≤ none
unfolding bounds_in
time_entry n b u h = h

-- a base is not more than the recovery from a disk copy at its own position
pub base_cap : (n : ℕ) (t b : List ℕ) (u : ℕ) → base_ticks (bounds_in n b) u ≤ least_disk (apart_in t) (bounds_in n b) u u → column rd_start t u ≤ disk_recovery_cap
    → unit * get_or b (base_start + u) 0 ≤ disk_recovery_cap
unfolding least_disk apart_in bounds_in
base_cap n t b u low cap = omega (arith, low, cap)

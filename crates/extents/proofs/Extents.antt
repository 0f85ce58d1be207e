-- What check 5 leaves of each section, and of their order: each begins no earlier than what stands before it ends. Assumes nothing.
use Prim.Native.Nat.{ℕ, zero, suc, ◌+◌, ◌-◌, ◌≤◌, ◌<◌}
use mathlib.Core.Path.{◌≡◌, refl}
use mathlib.Core.Logic.{◌≢◌}
use mathlib.Core.Bool.{false}
use mathlib.Core.List.{List}
use mathlib.Core.Logic.{◌⊎◌, inl, inr}
use native.Mathlib.Nat.{eq-or-lt_of_le, le_of_suc-le-suc, le_refl}
use native.Mathlib.Omega.{arith}
use borrow.Author.Tests.{ltb-false, eqb-false}
use lib.Dec.{eqb, ltb}
use lib.ListN.{length}
use Rattle.lists.proofs.Lists.{or_fails, some_fails}
use Rattle.header.specs.Header.{sections, least_offset, offset, size}
use Rattle.extents.specs.Extents.{end_before, bad_extent, bad_extents}

-- what check 5 leaves of section i
pub record Placed (s : List ℕ) (i : ℕ) : Type 0 where
  pub some_byte : 0 < size s i
  pub from_least : least_offset s ≤ offset s i
  pub sorted : end_before s i ≤ offset s i
  pub within : offset s i + size s i ≤ length s

module _ (s : List ℕ) where
  -- where the first section may start, and where the next
  pub first_start_lem : end_before s 0 ≡ least_offset s
  unfolding end_before
  first_start_lem = refl

  pub next_start : (i : ℕ) → end_before s (suc i) ≡ offset s i + size s i
  unfolding end_before
  next_start i = refl

  pub later_start : (i : ℕ) → i ≢ 0 → end_before s i ≡ offset s (i - 1) + size s (i - 1)
  later_start zero h = absurd (h refl)
  later_start (suc i) h = let e : suc i - 1 ≡ i = omega arith in rw e (next_start i)

module _ (s : List ℕ) (passed : bad_extents s ≡ false) where
  pub placed : (i : ℕ) → i < sections s → Placed s i
  unfolding bad_extents bad_extent
  placed i h =
      let none = some_fails (sections s) (bad_extent s) passed i h in
      let size' = or_fails (eqb (size s i) 0) _ none in
      let least = or_fails (ltb (offset s i) (least_offset s)) _ size'.1 in
      let before = or_fails (ltb (offset s i) (end_before s i)) _ least.1 in
      record {
        some_byte = omega (arith, eqb-false (size s i) 0 size'.0);
        from_least = ltb-false (offset s i) (least_offset s) least.0;
        sorted = ltb-false (offset s i) (end_before s i) before.0;
        within = ltb-false (length s) (offset s i + size s i) before.1;
      }

  -- what stands before a section ends no earlier than what stands before an earlier one
  pub end_mono : (i j : ℕ) → i ≤ j → j ≤ sections s → end_before s i ≤ end_before s j
  end_mono i zero h l = let e : i ≡ 0 = omega arith in rw e (le_refl (end_before s 0))
  end_mono i (suc j) h l = go (eq-or-lt_of_le h) (end_mono i j)
    where
      go : (i ≡ suc j) ⊎ (i < suc j) → (i ≤ j → j ≤ sections s → end_before s i ≤ end_before s j) → end_before s i ≤ end_before s (suc j)
      go (inl e) before = rw e (le_refl (end_before s (suc j)))
      go (inr q) before = rw (next_start s j) (omega (arith, before (le_of_suc-le-suc q) (omega arith), (placed j (omega arith)).sorted))

  -- none ends before the header, or past the sheet
  pub end_from : (i : ℕ) → i ≤ sections s → least_offset s ≤ end_before s i
  end_from i h = omega (arith, end_mono 0 i (omega arith) h, first_start_lem s)

  pub end_within : (i : ℕ) → i < sections s → end_before s (suc i) ≤ length s
  end_within i h = rw (next_start s i) (placed i h).within

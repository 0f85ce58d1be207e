-- A disk row cut by a limit has found the plan, if its time is within the limit or no time is beyond it: n is then live, and a live entry is exact. Assumes nothing.
use Prim.Native.Nat.{ℕ, ◌+◌, ◌≤◌, ◌<◌}
use mathlib.Core.Path.{◌≡◌, refl}
use mathlib.Core.Logic.{inl}
use mathlib.Core.List.{List}
use native.Mathlib.Decide.{dec_le}
use native.Mathlib.Omega.{arith}
use lib.ListN.{get_or}
use Rattle.units.specs.Limits.{none}
use Rattle.chain.specs.Working.Search.{to_disk, least_d, back_d}
use Rattle.bounds.specs.Working.Bounds.{bounds_in}
use Rattle.copies.specs.Working.Copies.{Cut, OnPlan, LiveDisk}
use Rattle.table.specs.Working.Table.{chain_in}
use Rattle.walk.specs.Working.Walk.{Found}

-- what a row cut by a limit has found
module _ (t b : List ℕ) (n limit : ℕ) (ends : (bounds_in n b).after n n ≡ 0) (limited : limit < none) (time backs : List ℕ)
    (cut : Cut none 0 (to_disk (chain_in t) none) (LiveDisk t b limit n) n time backs) where
  not_low : least_d (chain_in t) none n ≤ get_or time n 0
  unfolding least_d
  not_low = cut.not_low n (omega arith)

  live : least_d (chain_in t) none n ≤ limit → (v : ℕ) → OnPlan t b n v → LiveDisk t b limit n v
  live h v p = record { in_time = h; on_plan = p }

  exact : least_d (chain_in t) none n ≤ limit → get_or time n 0 ≡ least_d (chain_in t) none n
  unfolding least_d
  exact h = cut.times n (omega arith) (live h n (record { place = inl refl; room = omega (arith, ends) }))

  -- the plan, where all plans below none are within the limit, or the time found is
  found : get_or time n 0 ≡ least_d (chain_in t) none n → (least_d (chain_in t) none n < none → least_d (chain_in t) none n ≤ limit) → Found t b n time backs
  unfolding least_d back_d
  found e within =
      record {
        times_long = cut.times_long;
        backs_long = cut.backs_long;
        least = e;
        times = λ h v l p. cut.times v l (live (within h) v p);
        backs = λ h v l x p. cut.backs v l x (live (within h) v p);
        ends = ends;
      }

  pub found_within : get_or time n 0 ≤ limit → Found t b n time backs
  found_within h = found (exact (omega (arith, not_low))) (λ _. omega (arith, not_low))

  pub found_last : none ≤ limit + 1 → Found t b n time backs
  found_last h = found (go (dec_le (least_d (chain_in t) none n) limit)) (λ l. omega arith)
    where
      go : Dec (least_d (chain_in t) none n ≤ limit) → get_or time n 0 ≡ least_d (chain_in t) none n
      go (yes l) = exact l
      go (no l) = omega (arith, not_low, cut.capped n (omega arith))

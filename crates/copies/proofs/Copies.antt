-- The levels of the search: an arrival by the table is that of the chain that it holds, so the rows are those of the theory; and what the bounds leave out of the
-- rows of copies cannot matter to a live position. Assumes nothing.
use Prim.Native.Nat.{ℕ, ◌+◌, ◌-◌, ◌≤◌, ◌<◌, min}
use mathlib.Core.Path.{◌≡◌, refl, ◌∙◌}
use mathlib.Core.Logic.{◌≢◌, ◌⊎◌, inl, inr}
use mathlib.Core.List.{List}
use native.Mathlib.Decide.{dec_lt, ℕ_discrete}
use native.Mathlib.Omega.{arith}
use lib.ListN.{get_or, take, drop}
use Rattle.units.specs.Limits.{none}
use Rattle.chain.specs.Working.Bounds.{slope, beyond, part_low, low, least_disk}
use Rattle.chain.specs.Working.Search.{to_verification, least_q, to_memory, least_m, to_disk, least_d, reach, way, back, back_m, back_d}
use Rattle.chain.specs.declared.Recoveries.{Recoveries}
use Rattle.chain.proofs.Bounds.{recovery_rises, to_memory_rises, time_below, low_below, memory_after, last_after, disk_after}
use Rattle.chain.proofs.Search.{way_is, back_is}
use Rattle.chain.proofs.Walk.{back_d_lt, back_d_arrives, back_m_lt, back_m_arrives}
use Rattle.units.specs.Limits.{positions}
use Rattle.bounds.specs.Working.Bounds.{bounds_in, apart_in, Bounding}
use Rattle.copies.specs.Working.Copies.{Offered, LiveCopy, LiveDisk, Far, OffersDisk}
use Rattle.verifications.specs.Working.Rows.{Row}
use Rattle.table.specs.Working.Table.{cm_start, cd_start, rd_start, rm_start, column, chain_in, arrival_at}
use Rattle.table.proofs.Table.{column_part}
use Rattle.bounds.proofs.Bounds.{chain_in_splits, chain_in_rises}
use Rattle.copies.proofs.Offers.{Turn, turn_now, turn_next, offered_none}

-- offers that agree after u
pub offered_agree : (time backs : List ℕ) (u e : ℕ) (c c' : ℕ → ℕ) (time' backs' : List ℕ) → ((w : ℕ) → u < w → w < e → c w ≡ c' w)
    → Offered time backs u e c time' backs' → Offered time backs u e c' time' backs'
offered_agree time backs u e c c' time' backs' same o =
    record {
      times_long = o.times_long;
      backs_long = o.backs_long;
      time_at = λ w a b. o.time_at w a b ∙ rw (same w a b);
      back_at = λ w a b. o.back_at w a b ∙ rw (same w a b);
      time_early = o.time_early;
      back_early = o.back_early;
      time_late = o.time_late;
      back_late = o.back_late;
    }

module _ (t : List ℕ) (d e : ℕ) where
  -- a row filled with the recoveries of d and m is the theory's row
  pub table_row : (m M' : ℕ) (r : Recoveries) → r ≡ record { disk = column rd_start t d + M'; memory = column rm_start t m }
      → (time : List ℕ) → Row none m (arrival_at t r) e time → Row none m (to_verification (chain_in t) none d m M') e time
  unfolding to_verification chain_in arrival_at
  table_row m M' r is time f = rw is at f

  -- an arrival at a memory copy, by the row of verifications
  pub memory_arrival : e ≤ positions → (m M' : ℕ) (q : List ℕ) → Row none m (to_verification (chain_in t) none d m M') e q
      → (w : ℕ) → m < w → w < e → M' + get_or q w 0 + get_or (take positions (drop cm_start t)) w 0 ≡ to_memory (chain_in t) none d m M' w
  unfolding to_memory least_q chain_in
  memory_arrival few m M' q f w a h = rw (f.times w (omega arith) h, column_part cm_start t w (omega arith))

-- the memory copies from e on that cannot matter from m
module _ (n : ℕ) (time t b : List ℕ) (d m left top : ℕ) where
  abbrev soonest : ℕ → ℕ
  soonest v = low (chain_in t) (bounds_in n b) m (get_or time m 0) (column rd_start t d + get_or time m 0) v

  pub record Passed (e : ℕ) : Type 0 where
    pub from : m < e
    pub none_later : (w : ℕ) → m < w → w ≤ top → soonest w < get_or time w 0 → soonest w + (bounds_in n b).after d w < left → w < e

  -- the code's own way to say it
  pub soonest_is : (disk y : ℕ) → disk ≡ column rd_start t d + get_or time m 0 → y ≡ beyond (bounds_in n b) m disk
      → (v x : ℕ) → x ≡ part_low (chain_in t) (bounds_in n b) m y v → get_or time m 0 + x ≡ soonest v
  unfolding low
  soonest_is disk y e i v x is = rw (is, i, e)

  soonest_ge : (v : ℕ) → get_or time m 0 ≤ soonest v
  unfolding low
  soonest_ge v = omega arith

  pub passed_next : (v : ℕ) → m < v → Passed (v + 1) → min (get_or time v 0) (left - (bounds_in n b).after d v) ≤ soonest v → Passed v
  passed_next v h p x = record { from = h; none_later = λ w a k y z. go w a k y z (ℕ_discrete w v) }
    where
      go : (w : ℕ) → m < w → w ≤ top → soonest w < get_or time w 0 → soonest w + (bounds_in n b).after d w < left → Dec (w ≡ v) → w < v
      go w a k y z (yes e) = absurd (omega (arith, rw e at y, rw e at z))
      go w a k y z (no e) = omega (arith, p.none_later w a k y z)

  -- v matters, and nothing after it
  pub far_some : (v : ℕ) → m < v → v ≤ top → Passed (v + 1) → get_or time v 0 ≤ none → soonest v < min (get_or time v 0) (left - (bounds_in n b).after d v) → Far n time t b d m left top v
  far_some v h k p cap x =
      record { from = omega arith; to = k; reached = λ _. omega (arith, soonest_ge v); reaches = λ w a l y z. omega (arith, p.none_later w a l y z) }

  -- where m leaves no room, nothing after it does
  pub far_dead : Bounding n top t b → d ≤ m → m ≤ top → (v : ℕ) → v ≡ m → ((w : ℕ) → w ≤ top → get_or time w 0 ≤ none) → least_m (chain_in t) none d m ≤ get_or time m 0
      → left ≤ get_or time m 0 + (bounds_in n b).after d m → Far n time t b d m left top v
  unfolding low part_low apart_in least_disk
  far_dead bounding h k v e capped not_low dead =
      record {
        from = omega (arith, e);
        to = omega (arith, e);
        reached = λ a. absurd (omega (arith, e));
        reaches = λ w a l y z. absurd (go w a l y z (dec_lt (least_m (chain_in t) none d m) none));
      }
    where
      go : (w : ℕ) → m < w → w ≤ top → soonest w < get_or time w 0 → soonest w + (bounds_in n b).after d w < left → Dec (least_m (chain_in t) none d m < none) → ⊥
      go w a l y z (yes r) =
          let since : ℕ = (bounds_in n b).time m - (bounds_in n b).time d in
          let x : since ≤ get_or time m 0 = omega (arith, not_low, time_below (chain_in t) (apart_in t) (chain_in_splits t) none top (bounds_in n b) bounding.below d m h k r) in
          omega (
            arith,
            z,
            dead,
            bounding.below.after_next d m w h a l,
            recovery_rises (slope (bounds_in n b) m w) (beyond (bounds_in n b) m (column rd_start t d + since)) (beyond (bounds_in n b) m (column rd_start t d + get_or time m 0))
                (omega (arith, x)),
          )
      go w a l y z (no r) = omega (arith, y, capped w l, not_low)

-- the turn of the memory copy m, in the row from the disk copy d
module _ (n : ℕ) (t b : List ℕ) (d left top : ℕ) (bounding : Bounding n top t b) (room : left ≤ none) where
  pub copy_reached : (v : ℕ) → v ≤ top → LiveCopy n t b d left v → reach none d (to_memory (chain_in t) none d) v < none
  unfolding least_m
  copy_reached v h live = omega (arith, live)

  module _ (m : ℕ) (time backs : List ℕ) (turn : Turn none d (to_memory (chain_in t) none d) (LiveCopy n t b d left) top m time backs) (h : d ≤ m) (l : m < top)
      (r : ℕ) (far : Far n time t b d m left top r) where
    module _ (v : ℕ) (k : v ≤ top) (lt : d < v) (live : LiveCopy n t b d left v) (e : back_m (chain_in t) none d v ≡ m) where
      reached : least_m (chain_in t) none d v < none
      reached = omega (arith, live)

      -- m is the copy before a live v, so it is live itself, and exact
      copy_now : get_or time m 0 ≡ least_m (chain_in t) none d m
      unfolding least_m
      copy_now =
          turn_now none d _ _ top copy_reached m time backs turn h (omega arith)
          (let after = rw e at (memory_after (chain_in t) (apart_in t) (chain_in_splits t) none top (bounds_in n b) bounding.below d v lt k reached) in
          omega (arith, after, live))

      copy_still : least_m (chain_in t) none d v < get_or time v 0
      unfolding least_m back_m
      copy_still = turn.still v k (λ z. omega arith) live (omega (arith, e))

      copy_low : low (chain_in t) (bounds_in n b) m (get_or time m 0) (column rd_start t d + get_or time m 0) v ≤ least_m (chain_in t) none d v
      unfolding apart_in
      copy_low = rw copy_now (rw e at (low_below (chain_in t) (apart_in t) (chain_in_splits t) none top (bounds_in n b) bounding.below d v lt k reached))

      -- so v is not left out
      copy_within : v ≤ r
      copy_within = far.reaches v (omega (arith, back_m_lt (chain_in t) none d v lt reached)) k (omega (arith, copy_low, copy_still)) (omega (arith, copy_low, live))

      copy_arrives : to_memory (chain_in t) none d m (get_or time m 0) v ≡ least_m (chain_in t) none d v
      unfolding to_memory
      copy_arrives = rw copy_now (rw e at (back_m_arrives (chain_in t) none d v lt reached))

    copy_offered : (v : ℕ) → v ≤ top → v ≢ d → LiveCopy n t b d left v → back none d (to_memory (chain_in t) none d) v ≡ m
        → (v < r + 1) × (to_memory (chain_in t) none d m (get_or time m 0) v ≡ reach none d (to_memory (chain_in t) none d) v)
    unfolding least_m back_m
    copy_offered v k x live e =
        let at = back_is none d (to_memory (chain_in t) none d) v x (copy_reached v k live) in
        let lt : d < v = omega (arith, at.starts, at.falls) in
        (omega (arith, copy_within v k lt live e), copy_arrives v k lt live e)

    -- and an offer from a time that is not too low is not below the way by m
    copy_above : (v : ℕ) → m < r → way none d (to_memory (chain_in t) none d) v m ≤ to_memory (chain_in t) none d m (get_or time m 0) v
    copy_above v a =
        let not_low = turn.not_low m (omega arith) in
        rw (way_is none d (to_memory (chain_in t) none d) v m h (omega (arith, not_low, far.reached a)))
        (to_memory_rises (chain_in t) (chain_in_rises t) none d m _ _ v not_low)

    pub copies_offered : m < r → (time' backs' : List ℕ) → Offered time backs m (r + 1) (to_memory (chain_in t) none d m (get_or time m 0)) time' backs'
        → Turn none d (to_memory (chain_in t) none d) (LiveCopy n t b d left) top (m + 1) time' backs'
    copies_offered a time' backs' o =
        turn_next none d _ _ top copy_reached m time backs turn h (r + 1) _ time' backs' o (omega (arith, far.to)) (λ v x y. copy_above v a) copy_offered

    pub copies_passed : r ≤ m → Turn none d (to_memory (chain_in t) none d) (LiveCopy n t b d left) top (m + 1) time backs
    copies_passed a =
        turn_next none d _ _ top copy_reached m time backs turn h (m + 1) (to_memory (chain_in t) none d m (get_or time m 0)) time backs (offered_none time backs m _) (omega arith)
        (λ v x y. absurd (omega arith)) (λ v k x live e. let f = copy_offered v k x live e in (omega (arith, f.0), f.1))

-- the turn of the disk copy d
module _ (t b : List ℕ) (limit n : ℕ) (bounding : Bounding n n t b) (ends : (bounds_in n b).after n n ≡ 0) (limited : limit < none) where
  pub disk_reached : (v : ℕ) → v ≤ n → LiveDisk t b limit n v → reach none 0 (to_disk (chain_in t) none) v < none
  unfolding least_d
  disk_reached v h live = omega (arith, live.in_time, live.on_plan.room)

  end_live : least_d (chain_in t) none n ≤ limit → LiveDisk t b limit n n
  end_live h = record { in_time = h; on_plan = record { place = inl refl; room = omega (arith, ends) } }

  module _ (d : ℕ) (time backs : List ℕ) (turn : Turn none 0 (to_disk (chain_in t) none) (LiveDisk t b limit n) n d time backs) (l : d < n) (bound : ℕ)
      (is : bound ≡ min (get_or time n 0) (limit + 1)) where
    module _ (v : ℕ) (k : v ≤ n) (some : 0 < v) (live : LiveDisk t b limit n v) (e : back_d (chain_in t) none v ≡ d) where
      in_time : least_d (chain_in t) none v < none
      in_time = omega (arith, live.in_time, live.on_plan.room)

      -- d is the disk copy before a live v, so it is live itself, and exact
      before_end : (v ≡ n) ⊎ (v ≤ back_d (chain_in t) none n) → d ≤ back_d (chain_in t) none n
      before_end (inl p) = rw (← p) (omega (arith, e))
      before_end (inr p) = omega (arith, e, back_d_lt (chain_in t) none v some in_time)

      room_before : least_d (chain_in t) none d + (bounds_in n b).after d d ≤ least_d (chain_in t) none n
      room_before =
          let after = rw e at (disk_after (chain_in t) (apart_in t) (chain_in_splits t) none n (bounds_in n b) bounding.below v some k in_time) in
          omega (arith, after, live.on_plan.room)

      disk_now : get_or time d 0 ≡ least_d (chain_in t) none d
      unfolding least_d
      disk_now =
          turn_now none 0 _ _ n disk_reached d time backs turn (omega arith) (omega arith)
          (record { in_time = live.in_time; on_plan = record { place = inr (before_end live.on_plan.place); room = room_before } })

      -- the end is not exact yet, so the bound leaves room for the plan
      end_within : least_d (chain_in t) none n < bound
      unfolding least_d back_d
      end_within = omega (arith, is, live.in_time, turn.still n (omega arith) (λ z. omega arith) (end_live live.in_time) (before_end live.on_plan.place))

      disk_within : get_or time d 0 + (bounds_in n b).after d d < bound
      disk_within = omega (arith, disk_now, room_before, end_within)

      copy_within_disk : LiveCopy n t b d (bound - get_or time d 0) v
      copy_within_disk =
          let last = rw e at (last_after (chain_in t) (apart_in t) (chain_in_splits t) none n (bounds_in n b) bounding.below v some k in_time) in
          omega (arith, last, disk_now, end_within, live.on_plan.room)

      disk_arrives : (x : ℕ) → x ≡ least_m (chain_in t) none d v → get_or time d 0 + x + column cd_start t v ≡ least_d (chain_in t) none v
      unfolding chain_in
      disk_arrives x same = rw (disk_now, same) (rw e at (back_d_arrives (chain_in t) none v some in_time))

    some_task : (v : ℕ) → v ≢ 0 → 0 < v
    some_task v h = omega arith

    pub disks_offered : get_or time d 0 + (bounds_in n b).after d d < bound → (time' backs' : List ℕ) → OffersDisk time backs t b d (bound - get_or time d 0) n time' backs'
        → Turn none 0 (to_disk (chain_in t) none) (LiveDisk t b limit n) n (d + 1) time' backs'
    unfolding least_d back_d least_m to_disk chain_in
    disks_offered within time' backs' o =
        turn_next none 0 _ _ n disk_reached d time backs turn (omega arith) (n + 1) _ time' backs' o.offered (omega arith) above
        (λ v k x live e. (omega arith, disk_arrives v k (some_task v x) live e _ (o.row.times v k (copy_within_disk v k (some_task v x) live e))))
      where
        not_low : reach none 0 (to_disk (chain_in t) none) d ≤ get_or time d 0
        not_low = turn.not_low d (omega arith)

        above : (v : ℕ) → d < v → v < n + 1 → way none 0 (to_disk (chain_in t) none) v d ≤ get_or time d 0 + get_or o.copies v 0 + column cd_start t v
        above v x y =
            rw (way_is none 0 (to_disk (chain_in t) none) v d (omega arith) (omega (arith, not_low, within, is, turn.capped n (omega arith))))
            (omega (arith, not_low, o.row.not_low v (omega arith)))

    pub disks_passed : bound ≤ get_or time d 0 + (bounds_in n b).after d d → Turn none 0 (to_disk (chain_in t) none) (LiveDisk t b limit n) n (d + 1) time backs
    unfolding back_d
    disks_passed out =
        turn_next none 0 _ _ n disk_reached d time backs turn (omega arith) (d + 1) (λ w. 0) time backs (offered_none time backs d (λ w. 0)) (omega arith)
        (λ v x y. absurd (omega arith)) (λ v k x live e. absurd (omega (arith, disk_within v k (some_task v x) live e)))

-- The walk back over the rows: each step is a place of the theory's walk, and the step before it is the place before. Each step leaves room for what comes after,
-- and so does the copy before it, so what is read of the cut rows is exact. Assumes nothing.
use Prim.Native.Nat.{ℕ, ◌+◌, ◌-◌, ◌≤◌, ◌<◌}
use mathlib.Core.Path.{◌≡◌, refl, sym, ◌∙◌}
use mathlib.Core.Logic.{◌≢◌, ◌⊎◌, inl, inr}
use mathlib.Core.List.{List}
use native.Mathlib.Omega.{arith}
use lib.ListN.{length, get_or, set, replicate, length-set, length-replicate}
use Rattle.units.specs.Limits.{none}
use Rattle.chain.specs.Time.{verification, memory, disk}
use Rattle.chain.specs.declared.Recoveries.{Recoveries}
use Rattle.chain.specs.Working.Search.{back, to_verification, least_m, least_d, back_d, back_m, back_q}
use Rattle.chain.specs.Working.Walk.{Placed}
use Rattle.chain.proofs.Bounds.{memory_after, last_after, disk_after}
use Rattle.chain.proofs.Walk.{back_d_lt, back_m_lt, back_m_ge, back_m_reached, state_copy}
use Rattle.chain.proofs.Placing as placing
use Rattle.units.specs.Limits.{task_limit}
use Rattle.bounds.specs.Working.Bounds.{bounds_in, apart_in}
use Rattle.verifications.specs.Working.Rows.{Row}
use Rattle.copies.specs.Working.Copies.{OnPlan}
use Rattle.table.specs.Working.Table.{rd_start, rm_start, column, chain_in, arrival_at, Bounded, ReadyForRecoveries}
use Rattle.walk.specs.Working.Walk.{CopyRow, HasRoom, Walking, place_of, StepsBack, RowsAt, AtCopy, ReadyToWalk}
use Rattle.walk.specs.declared.Walk.{Walk}
use Rattle.bounds.proofs.Bounds.{chain_in_splits}
use Rattle.verifications.proofs.Rows.{row_less}

-- the memory copy m before v, where d is the last disk copy
pub record CopyRange (t b : List ℕ) (n d v m : ℕ) (times : List ℕ) : Type 0 where
  pub from : d ≤ m
  pub below : m < v
  pub time : get_or times m 0 ≡ least_m (chain_in t) none d m
  pub reached : least_m (chain_in t) none d m < none
  pub room : HasRoom t b n d m

-- the disk copy d before v
pub record DiskRange (t b : List ℕ) (n v d : ℕ) (times : List ℕ) : Type 0 where
  pub is : d ≡ back_d (chain_in t) none v
  pub below : d < v
  pub time : get_or times d 0 ≡ least_d (chain_in t) none d
  pub on_plan : OnPlan t b n d
  pub room : HasRoom t b n d v

-- the recoveries of d and m may be taken
pub copy_recoveries : (t b : List ℕ) (n d v m : ℕ) {times : List ℕ} → Bounded v t → CopyRange t b n d v m times → ReadyForRecoveries t d m (get_or times m 0)
copy_recoveries t b n d v m bounded range =
    record {
      long = omega (arith, bounded.long);
      d_few = omega (arith, range.from, range.below, bounded.few);
      m_few = omega (arith, range.below, bounded.few);
      rd = bounded.rd d (omega (arith, range.from, range.below));
      rm = bounded.rm m (omega (arith, range.below));
      time = omega (arith, range.time, range.reached);
    }

-- a copy that leaves room is exact
copy_time : (t b : List ℕ) (n d top : ℕ) (times copies : List ℕ) → CopyRow t b n d top times copies → (m : ℕ) → m ≤ top → HasRoom t b n d m
    → get_or times m 0 ≡ least_m (chain_in t) none d m
unfolding least_m
copy_time t b n d top times copies row m h room = row.times m h (omega (arith, room))

-- the memory row from d up to an earlier top
copies_less : (t b : List ℕ) (n d top v : ℕ) (times copies : List ℕ) → v ≤ top → CopyRow t b n d top times copies → CopyRow t b n d v times copies
copies_less t b n d top v times copies h row =
    record {
      times_long = row.times_long;
      backs_long = row.backs_long;
      capped = λ w l. row.capped w (omega arith);
      not_low = λ w l. row.not_low w (omega arith);
      times = λ w l. row.times w (omega arith);
      backs = λ w l. row.backs w (omega arith);
    }

module _ (t b : List ℕ) (n : ℕ) (time backs : List ℕ) (ready : ReadyToWalk t b n time backs) where
  -- the memory row from d at v
  module _ (d v : ℕ) (times copies : List ℕ) (row : CopyRow t b n d v times copies) (h : d < v) (l : v ≤ n) (room : HasRoom t b n d v) where
    in_memory : least_m (chain_in t) none d v < none
    in_memory = omega (arith, room, ready.in_time)

    copy_before : get_or copies v 0 ≡ back_m (chain_in t) none d v
    unfolding back_m
    copy_before = row.backs v (omega arith) (λ e. omega arith) (omega (arith, room))

    room_before : HasRoom t b n d (back_m (chain_in t) none d v)
    room_before =
        omega (arith, room, memory_after (chain_in t) (apart_in t) (chain_in_splits t) none n (bounds_in n b) ready.bounding.below d v h l in_memory)

    -- the copy before v lies from d on and before v, is reached, and leaves room
    pub copy_range : CopyRange t b n d v (get_or copies v 0) times
    copy_range =
        rw copy_before
        (record {
          from = back_m_ge (chain_in t) none d v h in_memory;
          below = back_m_lt (chain_in t) none d v h in_memory;
          time = copy_time t b n d v times copies row (back_m (chain_in t) none d v) (omega (arith, back_m_lt (chain_in t) none d v h in_memory)) room_before;
          reached = back_m_reached (chain_in t) none d v h in_memory;
          room = room_before;
        })

    -- the step at a copy
    pub copy_step : (k : ℕ) (r : Walk) → memory ≤ k → k ≤ disk → (disk ≤ k → d ≡ back_d (chain_in t) none v) → OnPlan t b n d → RowsAt t k d v times copies r
        → AtCopy t b n k d v r
    copy_step k r low high is_d on at =
        record {
          walking = rw at.is
              (record {
                state = rw copy_before (state_copy (chain_in t) none k d v (omega arith) high h (omega (arith, on.room, ready.in_time)) in_memory is_d);
                on_plan = on;
                room = copy_range.room;
                copies = row;
                checks = rw copy_range.time at at.checks;
              });
          k_is = rw at.is;
          d_is = rw at.is;
          m_is = rw at.is copy_before;
          v_is = rw at.is;
        }

  -- the disk row at v
  module _ (v : ℕ) (h : 0 < v) (l : v ≤ n) (on : OnPlan t b n v) where
    on_disk : least_d (chain_in t) none v < none
    on_disk = omega (arith, on.room, ready.in_time)

    place_before : (v ≡ n) ⊎ (v ≤ back_d (chain_in t) none n) → back_d (chain_in t) none v ≤ back_d (chain_in t) none n
    place_before (inl e) = rw e (omega arith)
    place_before (inr e) = omega (arith, e, back_d_lt (chain_in t) none v h on_disk)

    plan_before : OnPlan t b n (back_d (chain_in t) none v)
    plan_before =
        record {
          place = inr (place_before on.place);
          room = omega (arith, on.room, disk_after (chain_in t) (apart_in t) (chain_in_splits t) none n (bounds_in n b) ready.bounding.below v h l on_disk);
        }

    pub disk_range : DiskRange t b n v (get_or backs v 0) time
    disk_range =
        rw (ready.found.backs ready.in_time v l (λ e. omega arith) on)
        (record {
          is = refl;
          below = back_d_lt (chain_in t) none v h on_disk;
          time = ready.found.times ready.in_time (back_d (chain_in t) none v) (omega (arith, back_d_lt (chain_in t) none v h on_disk)) plan_before;
          on_plan = plan_before;
          room = omega (arith, on.room, last_after (chain_in t) (apart_in t) (chain_in_splits t) none n (bounds_in n b) ready.bounding.below v h l on_disk);
        })

  -- the walk starts at n
  pub plan_end : OnPlan t b n n
  plan_end = record { place = inl refl; room = omega (arith, ready.found.ends) }

-- an arrival by the table is that of the theory
arrival_same : (t : List ℕ) (d m M' : ℕ) (r : Recoveries) → r ≡ record { disk = column rd_start t d + M'; memory = column rm_start t m }
    → arrival_at t r ≡ to_verification (chain_in t) none d m M'
unfolding to_verification chain_in arrival_at
arrival_same t d m M' r is = rw is

-- the row of verifications at a step, by the recoveries of its copies
pub record CheckRange (t : List ℕ) (w : Walk) (r : Recoveries) : Type 0 where
  pub row : Row none w.m (arrival_at t r) w.v w.checks
  pub is : (u : ℕ) → u ≡ back none w.m (arrival_at t r) w.v → u ≡ back_q (chain_in t) none w.d w.m w.v

-- the step before w, by where the last position before v is
module _ (t b : List ℕ) (n : ℕ) (w : Walk) (walking : Walking t b n w) where
  pub time_here : get_or w.times w.m 0 ≡ least_m (chain_in t) none w.d w.m
  time_here = copy_time t b n w.d w.v w.times w.copies walking.copies w.m (omega (arith, walking.state.m_v)) walking.room

  pub check_range : (r : Recoveries) → r ≡ record { disk = column rd_start t w.d + get_or w.times w.m 0; memory = column rm_start t w.m } → CheckRange t w r
  unfolding back_q
  check_range r is =
      let same = rw time_here at (arrival_same t w.d w.m (get_or w.times w.m 0) r is) in
      record { row = row_less none w.m (arrival_at t r) (w.v + 1) w.v w.checks (omega arith) (rw same walking.checks); is = λ u e. rw same at e }

  pub before_mark : (u : ℕ) → u ≡ back_q (chain_in t) none w.d w.m w.v → u ≢ w.m
      → StepsBack t b n w (record { k = verification; d = w.d; m = w.m; v = u; times = w.times; copies = w.copies; checks = w.checks })
  before_mark u e x =
      let before = placing.before_mark (chain_in t) none (place_of w) walking.state u e x in
      record {
        before = before;
        walking =
            λ h.
            record {
              state = before.on_way h;
              on_plan = walking.on_plan;
              room = walking.room;
              copies = copies_less t b n w.d w.v u w.times w.copies (omega (arith, before.falls)) walking.copies;
              checks = row_less none w.m _ (w.v + 1) (u + 1) w.checks (omega (arith, before.falls)) walking.checks;
            };
      }

  module _ (u : ℕ) (e : u ≡ back_q (chain_in t) none w.d w.m w.v) (p : u ≡ w.m) where
    here : back_q (chain_in t) none w.d w.m w.v ≡ w.m
    here = sym e ∙ p

    pub before_memory : (r : Walk) → w.m ≢ w.d → AtCopy t b n memory w.d w.m r → StepsBack t b n w r
    before_memory r x at =
        record {
          before = rw (at.k_is, at.d_is, at.m_is, at.v_is) (placing.before_memory (chain_in t) none (place_of w) walking.state here x);
          walking = λ _. at.walking;
        }

    pub before_disk : (r : Walk) → w.m ≡ w.d → w.d ≢ 0 → AtCopy t b n disk (back_d (chain_in t) none w.d) w.d r → StepsBack t b n w r
    before_disk r y x at =
        record {
          before = rw (at.k_is, at.d_is, at.m_is, at.v_is) (placing.before_disk (chain_in t) none (place_of w) walking.state here y x);
          walking = λ _. at.walking;
        }

    pub before_start : (r : Walk) → w.m ≡ w.d → w.d ≡ 0 → r.v ≡ 0 → StepsBack t b n w r
    before_start r y x z =
        record {
          before = placing.before_start (chain_in t) none (place_of w) walking.state here y x (place_of r) z;
          walking = λ h. absurd (omega arith);
        }

-- the step at the memory copy m of w
module _ (t b : List ℕ) (n : ℕ) (time backs : List ℕ) (ready : ReadyToWalk t b n time backs) (w : Walk) (walking : Walking t b n w) (h : w.v ≤ n) (x : w.m ≢ w.d) where
  copies_here : CopyRow t b n w.d w.m w.times w.copies
  copies_here = copies_less t b n w.d w.v w.m w.times w.copies (omega (arith, walking.state.m_v)) walking.copies

  pub memory_range : CopyRange t b n w.d w.m (get_or w.copies w.m 0) w.times
  memory_range =
      let s = walking.state in
      copy_range t b n time backs ready w.d w.m w.times w.copies copies_here (omega (arith, s.d_m)) (omega (arith, s.m_v)) walking.room

  pub memory_step : (r : Walk) → RowsAt t memory w.d w.m w.times w.copies r → AtCopy t b n memory w.d w.m r
  memory_step r at =
      let s = walking.state in
      copy_step t b n time backs ready w.d w.m w.times w.copies copies_here (omega (arith, s.d_m)) (omega (arith, s.m_v)) walking.room memory r
      (omega arith) (omega arith) (λ k. absurd (omega arith)) walking.on_plan at

-- the marks set so far, and the step that the walk stands at
pub record PlacedAt (t b : List ℕ) (n : ℕ) (w : Walk) (l : List ℕ) : Type 0 where
  pub long : length l ≡ task_limit
  pub placed : Placed (chain_in t) none n (place_of w) l
  pub walking : 0 < w.v → Walking t b n w

pub placed_first : (t b : List ℕ) (n : ℕ) (w : Walk) → n ≤ task_limit → AtCopy t b n disk (back_d (chain_in t) none n) n w → PlacedAt t b n w (replicate task_limit 0)
placed_first t b n w few at =
    record {
      long = length-replicate {A = ℕ} task_limit 0;
      placed = rw (at.k_is, at.d_is, at.m_is, at.v_is) (placing.placed_first (chain_in t) none n task_limit few);
      walking = λ _. at.walking;
    }

pub placed_next : (t b : List ℕ) (n : ℕ) (w r : Walk) (l : List ℕ) → PlacedAt t b n w l → 0 < w.v → StepsBack t b n w r
    → PlacedAt t b n r (set l (w.v - 1) w.k)
placed_next t b n w r l at h back =
    record {
      long = length-set l (w.v - 1) w.k ∙ at.long;
      placed = placing.placed_next (chain_in t) none n (place_of w) (place_of r) l at.placed h back.before;
      walking = back.walking;
    }

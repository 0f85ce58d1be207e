-- What the bounds are below: least times, whatever the chain. Each law goes over the earliest position before v (`Walk`), where a least time is the sum of its parts.
-- Assumes nothing.
use Prim.Native.Nat.{ℕ, zero, suc, ◌+◌, ◌-◌, ◌*◌, ◌≤◌, ◌<◌}
use mathlib.Core.Path.{◌≡◌, refl}
use mathlib.Core.Logic.{◌≢◌}
use mathlib.Core.Bool.{Bool, true, false}
use native.Mathlib.Nat.{mul-le-mul_left, mul-le-mul_right}
use native.Mathlib.Decide.{dec_lt, ℕ_discrete}
use native.Mathlib.Omega.{arith}
use Rattle.units.specs.Unit.{unit, up}
use Rattle.units.proofs.Laws.{up_mono, up_add, up_ticks}
use Rattle.chain.specs.Chain.{Chain}
use Rattle.chain.specs.Working.Search.{Rising, back, to_verification, least_q, least_m, least_d, to_memory, back_d, back_m, best_q}
use Rattle.chain.specs.Working.Bounds.{Apart, Splits, Bounds, slope, base_ticks, beyond, part_low, low, least_disk, Below}
use Rattle.chain.proofs.Search.{reach_cap, reach_lower, IsBack, back_is, least_q_start}
use Rattle.chain.proofs.Walk.{back_d_lt, back_d_arrives, back_m_lt, back_m_ge, back_m_reached, back_m_arrives}

-- what a recovery of x adds rises with x
pub recovery_rises : (k x y : ℕ) → x ≤ y → up (k * x) ≤ up (k * y)
recovery_rises k x y h = up_mono (mul-le-mul_left k h)

-- and from one stretch to the next it adds up
recovery_adds : (k i j x : ℕ) → k ≤ i + j → up (k * x) ≤ up (i * x) + up (j * x)
recovery_adds k i j x h =
    let e : k * x ≤ (i + j) * x = mul-le-mul_right x h in
    let f : k * x ≤ i * x + j * x = omega (arith, e) in
    omega (arith, up_mono f, up_add (i * x) (j * x))

-- a recovery of a whole number of 2^24 ticks adds whole ticks, so what lies beyond it is rounded alone
recovery_beyond : (k a x : ℕ) → unit * a ≤ x → up (k * x) ≡ k * a + up (k * (x - unit * a))
recovery_beyond k a x h = go (x - unit * a) (omega arith)
  where
    go : (y : ℕ) → x ≡ unit * a + y → up (k * x) ≡ k * a + up (k * y)
    go y e =
        let f : k * (unit * a + y) ≡ (k * a) * unit + k * y = omega arith in
        rw (e, f) (up_ticks (k * a) (k * y))

-- S rises with Q' and M'
pub splits_rise : (c : Chain) (s : Apart) → Splits c s → Rising c
splits_rise c s splits u v m d q q' a a' h k =
    rw (splits.whole u v m d q a, splits.whole u v m d q' a')
    (omega (arith, splits.rises u v m q q' h, recovery_rises (s.stopped u v) (s.rd d + a) (s.rd d + a') (omega arith)))

-- the verification u before v, from which v is reached in least time; M' is any number
record Before (c : Chain) (N d m M' v : ℕ) : Type 0 where
  u : ℕ
  falls : u < v
  starts : m ≤ u
  allowed : c.allowed u v ≡ true
  reached : least_q c N d m M' u < N
  arrives : least_q c N d m M' u + c.S u v m d (least_q c N d m M' u) M' ≡ least_q c N d m M' v

module _ (c : Chain) (N d m M' : ℕ) where
  before_is : (v : ℕ) → v ≢ m → least_q c N d m M' v < N → Before c N d m M' v
  unfolding least_q to_verification
  before_is v h l = record {
    u = u;
    falls = at.falls;
    starts = at.starts;
    allowed = allowed;
    reached = at.reached;
    arrives = rw allowed at at.arrives;
  }
    where
      u : ℕ
      u = back N m (to_verification c N d m M') v

      at : IsBack N m (to_verification c N d m M') v u
      at = back_is N m (to_verification c N d m M') v h l

      go : (a : Bool) → c.allowed u v ≡ a → a ≡ true
      go true e = refl
      go false e = absurd (omega (arith, rw e at at.arrives))

      allowed : c.allowed u v ≡ true
      allowed = go (c.allowed u v) refl

  least_q_cap : (v : ℕ) → least_q c N d m M' v ≤ N
  unfolding least_q
  least_q_cap v = reach_cap N m (to_verification c N d m M') v

  -- the least Q(v) is at most that by u
  least_q_lower : (u v x : ℕ) → m ≤ u → u < v → c.allowed u v ≡ true → least_q c N d m M' u + c.S u v m d (least_q c N d m M' u) M' ≤ x
      → least_q c N d m M' v ≤ x
  unfolding least_q to_verification
  least_q_lower u v x h l a e = reach_lower N m (to_verification c N d m M') u v x x h l (omega (arith, e)) (omega arith) (λ _. rw a e)

-- the least Q(v) rises with M'
pub least_q_rises : (c : Chain) → Rising c → (N d m a b v : ℕ) → a ≤ b → least_q c N d m a v ≤ least_q c N d m b v
least_q_rises c rises N d m a b v h = below (suc v) v (omega arith)
  where
    go : (v : ℕ) → Dec (v ≡ m) → Dec (least_q c N d m b v < N) → ((u : ℕ) → u < v → least_q c N d m a u ≤ least_q c N d m b u)
        → least_q c N d m a v ≤ least_q c N d m b v
    go v (yes e) _ earlier = rw (e, least_q_start c N d m a) (omega arith)
    go v (no e) (no l) earlier = omega (arith, least_q_cap c N d m a v)
    go v (no e) (yes l) earlier =
        let at : Before c N d m b v = before_is c N d m b v e l in
        let i : least_q c N d m a at.u ≤ least_q c N d m b at.u = earlier at.u at.falls in
        least_q_lower c N d m a at.u v _ at.starts at.falls at.allowed (omega (arith, i, at.arrives, rises at.u v m d _ _ _ _ i h))

    below : (k v : ℕ) → v < k → least_q c N d m a v ≤ least_q c N d m b v
    below zero v i = absurd (omega arith)
    below (suc k) v i = go v (ℕ_discrete v m) (dec_lt (least_q c N d m b v) N) (λ u l. below k u (omega arith))

-- so an arrival at a memory copy rises with the time that it starts from
pub to_memory_rises : (c : Chain) → Rising c → (N d m a b v : ℕ) → a ≤ b → to_memory c N d m a v ≤ to_memory c N d m b v
unfolding to_memory
to_memory_rises c rises N d m a b v h = omega (arith, least_q_rises c rises N d m a b v h)

module _ (c : Chain) (N n d : ℕ) (P : ℕ → Type 0) where
  -- what holds at d, and at each memory copy if at its back position, holds at all of them
  along : P d → ((v : ℕ) → d < v → v ≤ n → least_m c N d v < N → P (back_m c N d v) → P v) → (v : ℕ) → d ≤ v → v ≤ n → least_m c N d v < N → P v
  along first next v h l r = all (suc v) v (omega arith) h l r
    where
      go : (v : ℕ) → Dec (v ≡ d) → d ≤ v → v ≤ n → least_m c N d v < N → ((u : ℕ) → u < v → d ≤ u → least_m c N d u < N → P u) → P v
      go v (yes e) h l r earlier = rw e first
      go v (no e) h l r earlier =
          let f : d < v = omega arith in
          next v f l r (earlier (back_m c N d v) (back_m_lt c N d v f r) (back_m_ge c N d v f r) (back_m_reached c N d v f r))

      all : (k v : ℕ) → v < k → d ≤ v → v ≤ n → least_m c N d v < N → P v
      all zero v i h l r = absurd (omega arith)
      all (suc k) v i h l r = go v (ℕ_discrete v d) h l r (λ u a f. all k u (omega arith) f (omega arith))

module _ (c : Chain) (s : Apart) (splits : Splits c s) (N n : ℕ) (b : Bounds) (below : Below n c s b) where
  -- a slope rises by `stopped` at most, over an allowed stretch
  slope_first : (m v : ℕ) → m < v → v ≤ n → c.allowed m v ≡ true → slope b m v ≤ s.stopped m v
  unfolding slope
  slope_first m v h l a = omega (arith, below.risk_step m v h l a)

  slope_step : (m u v : ℕ) → u < v → v ≤ n → c.allowed u v ≡ true → slope b m v ≤ slope b m u + s.stopped u v
  unfolding slope
  slope_step m u v h l a = omega (arith, below.risk_step u v h l a)

  -- no verification comes before its part and the recovery from disk on the way, where that is not below the base
  pub part_below : (d m M' v : ℕ) → base_ticks b m ≤ s.rd d + M' → m < v → v ≤ n → least_q c N d m M' v < N
      → b.part m v + up (slope b m v * beyond b m (s.rd d + M')) ≤ least_q c N d m M' v
  part_below d m M' v base h l r = all (suc v) v (omega arith) h l r
    where
      x : ℕ
      x = s.rd d + M'

      Holds : ℕ → Type 0
      Holds v = b.part m v + up (slope b m v * beyond b m x) ≤ least_q c N d m M' v

      apart : (k : ℕ) → up (k * x) ≡ k * b.base m + up (k * beyond b m x)
      apart k = recovery_beyond k (b.base m) x base

      go : (v : ℕ) → v ≤ n → (at : Before c N d m M' v) → Dec (at.u ≡ m) → (m < at.u → Holds at.u) → Holds v
      go v l at (yes e) earlier =
          let a : c.allowed m v ≡ true = rw e at at.allowed in
          let f : m < v = omega (arith, at.falls) in
          let first : 0 + c.S m v m d 0 M' ≡ least_q c N d m M' v = rw (e, least_q_start c N d m M') at at.arrives in
          omega (
            arith,
            first,
            splits.whole m v m d 0 M',
            apart (s.stopped m v),
            below.part_first m v f l a,
            up_mono (mul-le-mul_right (beyond b m x) (slope_first m v f l a)),
          )
      go v l at (no e) earlier =
          let u : ℕ = at.u in
          let q : ℕ = least_q c N d m M' u in
          let f : m < u = omega (arith, at.starts) in
          let i : Holds u = earlier f in
          omega (
            arith,
            i,
            at.arrives,
            splits.whole u v m d q M',
            apart (s.stopped u v),
            splits.rises u v m (b.part m u) q (omega (arith, i)),
            below.part_step m u v f at.falls l at.allowed,
            recovery_adds (slope b m v) (slope b m u) (s.stopped u v) (beyond b m x) (slope_step m u v at.falls l at.allowed),
          )

      all : (k v : ℕ) → v < k → m < v → v ≤ n → least_q c N d m M' v < N → Holds v
      all zero v i h l r = absurd (omega arith)
      all (suc k) v i h l r =
          let at : Before c N d m M' v = before_is c N d m M' v (omega arith) r in
          go v l at (ℕ_discrete at.u m) (λ f. all k at.u (omega (arith, at.falls)) f (omega (arith, at.falls)) at.reached)

  -- a memory copy whose time is not below the difference of the times has a recovery that is not below the base
  base_below : (d m t : ℕ) → d ≤ m → m ≤ n → b.time m ≤ b.time d + t → base_ticks b m ≤ s.rd d + t
  unfolding least_disk
  base_below d m t h l e = omega (arith, below.base_low d m h l)

  -- and no memory copy comes before the difference of the times
  pub time_below : (d v : ℕ) → d ≤ v → v ≤ n → least_m c N d v < N → b.time v ≤ b.time d + least_m c N d v
  time_below d = along c N n d (λ v. b.time v ≤ b.time d + least_m c N d v) (omega arith) step
    where
      step : (v : ℕ) → d < v → v ≤ n → least_m c N d v < N → b.time (back_m c N d v) ≤ b.time d + least_m c N d (back_m c N d v)
          → b.time v ≤ b.time d + least_m c N d v
      step v h l r e =
          let m : ℕ = back_m c N d v in
          let lt : m < v = back_m_lt c N d v h r in
          let base = base_below d m (least_m c N d m) (back_m_ge c N d v h r) (omega arith) e in
          let arrives : least_m c N d m + best_q c N d m v + c.cm v ≡ least_m c N d v = back_m_arrives c N d v h r in
          omega (arith, e, arrives, part_below d m (least_m c N d m) v base lt l (omega (arith, arrives)), below.time_step m v lt l)

  -- the memory copy m before v, from which v is reached in least time
  module _ (d v : ℕ) (h : d < v) (l : v ≤ n) (r : least_m c N d v < N) where
    since_below : b.time (back_m c N d v) ≤ b.time d + least_m c N d (back_m c N d v)
    since_below = time_below d (back_m c N d v) (back_m_ge c N d v h r) (omega (arith, back_m_lt c N d v h r)) (back_m_reached c N d v h r)

    -- v is not before its bound from m
    pub low_below : low c b (back_m c N d v) (least_m c N d (back_m c N d v)) (s.rd d + least_m c N d (back_m c N d v)) v ≤ least_m c N d v
    unfolding low part_low
    low_below =
        let m : ℕ = back_m c N d v in
        let lt : m < v = back_m_lt c N d v h r in
        let base = base_below d m (least_m c N d m) (back_m_ge c N d v h r) (omega arith) since_below in
        let arrives : least_m c N d m + best_q c N d m v + c.cm v ≡ least_m c N d v = back_m_arrives c N d v h r in
        omega (arith, arrives, part_below d m (least_m c N d m) v base lt l (omega (arith, arrives)))

    -- and with what comes after, the bound by v is not below that by m
    pub memory_after : least_m c N d (back_m c N d v) + b.after d (back_m c N d v) ≤ least_m c N d v + b.after d v
    unfolding low part_low least_disk
    memory_after =
        let m : ℕ = back_m c N d v in
        let since : ℕ = least_disk s b d m in
        let t : ℕ = least_m c N d m in
        omega (
          arith,
          low_below,
          below.after_next d m v (back_m_ge c N d v h r) (back_m_lt c N d v h r) l,
          recovery_rises (slope b m v) (beyond b m since) (beyond b m (s.rd d + t)) (omega (arith, since_below)),
        )

  -- from the disk copy d to a memory copy v
  pub copies_after : (d v : ℕ) → d ≤ v → v ≤ n → least_m c N d v < N → b.after d d ≤ least_m c N d v + b.after d v
  copies_after d = along c N n d (λ v. b.after d d ≤ least_m c N d v + b.after d v) (omega arith) (λ v h l r e. omega (arith, e, memory_after d v h l r))

  -- the disk copy d before v, from which v is reached in least time
  module _ (v : ℕ) (h : 0 < v) (l : v ≤ n) (r : least_d c N v < N) where
    -- v as a memory copy from d, and what comes after it there
    pub last_after : least_d c N (back_d c N v) + least_m c N (back_d c N v) v + b.after (back_d c N v) v ≤ least_d c N v + b.after v v
    last_after = omega (arith, back_d_arrives c N v h r, below.after_disk (back_d c N v) v (back_d_lt c N v h r) l)

    pub disk_after : least_d c N (back_d c N v) + b.after (back_d c N v) (back_d c N v) ≤ least_d c N v + b.after v v
    disk_after =
        let d : ℕ = back_d c N v in
        let reached : least_m c N d v < N = omega (arith, back_d_arrives c N v h r) in
        omega (arith, last_after, copies_after d v (omega (arith, back_d_lt c N v h r)) l reached)

-- Laws of the search's least times, over any cost. The least of N and of finitely many values is at most each of them, and below N it is one of them, first met
-- at the earliest position.
-- The bound on the recursion of `reach` is enough, so its equation holds; from there only that equation is used.
-- Assumes nothing.
use Prim.Native.Nat.{ℕ, zero, suc, ◌≤◌, ◌<◌}
use mathlib.Core.Path.{◌≡◌, refl, ◌∙◌, sym, ap}
use mathlib.Core.Logic.{◌≢◌}
use native.Mathlib.Decide.{dec_le, dec_lt, ℕ_discrete}
use native.Mathlib.Omega.{arith}
use lib.Dec.{leb, ltb, eqb}
use borrow.Author.Tests.{le-leb, lt-leb, lt-ltb, le-ltb, eq-eqb, ne_eqb}
use mathlib.Core.Bool.{cond}
use Rattle.chain.specs.Chain.{Chain}
use Rattle.chain.specs.Working.Search.{least, earliest, Cost, reach_to, reach, way, back, least_q, least_m, least_d}

module _ (N : ℕ) (c : ℕ → ℕ) where
  -- one more value is either less than all before, or changes nothing
  pub least_new : (k : ℕ) → c k < least N c k → (least N c (suc k) ≡ c k) × (earliest N c (suc k) ≡ k)
  unfolding least earliest
  least_new k h = (rw (lt-ltb _ _ h), rw (lt-ltb _ _ h))

  pub least_old : (k : ℕ) → least N c k ≤ c k → (least N c (suc k) ≡ least N c k) × (earliest N c (suc k) ≡ earliest N c k)
  unfolding least earliest
  least_old k h = (rw (le-ltb _ _ h), rw (le-ltb _ _ h))

  pub least_cap : (k : ℕ) → least N c k ≤ N
  unfolding least
  least_cap zero = omega arith
  least_cap (suc k) = go (dec_lt (c k) (least N c k)) (least_cap k)
    where
      go : Dec (c k < least N c k) → least N c k ≤ N → least N c (suc k) ≤ N
      go (yes h) e = omega (arith, least_new k h)
      go (no h) e = omega (arith, least_old k (omega arith))

  pub least_le : (k j : ℕ) → j < k → least N c k ≤ c j
  least_le zero j h = absurd (omega arith)
  least_le (suc k) j h = go (dec_lt (c k) (least N c k)) (ℕ_discrete j k) (least_le k j)
    where
      go : Dec (c k < least N c k) → Dec (j ≡ k) → (j < k → least N c k ≤ c j) → least N c (suc k) ≤ c j
      go (yes l) (yes p) e = rw p (omega (arith, least_new k l))
      go (no l) (yes p) e = rw p (omega (arith, least_old k (omega arith)))
      go (yes l) (no p) e = omega (arith, least_new k l, e (omega arith))
      go (no l) (no p) e = omega (arith, least_old k (omega arith), e (omega arith))

  pub earliest_le : (k : ℕ) → earliest N c k ≤ k
  unfolding earliest
  earliest_le zero = omega arith
  earliest_le (suc k) = go (dec_lt (c k) (least N c k)) (earliest_le k)
    where
      go : Dec (c k < least N c k) → earliest N c k ≤ k → earliest N c (suc k) ≤ suc k
      go (yes h) e = omega (arith, least_new k h)
      go (no h) e = omega (arith, least_old k (omega arith))

  pub earliest_at : (k : ℕ) → least N c k < N → (earliest N c k < k) × (c (earliest N c k) ≡ least N c k)
  unfolding least
  earliest_at zero h = absurd (omega arith)
  earliest_at (suc k) h = go (dec_lt (c k) (least N c k)) (earliest_at k)
    where
      go : Dec (c k < least N c k) → (least N c k < N → (earliest N c k < k) × (c (earliest N c k) ≡ least N c k))
          → (earliest N c (suc k) < suc k) × (c (earliest N c (suc k)) ≡ least N c (suc k))
      go (yes l) e = rw ((least_new k l).0, (least_new k l).1) (omega arith, refl)
      go (no l) e =
          let o = least_old k (omega arith) in
          let r = e (omega arith) in
          rw (o.0, o.1) (omega arith, r.1)

  pub earliest_first : (k j : ℕ) → j < earliest N c k → least N c k < c j
  unfolding earliest
  earliest_first zero j h = absurd (omega arith)
  earliest_first (suc k) j h = go (dec_lt (c k) (least N c k)) (earliest_first k j)
    where
      go : Dec (c k < least N c k) → (j < earliest N c k → least N c k < c j) → least N c (suc k) < c j
      go (yes l) e = omega (arith, least_new k l, least_le k j (omega (arith, least_new k l)))
      go (no l) e = omega (arith, least_old k (omega arith), e (omega (arith, least_old k (omega arith))))

least_cong : (N : ℕ) (c c' : ℕ → ℕ) (k : ℕ) → ((j : ℕ) → j < k → c j ≡ c' j) → least N c k ≡ least N c' k
unfolding least
least_cong N c c' zero e = refl
least_cong N c c' (suc k) e = rw (e k (omega arith), least_cong N c c' k (λ j h. e j (omega arith)))

module _ (N b : ℕ) (cost : Cost) where
  -- v + 1 steps are enough, and more change nothing
  reach_enough : (k l v : ℕ) → v < k → v < l → reach_to k N b cost v ≡ reach_to l N b cost v
  unfolding reach_to
  reach_enough zero l v hk hl = absurd (omega arith)
  reach_enough (suc k) zero v hk hl = absurd (omega arith)
  reach_enough (suc k) (suc l) v hk hl =
      ap (cond (eqb v b) 0) (least_cong N _ _ v (λ u h. rw (reach_enough k l u (omega arith) (omega arith))))

  -- the equation of `reach`
  pub reach_start : reach N b cost b ≡ 0
  unfolding reach reach_to
  reach_start = rw (eq-eqb b b refl)

  pub reach_is : (v : ℕ) → v ≢ b → reach N b cost v ≡ least N (way N b cost v) v
  unfolding reach reach_to way
  reach_is v h =
      rw (ne_eqb v b h)
      (least_cong N _ _ v
      (λ u l. ap (λ (t : ℕ). cond (leb b u) (cond (ltb t N) (cost u t v) N) N) (reach_enough v (suc u) u l (omega arith))))

  pub reach_cap : (v : ℕ) → reach N b cost v ≤ N
  reach_cap v = go (ℕ_discrete v b)
    where
      go : Dec (v ≡ b) → reach N b cost v ≤ N
      go (yes h) = rw h (omega (arith, reach_start))
      go (no h) = omega (arith, reach_is v h, least_cap N (way N b cost v) v)

  -- a way by a position that is reached
  pub way_is : (v u : ℕ) → b ≤ u → reach N b cost u < N → way N b cost v u ≡ cost u (reach N b cost u) v
  unfolding way
  way_is v u h l = rw (le-leb b u h, lt-ltb _ _ l)

  -- any other takes N
  pub way_unreached : (v u : ℕ) → N ≤ reach N b cost u → way N b cost v u ≡ N
  unfolding way
  way_unreached v u l = go (dec_le b u)
    where
      go : Dec (b ≤ u) → way N b cost v u ≡ N
      go (yes h) = rw (le-leb b u h, le-ltb (reach N b cost u) N l)
      go (no h) = rw (lt-leb b u (omega arith))

  pub way_before : (v u : ℕ) → u < b → way N b cost v u ≡ N
  unfolding way
  way_before v u h = rw (lt-leb b u h)

  way_none : (v u : ℕ) → way N b cost v u < N → (b ≤ u) × (reach N b cost u < N)
  unfolding way
  way_none v u = go (dec_le b u) (dec_lt (reach N b cost u) N)
    where
      go : Dec (b ≤ u) → Dec (reach N b cost u < N) → way N b cost v u < N → (b ≤ u) × (reach N b cost u < N)
      go (yes h) (yes l) w = (h, l)
      go (yes h) (no l) w = absurd (omega (arith, rw (le-leb b u h, le-ltb (reach N b cost u) N (omega arith)) at w))
      go (no h) l w = absurd (omega (arith, rw (lt-leb b u (omega arith)) at w))

  -- no arrival at v by way of u is faster: u's own time is t or less, and x is at least t and at least the cost from u
  pub reach_lower : (u v t x : ℕ) → b ≤ u → u < v → reach N b cost u ≤ t → t ≤ x
      → (reach N b cost u < N → cost u (reach N b cost u) v ≤ x) → reach N b cost v ≤ x
  reach_lower u v t x h l r tx e = go (dec_lt (reach N b cost u) N)
    where
      go : Dec (reach N b cost u < N) → reach N b cost v ≤ x
      go (yes p) =
          omega (arith, e p, way_is v u h p, reach_is v (omega arith), least_le N (way N b cost v) v u l)
      go (no p) = omega (arith, reach_cap v)

-- u is a position from which v is reached in least time
pub record IsBack (N b : ℕ) (cost : Cost) (v u : ℕ) : Type 0 where
  pub falls : u < v
  pub starts : b ≤ u
  pub reached : reach N b cost u < N
  pub arrives : cost u (reach N b cost u) v ≡ reach N b cost v

module _ (N b : ℕ) (cost : Cost) (v : ℕ) where
  pub back_le : back N b cost v ≤ v
  unfolding back
  back_le = earliest_le N (way N b cost v) v

  pub back_is : v ≢ b → reach N b cost v < N → IsBack N b cost v (back N b cost v)
  unfolding back
  back_is h l = record {
    falls = at.0;
    starts = some.0;
    reached = some.1;
    arrives = sym (way_is N b cost v u some.0 some.1) ∙ at.1 ∙ sym (reach_is N b cost v h);
  }
    where
      u : ℕ
      u = earliest N (way N b cost v) v

      at : (u < v) × (way N b cost v u ≡ least N (way N b cost v) v)
      at = earliest_at N (way N b cost v) v (omega (arith, reach_is N b cost v h))

      some : (b ≤ u) × (reach N b cost u < N)
      some = way_none N b cost v u (omega (arith, reach_is N b cost v h, at.1))

  -- a position whose way takes the least time, or less, is one
  pub back_from : (u : ℕ) → b ≤ u → u < v → reach N b cost u < N → cost u (reach N b cost u) v ≤ reach N b cost v → IsBack N b cost v u
  back_from u h l r e = record {
    falls = l;
    starts = h;
    reached = r;
    arrives = omega (arith, way_is N b cost v u h r, reach_is N b cost v (omega arith), least_le N (way N b cost v) v u l);
  }

  -- and no earlier one is
  pub back_first : (u : ℕ) → IsBack N b cost v u → back N b cost v ≤ u
  unfolding back
  back_first u i = go (dec_le (earliest N (way N b cost v) v) u)
    where
      go : Dec (earliest N (way N b cost v) v ≤ u) → earliest N (way N b cost v) v ≤ u
      go (yes h) = h
      go (no h) =
          absurd
          (omega (
            arith,
            earliest_first N (way N b cost v) v u (omega arith),
            way_is N b cost v u i.starts i.reached,
            i.arrives,
            reach_is N b cost v (omega (arith, i.starts, i.falls)),
          ))

-- at each level the least time at its start is 0
module _ (c : Chain) (N : ℕ) where
  pub least_q_start : (d m M' : ℕ) → least_q c N d m M' m ≡ 0
  unfolding least_q
  least_q_start d m M' = reach_start N m _

  pub least_m_start : (d : ℕ) → least_m c N d d ≡ 0
  unfolding least_m
  least_m_start d = reach_start N d _

  pub least_d_start : least_d c N 0 ≡ 0
  unfolding least_d
  least_d_start = reach_start N 0 _

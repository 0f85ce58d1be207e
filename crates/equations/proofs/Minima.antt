-- The least times that the plan's theorem knows are the min of the printed equations, and its positions before are the earliest at which that min is reached.
-- Assumes nothing.
use Prim.Native.Nat.{ℕ, min, ◌+◌, ◌≤◌, ◌<◌}
use mathlib.Core.Path.{◌≡◌, refl, sym, ◌∙◌}
use mathlib.Core.Logic.{◌⊎◌, inl, inr}
use mathlib.Core.Bool.{Bool, true, false}
use native.Mathlib.Decide.{dec_le, dec_lt, ℕ_discrete}
use native.Mathlib.Omega.{arith}
use borrow.Author.Tests.{lt-ltb, le-ltb}
use Rattle.chain.specs.Chain.{Chain}
use Rattle.chain.specs.Working.Search.{Cost, reach, way, back, to_verification, least_q, to_memory, least_m, to_disk, least_d, back_d, back_m, back_q, best_q}
use Rattle.chain.proofs.Search.{IsBack, least_le, reach_is, reach_cap, way_is, back_is, back_from, back_first}
use Rattle.equations.specs.declared.Least.{Least}
use Rattle.equations.specs.Working.Ready.{lesser}
use Rattle.equations.specs.Equations.{Attained, IsMin, IsEarliest, LevelEquation, by_disk, by_memory, by_verification, DiskEquation, MemoryEquation, VerificationEquation}

-- a min over nothing, over one position more, and no other
module _ (N a : ℕ) (f : ℕ → ℕ) where
  pub min_more : (k t : ℕ) → a ≤ k → IsMin N a k f t → IsMin N a (k + 1) f (min t (f k))
  min_more k t h i = record { cap = omega (arith, i.cap); lower = λ u p q. below u p (ℕ_discrete u k) q; attained = λ l. at l (dec_le t (f k)) }
    where
      below : (u : ℕ) → a ≤ u → Dec (u ≡ k) → u < k + 1 → min t (f k) ≤ f u
      below u p (yes e) q = rw e (omega arith)
      below u p (no e) q = omega (arith, i.lower u p (omega arith))

      at : min t (f k) < N → Dec (t ≤ f k) → Attained a (k + 1) f (min t (f k))
      at l (yes e) =
          let some = i.attained (omega arith) in
          record { u = some.u; from = some.from; before = omega (arith, some.before); value = omega (arith, some.value) }
      at l (no e) = record { u = k; from = h; before = omega arith; value = omega arith }

  pub min_once : (b t s : ℕ) → IsMin N a b f t → IsMin N a b f s → t ≡ s
  min_once b t s i j = go (dec_lt t s) (dec_lt s t)
    where
      not_below : (x y : ℕ) → IsMin N a b f x → IsMin N a b f y → x < y → ⊥
      not_below x y p q l =
          let some = p.attained (omega (arith, q.cap)) in
          omega (arith, some.value, q.lower some.u some.from some.before)

      go : Dec (t < s) → Dec (s < t) → t ≡ s
      go (yes l) _ = absurd (not_below t s i j l)
      go (no l) (yes k) = absurd (not_below s t j i k)
      go (no l) (no k) = omega arith

-- The loop's invariant at each level: of the positions from a to before k, where a <= k <= b, the least time and the earliest that gives it.
pub record Offered (N a b k : ℕ) (f : ℕ → ℕ) (least : Least) : Type 0 where
  pub from : a ≤ k
  pub to : k ≤ b
  pub min : IsMin N a k f least.time
  pub earliest : least.time < N → IsEarliest a k f least.time least.at

module _ (N a b : ℕ) (f : ℕ → ℕ) where
  module _ (k : ℕ) (least : Least) (o : Offered N a b k f least) (h : k < b) where
    -- a lesser time is the new least, and its position the only one
    offered_new : f k < least.time → Offered N a b (k + 1) f (record { time = f k; at = k })
    offered_new l =
        let m : min least.time (f k) ≡ f k = omega arith in
        record {
          from = omega (arith, o.from);
          to = omega arith;
          min = rw m at (min_more N a f k least.time o.from o.min);
          earliest = λ _. record { from = o.from; before = omega arith; value = refl; first = λ w p q. omega (arith, o.min.lower w p q) };
        }

    -- any other, a tie too, changes nothing
    offered_old : least.time ≤ f k → Offered N a b (k + 1) f least
    offered_old l =
        let m : min least.time (f k) ≡ least.time = omega arith in
        record {
          from = omega (arith, o.from);
          to = omega arith;
          min = rw m at (min_more N a f k least.time o.from o.min);
          earliest =
              λ z.
              let i = o.earliest z in
              record { from = i.from; before = omega (arith, i.before); value = i.value; first = i.first };
        }

    pub offered_more : Offered N a b (k + 1) f (lesser least k (f k))
    offered_more = go (dec_lt (f k) least.time)
      where
        go : Dec (f k < least.time) → Offered N a b (k + 1) f (lesser least k (f k))
        go (yes l) = rw (lt-ltb (f k) least.time l) (offered_new l)
        go (no l) = rw (le-ltb (f k) least.time (omega arith)) (offered_old (omega arith))

  -- what a level gives: past all positions, and at its start
  pub level_found : (value k : ℕ) (least : Least) → a < b → IsMin N a b f value → Offered N a b k f least → b ≤ k
      → LevelEquation N a b f value least.time least.at
  level_found value k least h i o l =
      let e : k ≡ b = omega (arith, o.to) in
      let all : Offered N a b b f least = rw e at o in
      record {
        value = min_once N a f b least.time value all.min i;
        cap = all.min.cap;
        start = λ z. absurd (omega arith);
        least = λ _. all.min;
        earliest = λ _. all.earliest;
      }

pub level_start : (N a : ℕ) (f : ℕ → ℕ) (value u : ℕ) → value ≡ 0 → LevelEquation N a a f value 0 u
level_start N a f value u e =
    record { value = sym e; cap = omega arith; start = λ _. refl; least = λ h. absurd (omega arith); earliest = λ h. absurd (omega arith) }

-- x and y are the same time, or both are N or more
abbrev pub Alike : ℕ → ℕ → ℕ → Type 0
Alike N x y = (x ≡ y) ⊎ ((N ≤ x) × (N ≤ y))

-- f gives the times of arrival at v by each position that is reached, and N or more by the others
pub record Arrivals (N b : ℕ) (cost : Cost) (v : ℕ) (f : ℕ → ℕ) : Type 0 where
  pub reached : (u : ℕ) → Alike N (f u) (cost u (reach N b cost u) v)
  pub grows : (u : ℕ) → reach N b cost u ≤ f u

module _ (N b : ℕ) (cost : Cost) (v : ℕ) (f : ℕ → ℕ) (arrivals : Arrivals N b cost v f) (h : b < v) where
  abbrev here : ℕ
  here = reach N b cost v

  -- where one of both is below N they are the same
  alike_below : (u x : ℕ) → Alike N (f u) x → (f u < N) ⊎ (x < N) → f u ≡ x
  alike_below u x (inl e) _ = e
  alike_below u x (inr e) (inl l) = absurd (omega (arith, e.0))
  alike_below u x (inr e) (inr l) = absurd (omega (arith, e.1))

  back_value : (u : ℕ) → IsBack N b cost v u → here < N → f u ≡ here
  back_value u i l = alike_below u _ (arrivals.reached u) (inr (omega (arith, i.arrives))) ∙ i.arrives

  pub reach_min : IsMin N b v f here
  reach_min = record { cap = reach_cap N b cost v; lower = λ u p q. lower u p q (dec_lt (f u) N); attained = λ l. at l }
    where
      lower : (u : ℕ) → b ≤ u → u < v → Dec (f u < N) → here ≤ f u
      lower u p q (yes l) =
          omega (
            arith,
            alike_below u _ (arrivals.reached u) (inl l),
            way_is N b cost v u p (omega (arith, arrivals.grows u)),
            reach_is N b cost v (omega arith),
            least_le N (way N b cost v) v u q,
          )
      lower u p q (no l) = omega (arith, reach_cap N b cost v)

      at : here < N → Attained b v f here
      at l =
          let i = back_is N b cost v (omega arith) l in
          record { u = back N b cost v; from = i.starts; before = i.falls; value = back_value (back N b cost v) i l }

  -- the earliest position with the least time is the one before
  earliest_back : (u : ℕ) → here < N → IsEarliest b v f here u → u ≡ back N b cost v
  earliest_back u l e = go (dec_lt (back N b cost v) u)
    where
      first : back N b cost v ≤ u
      first =
          back_first N b cost v u
          (back_from N b cost v u e.from e.before (omega (arith, arrivals.grows u, e.value))
          (omega (arith, alike_below u _ (arrivals.reached u) (inl (omega (arith, e.value))), e.value)))

      go : Dec (back N b cost v < u) → u ≡ back N b cost v
      go (yes k) =
          let i = back_is N b cost v (omega arith) l in
          absurd (omega (arith, e.first (back N b cost v) i.starts k, back_value (back N b cost v) i l))
      go (no k) = omega (arith, first)

  pub level_back : (t u : ℕ) → here < N → LevelEquation N b v f here t u → u ≡ back N b cost v
  level_back t u l q = earliest_back u l (rw q.value at (q.earliest h (omega (arith, q.value))))

-- the three levels
module _ (c : Chain) (N : ℕ) where
  disk_arrivals : (v : ℕ) → Arrivals N 0 (to_disk c N) v (by_disk c N v)
  unfolding least_d to_disk
  disk_arrivals v = record { reached = λ u. inl refl; grows = λ u. omega arith }

  memory_arrivals : (d v : ℕ) → Arrivals N d (to_memory c N d) v (by_memory c N d v)
  unfolding least_m to_memory
  memory_arrivals d v = record { reached = λ u. inl refl; grows = λ u. omega arith }

  verification_arrivals : (d m M' v : ℕ) → Arrivals N m (to_verification c N d m M') v (by_verification c N d m M' v)
  unfolding least_q to_verification
  verification_arrivals d m M' v = record { reached = λ u. by u (c.allowed u v) refl; grows = λ u. omega arith }
    where
      by : (u : ℕ) (b : Bool) → c.allowed u v ≡ b
          → Alike N (by_verification c N d m M' v u) (to_verification c N d m M' u (reach N m (to_verification c N d m M') u) v)
      by u true e = inl (rw e)
      by u false e = inr (rw e (omega arith), rw e (omega arith))

  pub disk_min : (d2 : ℕ) → 0 < d2 → IsMin N 0 d2 (by_disk c N d2) (least_d c N d2)
  unfolding least_d
  disk_min d2 h = reach_min N 0 (to_disk c N) d2 (by_disk c N d2) (disk_arrivals d2) h

  pub memory_min : (d1 m2 : ℕ) → d1 < m2 → IsMin N d1 m2 (by_memory c N d1 m2) (least_m c N d1 m2)
  unfolding least_m
  memory_min d1 m2 h = reach_min N d1 (to_memory c N d1) m2 (by_memory c N d1 m2) (memory_arrivals d1 m2) h

  pub verification_min : (d1 m1 mem v2 : ℕ) → m1 < v2 → IsMin N m1 v2 (by_verification c N d1 m1 mem v2) (least_q c N d1 m1 mem v2)
  unfolding least_q
  verification_min d1 m1 mem v2 h = reach_min N m1 (to_verification c N d1 m1 mem) v2 (by_verification c N d1 m1 mem v2) (verification_arrivals d1 m1 mem v2) h

  -- the earliest positions that give these are the plan's
  pub disk_back_lem : (d2 t u : ℕ) → 0 < d2 → least_d c N d2 < N → DiskEquation c N d2 t u → u ≡ back_d c N d2
  unfolding least_d back_d
  disk_back_lem d2 t u h l q = level_back N 0 (to_disk c N) d2 (by_disk c N d2) (disk_arrivals d2) h t u l q

  pub memory_back_lem : (d1 m2 t u : ℕ) → d1 < m2 → least_m c N d1 m2 < N → MemoryEquation c N d1 m2 t u → u ≡ back_m c N d1 m2
  unfolding least_m back_m
  memory_back_lem d1 m2 t u h l q = level_back N d1 (to_memory c N d1) m2 (by_memory c N d1 m2) (memory_arrivals d1 m2) h t u l q

  pub verification_back_lem : (d1 m1 v2 t u : ℕ) → m1 < v2 → best_q c N d1 m1 v2 < N → VerificationEquation c N d1 m1 (least_m c N d1 m1) v2 t u
      → u ≡ back_q c N d1 m1 v2
  unfolding least_q back_q
  verification_back_lem d1 m1 v2 t u h l q =
      level_back N m1 (to_verification c N d1 m1 (least_m c N d1 m1)) v2 (by_verification c N d1 m1 (least_m c N d1 m1) v2)
      (verification_arrivals d1 m1 (least_m c N d1 m1) v2) h t u l q

-- Of settings equal in least time the search's marks come first. A setting of least time has least parts, since Q, M and D contain Q', M' and D(d) as summands:
-- so at each of its marks its last positions are back positions, and the search's are the earliest of those. Level by level the lists are equal so far, or the
-- search's comes first.
-- Assumes nothing.
use Prim.Native.Nat.{ℕ, zero, suc, ◌+◌, ◌≤◌, ◌<◌}
use mathlib.Core.Path.{◌≡◌}
use mathlib.Core.Logic.{◌≢◌, ◌⊎◌, inl, inr}
use native.Mathlib.Decide.{dec_le, ℕ_discrete}
use native.Mathlib.Omega.{arith}
use Rattle.chain.specs.Chain.{Chain}
use Rattle.chain.specs.Time.{Marks, verification, memory, disk, last, Q, M, D, Q', M'}
use Rattle.chain.proofs.Equations.{Q'_else, M'_else, M'_cong, Q_is, M_is, D_is}
use Rattle.chain.specs.Plan.{Allowed, listed, Earlier, Wins}
use Rattle.chain.specs.Working.Search.{Rising, to_verification, least_q, to_memory, least_m, to_disk, least_d, back_d, back_m, back_q, plan_marks, best_q}
use Rattle.chain.proofs.Last.{last_marked, last_between, last_last, InOrder, last_in_order}
use Rattle.chain.proofs.Search.{IsBack, back_from, back_first}
use Rattle.chain.proofs.Lower.{AtLeast, setting_at_least}
use Rattle.chain.proofs.Attained.{Follows, plan_follows, plan_allowed}
use Rattle.chain.proofs.Order.{last_same, listed_compare}

-- the times of g at v and at its last positions are least, and together below N
pub record Tight (c : Chain) (N : ℕ) (g : Marks) (v : ℕ) : Type 0 where
  pub least_d_lem : D c g (last disk g v) ≤ least_d c N (last disk g v)
  pub least_m_lem : M' c g v ≤ least_m c N (last disk g v) (last memory g v)
  pub least_q_lem : Q c g v ≤ best_q c N (last disk g v) (last memory g v) v
  pub small : D c g (last disk g v) + M' c g v + Q c g v < N
  -- the last memory copy before a memory copy is a back position, and so is the last disk copy before a disk copy
  pub back_m_lem : memory ≤ g v → back_m c N (last disk g v) v ≤ last memory g v
  pub back_d_lem : disk ≤ g v → back_d c N v ≤ last disk g v

module _ (c : Chain) (rises : Rising c) (N n : ℕ) (g : Marks) (s : Allowed c n g) (v : ℕ) (pos : 0 < v) (end : v ≤ n) (marked : verification ≤ g v) where
  low : AtLeast c N g v
  low = setting_at_least c rises N n g s v pos end marked

  order : InOrder g v
  order = last_in_order g v pos

  is_back_u : Tight c N g v → IsBack N (last memory g v) (to_verification c N (last disk g v) (last memory g v) (least_m c N (last disk g v) (last memory g v))) v (last verification g v)
  unfolding least_q to_verification
  is_back_u t =
      back_from N _ _ v (last verification g v) order.m_u order.u_v
      (omega (arith, low.at_u, Q_is c g v pos, t.small))
      (rw (s.stretches v pos end marked)
      (omega (arith, rises (last verification g v) v (last memory g v) (last disk g v) _ _ _ _ low.at_u low.at_m, low.at_u, Q_is c g v pos, t.least_q_lem)))

  back_u : Tight c N g v → back_q c N (last disk g v) (last memory g v) v ≤ last verification g v
  unfolding back_q
  back_u t = back_first N _ _ v (last verification g v) (is_back_u t)

  least_u : Tight c N g v → Q' c g v ≤ best_q c N (last disk g v) (last memory g v) (last verification g v)
  unfolding least_q to_verification
  least_u t =
      omega (
        arith,
        rw (s.stretches v pos end marked) at (is_back_u t).arrives,
        t.least_q_lem,
        Q_is c g v pos,
        rises (last verification g v) v (last memory g v) (last disk g v) _ _ _ _ low.at_u low.at_m,
      )

  -- the parts of a least M(v), and of a least D(v), are least
  is_back_m : M c g v ≤ least_m c N (last disk g v) v → M c g v < N → IsBack N (last disk g v) (to_memory c N (last disk g v)) v (last memory g v)
  unfolding least_m to_memory
  is_back_m e l =
      back_from N _ _ v (last memory g v) order.d_m (omega (arith, order)) (omega (arith, low.at_m, M_is c g v pos))
      (omega (arith, low.at_m, low.verified, M_is c g v pos))

  is_back_d : D c g v ≤ least_d c N v → D c g v < N → IsBack N 0 (to_disk c N) v (last disk g v)
  unfolding least_d to_disk
  is_back_d e l =
      back_from N _ _ v (last disk g v) (omega arith) (omega (arith, order)) (omega (arith, low.at_d, D_is c g v pos))
      (omega (arith, low.at_d, low.in_memory, D_is c g v pos))

  tight_memory : D c g (last disk g v) ≤ least_d c N (last disk g v) → M c g v ≤ least_m c N (last disk g v) v
      → D c g (last disk g v) + M c g v < N → (disk ≤ g v → back_d c N v ≤ last disk g v) → Tight c N g v
  unfolding least_m to_memory back_m
  tight_memory d e l bd = record {
    least_d_lem = d;
    least_m_lem = omega (arith, i.arrives, low.verified, M_is c g v pos);
    least_q_lem = omega (arith, i.arrives, low.at_m, M_is c g v pos);
    small = omega (arith, M_is c g v pos);
    back_m_lem = λ _. back_first N _ _ v (last memory g v) i;
    back_d_lem = bd;
  }
    where
      i : IsBack N (last disk g v) (to_memory c N (last disk g v)) v (last memory g v)
      i = is_back_m e (omega arith)

  tight_disk : D c g v ≤ least_d c N v → D c g v < N → Tight c N g v
  unfolding least_d to_disk back_d
  tight_disk e l =
      let i : IsBack N 0 (to_disk c N) v (last disk g v) = is_back_d e l in
      tight_memory (omega (arith, i.arrives, low.in_memory, D_is c g v pos)) (omega (arith, i.arrives, low.at_d, D_is c g v pos))
      (omega (arith, D_is c g v pos)) (λ _. back_first N _ _ v (last disk g v) i)

module _ (c : Chain) (rises : Rising c) (N n : ℕ) (g : Marks) (s : Allowed c n g) where
  module _ (v : ℕ) (pos : 0 < v) (end : v ≤ n) (marked : verification ≤ g v) (t : Tight c N g v) (o : InOrder g v) where
    -- from v to the mark, the memory copy or the disk copy before it
    tight_at_u : last verification g v ≢ last memory g v → Tight c N g (last verification g v)
    tight_at_u e = record {
      least_d_lem = rw ed t.least_d_lem;
      least_m_lem = rw (em, ed, M'_cong c g u v em ed) t.least_m_lem;
      least_q_lem = rw (em, ed, ← Q'_else c g v e) (least_u c rises N n g s v pos end marked t);
      small = rw (ed, M'_cong c g u v em ed, ← Q'_else c g v e) (omega (arith, t.small, Q_is c g v pos));
      back_m_lem = λ h. absurd (omega (arith, plain));
      back_d_lem = λ h. absurd (omega (arith, plain));
    }
      where
        u : ℕ
        u = last verification g v

        plain : g u < memory
        plain = last_between memory g v u (omega arith) (omega arith)

        em : last memory g u ≡ last memory g v
        em = last_last verification memory g v (omega arith) e

        ed : last disk g u ≡ last disk g v
        ed = last_last verification disk g v (omega arith) (omega arith)

    tight_at_m : last memory g v ≢ last disk g v → Tight c N g (last memory g v)
    tight_at_m e =
        tight_memory c rises N n g s m (omega arith) (omega arith) (omega (arith, last_marked memory g v (omega arith)))
        (rw ed t.least_d_lem)
        (rw (ed, ← M'_else c g v e) t.least_m_lem)
        (rw (ed, ← M'_else c g v e) (omega (arith, t.small)))
        (λ h. absurd (omega (arith, last_between disk g v m (omega arith) (omega arith))))
      where
        m : ℕ
        m = last memory g v

        ed : last disk g m ≡ last disk g v
        ed = last_last memory disk g v (omega arith) e

    tight_at_d : last disk g v ≢ 0 → Tight c N g (last disk g v)
    tight_at_d e =
        tight_disk c rises N n g s (last disk g v) (omega arith) (omega arith) (omega (arith, last_marked disk g v e))
        t.least_d_lem (omega (arith, t.small))

  -- a time that is least at v is least at all marks before
  tight_below : (b v : ℕ) → v < b → 0 < v → v ≤ n → verification ≤ g v → Tight c N g v
      → (w : ℕ) → 0 < w → w ≤ v → verification ≤ g w → Tight c N g w
  tight_below zero v i pos end marked t w a b k = absurd (omega arith)
  tight_below (suc x) v i pos end marked t w a b k =
      go (ℕ_discrete w v) (dec_le w u) (ℕ_discrete u m) (ℕ_discrete m d) (last_in_order g v pos)
      (λ y l h z r e. tight_below x y (omega arith) h (omega arith) z r w a e k)
    where
      u : ℕ
      u = last verification g v

      m : ℕ
      m = last memory g v

      d : ℕ
      d = last disk g v

      go : Dec (w ≡ v) → Dec (w ≤ u) → Dec (u ≡ m) → Dec (m ≡ d) → InOrder g v
          → ((y : ℕ) → y < v → 0 < y → verification ≤ g y → Tight c N g y → w ≤ y → Tight c N g w) → Tight c N g w
      go (yes e) _ _ _ o ih = rw e t
      go (no e) (no l) _ _ o ih = absurd (omega (arith, last_between verification g v w (omega arith) (omega arith)))
      go (no e) (yes l) (no p) _ o ih =
          ih u (omega arith) (omega arith) (last_marked verification g v (omega arith)) (tight_at_u v pos end marked t o p) l
      go (no e) (yes l) (yes p) (no q) o ih =
          ih m (omega arith) (omega arith) (omega (arith, last_marked memory g v (omega arith))) (tight_at_m v pos end marked t o q) (omega arith)
      go (no e) (yes l) (yes p) (yes q) o ih =
          ih d (omega arith) (omega arith) (omega (arith, last_marked disk g v (omega arith))) (tight_at_d v pos end marked t o (omega arith))
          (omega arith)

  -- every setting of least time has least parts
  pub setting_tight : 0 < n → D c g n ≡ least_d c N n → least_d c N n < N → (w : ℕ) → 0 < w → w ≤ n → verification ≤ g w → Tight c N g w
  setting_tight h e l =
      tight_below (suc n) n (omega arith) h (omega arith) ends (tight_disk c rises N n g s n h (omega arith) ends (omega arith) (omega arith))
    where
      ends : verification ≤ g n
      ends = omega (arith, s.setting.ends)

module _ (c : Chain) (rises : Rising c) (N n : ℕ) (h : 0 < n) (l : least_d c N n < N) (g : Marks) (s : Allowed c n g) (e : D c g n ≡ least_d c N n) where
  follows : (w : ℕ) → 0 < w → w ≤ n → Follows c N (plan_marks c N n) w
  follows = plan_follows c N n h l

  tight : (w : ℕ) → 0 < w → w ≤ n → verification ≤ g w → Tight c N g w
  tight = setting_tight c rises N n g s h e l

  -- at the level of the marks of k or more the plan comes first, or agrees, if its last positions are nowhere later
  level : (k : ℕ) → k ≤ disk → ((v : ℕ) → 0 < v → v ≤ n → k ≤ plan_marks c N n v → k ≤ g v → last k (plan_marks c N n) v ≤ last k g v)
      → Earlier (listed k (plan_marks c N n) n) (listed k g n) ⊎ (listed k (plan_marks c N n) n ≡ listed k g n)
  level k i earlier =
      listed_compare k (plan_marks c N n) g n earlier h (omega (arith, (plan_allowed c N n h l).setting.ends)) (omega (arith, s.setting.ends))

  pub plan_wins : Wins n (plan_marks c N n) g
  plan_wins =
      by_disk_lem (level disk (omega arith) (λ v a b x y. omega (arith, (follows v a b).from_d x, (tight v a b (omega arith)).back_d_lem y)))
    where
      p : Marks
      p = plan_marks c N n

      by_memory_lem : listed disk p n ≡ listed disk g n → Earlier (listed memory p n) (listed memory g n) ⊎ (listed memory p n ≡ listed memory g n)
          → Earlier (listed memory p n) (listed memory g n)
          ⊎ ((listed memory p n ≡ listed memory g n)
          × (Earlier (listed verification p n) (listed verification g n) ⊎ (listed verification p n ≡ listed verification g n)))
      by_memory_lem d (inl x) = inl x
      by_memory_lem d (inr m) =
          inr (
            m,
            level verification (omega arith)
                (λ v a b x y.
                omega (
                  arith,
                  rw (last_same disk n p g d v a b, last_same memory n p g m v a b) at ((follows v a b).from_u x),
                  back_u c rises N n g s v a b y (tight v a b y),
                )),
          )

      by_disk_lem : Earlier (listed disk p n) (listed disk g n) ⊎ (listed disk p n ≡ listed disk g n) → Wins n p g
      by_disk_lem (inl x) = inl x
      by_disk_lem (inr d) =
          inr (
            d,
            by_memory_lem d
                (level memory (omega arith)
                (λ v a b x y. omega (arith, rw (last_same disk n p g d v a b) at ((follows v a b).from_m x), (tight v a b (omega arith)).back_m_lem y))),
          )

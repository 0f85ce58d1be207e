-- No allowed setting is faster than the search's least times. By induction over the marked positions: the parts Q', M' and D(d) of a time are at least the
-- least times at u, m and d,
-- and S rises with Q' and M' whatever its factors are, so the cost of the search's step from u, m or d is at most the setting's own time.
-- Assumes nothing.
use Prim.Native.Nat.{ℕ, zero, suc, ◌≤◌, ◌<◌}
use mathlib.Core.Path.{◌≡◌}
use mathlib.Core.Bool.{true}
use native.Mathlib.Decide.{ℕ_discrete}
use native.Mathlib.Omega.{arith}
use Rattle.chain.specs.Chain.{Chain}
use Rattle.chain.specs.Time.{Marks, verification, memory, disk, last, Q, M, D, Q', M'}
use Rattle.chain.proofs.Equations.{Q'_else, M'_else, Q_is, M_is, D_is}
use Rattle.chain.specs.Plan.{Allowed}
use Rattle.chain.specs.Working.Search.{Rising, to_verification, least_q, to_memory, least_m, to_disk, least_d, best_q}
use Rattle.chain.proofs.Last.{last_marked, last_last, InOrder, last_in_order}
use Rattle.chain.proofs.Search.{reach_lower, least_q_start, least_m_start, least_d_start}

-- the least times at v and at its last positions are at most those of g
pub record AtLeast (c : Chain) (N : ℕ) (g : Marks) (v : ℕ) : Type 0 where
  pub at_u : best_q c N (last disk g v) (last memory g v) (last verification g v) ≤ Q' c g v
  pub at_m : least_m c N (last disk g v) (last memory g v) ≤ M' c g v
  pub at_d : least_d c N (last disk g v) ≤ D c g (last disk g v)
  pub verified : best_q c N (last disk g v) (last memory g v) v ≤ Q c g v
  pub in_memory : least_m c N (last disk g v) v ≤ M c g v
  pub on_disk : least_d c N v ≤ D c g v

module _ (c : Chain) (rises : Rising c) (N : ℕ) (g : Marks) (v : ℕ) (o : InOrder g v)
    (earlier : (w : ℕ) → w < v → 0 < w → verification ≤ g w → AtLeast c N g w) where
  from_u : best_q c N (last disk g v) (last memory g v) (last verification g v) ≤ Q' c g v
  from_u = go (ℕ_discrete u (last memory g v))
    where
      u : ℕ
      u = last verification g v

      go : Dec (u ≡ last memory g v)
          → best_q c N (last disk g v) (last memory g v) u ≤ Q' c g v
      go (yes e) = rw (e, least_q_start) (omega arith)
      go (no e) =
          rw (Q'_else c g v e)
          (rw (last_last verification memory g v (omega arith) e, last_last verification disk g v (omega arith) (omega arith))
          at (earlier u (omega arith) (omega arith) (last_marked verification g v (omega arith))).verified)

  from_m : least_m c N (last disk g v) (last memory g v) ≤ M' c g v
  from_m = go (ℕ_discrete m (last disk g v))
    where
      m : ℕ
      m = last memory g v

      go : Dec (m ≡ last disk g v) → least_m c N (last disk g v) m ≤ M' c g v
      go (yes e) = rw (e, least_m_start) (omega arith)
      go (no e) =
          rw (M'_else c g v e)
          (rw (last_last memory disk g v (omega arith) e)
          at (earlier m (omega arith) (omega arith) (omega (arith, last_marked memory g v (omega arith)))).in_memory)

  from_d : least_d c N (last disk g v) ≤ D c g (last disk g v)
  from_d = go (ℕ_discrete d 0)
    where
      d : ℕ
      d = last disk g v

      go : Dec (d ≡ 0) → least_d c N d ≤ D c g d
      go (yes e) = rw (e, least_d_start) (omega arith)
      go (no e) = (earlier d (omega arith) (omega arith) (omega (arith, last_marked disk g v e))).on_disk

  verified_from : c.allowed (last verification g v) v ≡ true → best_q c N (last disk g v) (last memory g v) v ≤ Q c g v
  unfolding least_q to_verification
  verified_from a =
      reach_lower N m (to_verification c N d m (least_m c N d m)) u v (Q' c g v) (Q c g v) (omega arith) (omega arith) from_u
      (omega (arith, Q_is c g v (omega arith)))
      (λ _. rw (a, Q_is c g v (omega arith)) (omega (arith, from_u, rises u v m d _ _ _ _ from_u from_m)))
    where
      u : ℕ
      u = last verification g v

      m : ℕ
      m = last memory g v

      d : ℕ
      d = last disk g v

  memory_from : best_q c N (last disk g v) (last memory g v) v ≤ Q c g v → least_m c N (last disk g v) v ≤ M c g v
  unfolding least_m to_memory
  memory_from q =
      reach_lower N (last disk g v) (to_memory c N (last disk g v)) (last memory g v) v (M' c g v) (M c g v) (omega arith) (omega arith) from_m
      (omega (arith, M_is c g v (omega arith)))
      (λ _. omega (arith, q, from_m, M_is c g v (omega arith)))

  disk_from : least_m c N (last disk g v) v ≤ M c g v → least_d c N v ≤ D c g v
  unfolding least_d to_disk
  disk_from q =
      reach_lower N 0 (to_disk c N) (last disk g v) v (D c g (last disk g v)) (D c g v) (omega arith) (omega arith) from_d
      (omega (arith, D_is c g v (omega arith)))
      (λ _. omega (arith, q, from_d, D_is c g v (omega arith)))

  at_least : c.allowed (last verification g v) v ≡ true → AtLeast c N g v
  at_least a = record {
    at_u = from_u;
    at_m = from_m;
    at_d = from_d;
    verified = verified_from a;
    in_memory = memory_from (verified_from a);
    on_disk = disk_from (memory_from (verified_from a));
  }

module _ (c : Chain) (rises : Rising c) (N n : ℕ) (g : Marks) (s : Allowed c n g) where
  pub setting_at_least : (v : ℕ) → 0 < v → v ≤ n → verification ≤ g v → AtLeast c N g v
  setting_at_least v h l k = below (suc v) v (omega arith) h l k
    where
      below : (b v : ℕ) → v < b → 0 < v → v ≤ n → verification ≤ g v → AtLeast c N g v
      below zero v i h l k = absurd (omega arith)
      below (suc b) v i h l k =
          at_least c rises N g v (last_in_order g v h) (λ w a p. below b w (omega arith) p (omega arith)) (s.stretches v h l k)

  pub least_d_lower : 0 < n → least_d c N n ≤ D c g n
  least_d_lower h = (setting_at_least n h (omega arith) (omega (arith, s.setting.ends))).on_disk

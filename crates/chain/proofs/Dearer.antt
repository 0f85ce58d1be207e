-- A chain that is nowhere cheaper gives every setting a time that is nowhere less, so its least time is nowhere less and what was too slow stays so.
-- Assumes nothing.
use Prim.Native.Nat.{ℕ, zero, suc, ◌≤◌, ◌<◌}
use mathlib.Core.Path.{sym, ◌∙◌}
use native.Mathlib.Nat.{le_trans}
use native.Mathlib.Omega.{arith}
use Rattle.chain.specs.Chain.{Chain}
use Rattle.chain.specs.Time.{Marks, Times, verification, memory, disk, last, times, D}
use Rattle.chain.specs.Plan.{Allowed, IsPlan}
use Rattle.chain.specs.Dearer.{NowhereLess}
use Rattle.chain.specs.Working.Same.{Same}
use Rattle.chain.specs.Working.Search.{Rising}
use Rattle.chain.proofs.Equations.{last_lt, past_le}
use Rattle.chain.proofs.Last.{InOrder, last_in_order}

-- the three times at a position, each at most the other's
record AtMost (a b : Times) : Type 0 where
  q : a.q ≤ b.q
  m : a.m ≤ b.m
  d : a.d ≤ b.d

module _ (n : ℕ) (c c' : Chain) (rises : Rising c') (less : NowhereLess n c c') where
  -- S is not less at times Q' and M' that are not less
  stretch_dearer : (u v m d : ℕ) {q q' t t' : ℕ} → q ≤ q' → t ≤ t' → d ≤ m → m ≤ u → u < v → v ≤ n → c.S u v m d q t ≤ c'.S u v m d q' t'
  stretch_dearer u v m d {q} {q'} {t} {t'} a b d_m m_u u_v l =
      le_trans (less.stretch u v m d q t d_m m_u u_v l) (rises u v m d q q' t t' a b)

  module _ (f : Marks) where
    times_dearer : (k v : ℕ) → 0 < v → v ≤ n → AtMost (times k c f v) (times k c' f v)
    unfolding times
    times_dearer zero v h l = record { q = omega arith; m = omega arith; d = omega arith }
    times_dearer (suc k) v h l =
        let u : ℕ = last verification f v in
        let m : ℕ = last memory f v in
        let d : ℕ = last disk f v in
        let order : InOrder f v = last_in_order f v h in
        let q' = past_le u m (times k c f u).q (times k c' f u).q order.m_u (λ p. (times_dearer k u p (omega (arith, order))).q) in
        let m' = past_le m d (times k c f m).m (times k c' f m).m order.d_m (λ p. (times_dearer k m p (omega (arith, order))).m) in
        let d' = past_le d 0 (times k c f d).d (times k c' f d).d (omega arith) (λ p. (times_dearer k d p (omega (arith, order))).d) in
        let s = stretch_dearer u v m d q' m' order.d_m order.m_u order.u_v l in
        record {
          q = omega (arith, q', s);
          m = omega (arith, q', m', s, less.cm v h l);
          d = omega (arith, q', m', d', s, less.cm v h l, less.cd v h l);
        }

    -- every setting takes at least as long
    pub D_dearer : D c f n ≤ D c' f n
    unfolding D
    D_dearer = past_le n 0 _ _ (omega arith) (λ p. (times_dearer n n p (omega arith)).d)

    -- and an allowed setting of the dearer chain is one of the cheaper
    allowed_cheaper : Allowed c' n f → Allowed c n f
    allowed_cheaper a =
        record {
          setting = a.setting;
          stretches = λ v h l k. less.allowed (last verification f v) v (last_lt verification f v h) l ∙ a.stretches v h l k;
        }

  -- what no allowed setting of the cheaper chain comes below, none of the dearer does
  pub bound_dearer : (t : ℕ) → ((g : Marks) → Allowed c n g → t ≤ D c g n) → (g : Marks) → Allowed c' n g → t ≤ D c' g n
  bound_dearer t all g a = le_trans (all g (allowed_cheaper g a)) (D_dearer g)

  -- so the least time is not less
  pub least_dearer : (f g : Marks) (t t' : ℕ) → IsPlan c n f t → IsPlan c' n g t' → t ≤ t'
  least_dearer f g t t' p p' = rw p'.time at (bound_dearer t p.least g p'.allowed)

-- chains that cost the same are nowhere cheaper where these are not
pub nowhere_same : (n : ℕ) (k k' c c' : Chain) → Same n k c → Same n k' c' → NowhereLess n k k' → NowhereLess n c c'
nowhere_same n k k' c c' same same' less =
    record {
      allowed = λ u v a b. sym (same.allowed u v a b) ∙ less.allowed u v a b ∙ same'.allowed u v a b;
      stretch = λ u v m d Q' M' x y a b. omega (arith, less.stretch u v m d Q' M' x y a b, same.stretch u v m d Q' M' x y a b, same'.stretch u v m d Q' M' x y a b);
      cm = λ v a b. omega (arith, less.cm v a b, same.cm v a b, same'.cm v a b);
      cd = λ v a b. omega (arith, less.cd v a b, same.cd v a b, same'.cd v a b);
    }

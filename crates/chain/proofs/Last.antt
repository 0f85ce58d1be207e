-- Laws of the last position before v with a mark of k or more: it is the one position below v that is marked so (or is 0) with nothing marked so after it.
-- So a last position of a higher mark stays the last one seen from a last position of a lower mark, if the two differ.
-- Assumes nothing.
use Prim.Native.Nat.{ℕ, zero, suc, ◌≤◌, ◌<◌}
use mathlib.Core.Path.{◌≡◌, refl}
use mathlib.Core.Logic.{◌≢◌}
use native.Mathlib.Decide.{dec_le, ℕ_discrete}
use native.Mathlib.Omega.{arith}
use Rattle.chain.specs.Time.{Marks, verification, memory, disk, last}
use Rattle.chain.proofs.Equations.{last_here, last_past, last_lt, last_mono}

-- where it is not 0, the last position has its mark
pub last_marked : (k : ℕ) (f : Marks) (v : ℕ) → last k f v ≢ 0 → k ≤ f (last k f v)
unfolding last
last_marked k f zero h = absurd (h refl)
last_marked k f (suc v) h = go (dec_le k (f v)) (last_marked k f v)
  where
    go : Dec (k ≤ f v) → (last k f v ≢ 0 → k ≤ f (last k f v)) → k ≤ f (last k f (suc v))
    go (yes a) e = rw (last_here k f v a) a
    go (no a) e = let s : last k f (suc v) ≡ last k f v = last_past k f v (omega arith) in rw s (e (omega arith))

-- nothing after it has that mark
pub last_between : (k : ℕ) (f : Marks) (v w : ℕ) → last k f v < w → w < v → f w < k
last_between k f zero w a b = absurd (omega arith)
last_between k f (suc v) w a b = go (dec_le k (f v)) (ℕ_discrete w v) (last_between k f v w)
  where
    go : Dec (k ≤ f v) → Dec (w ≡ v) → (last k f v < w → w < v → f w < k) → f w < k
    go (yes h) s e = absurd (omega (arith, last_here k f v h))
    go (no h) (yes s) e = rw s (omega arith)
    go (no h) (no s) e = e (omega (arith, last_past k f v (omega arith))) (omega arith)

-- and these three facts determine it
pub last_is : (k : ℕ) (f : Marks) (v p : ℕ) → p < v → (p ≢ 0 → k ≤ f p) → ((w : ℕ) → p < w → w < v → f w < k) → last k f v ≡ p
last_is k f v p h marked after = go (dec_le p (last k f v)) (dec_le (last k f v) p)
  where
    go : Dec (p ≤ last k f v) → Dec (last k f v ≤ p) → last k f v ≡ p
    go (yes a) (yes b) = omega arith
    go (yes a) (no b) =
        absurd (omega (arith, last_marked k f v (omega arith), after (last k f v) (omega arith) (last_lt k f v (omega arith))))
    go (no a) b = absurd (omega (arith, marked (omega arith), last_between k f v p (omega arith) h))

-- positions without that mark leave it
pub last_over : (k : ℕ) (f : Marks) (p v : ℕ) → p < v → ((w : ℕ) → p < w → w < v → f w < k) → last k f v ≡ last k f (suc p)
last_over k f p v h none =
    last_is k f v (last k f (suc p)) (omega (arith, last_lt k f (suc p) (omega arith))) (last_marked k f (suc p))
    (λ w a b. go w a b (dec_le w p))
  where
    go : (w : ℕ) → last k f (suc p) < w → w < v → Dec (w ≤ p) → f w < k
    go w a b (yes l) = last_between k f (suc p) w a (omega arith)
    go w a b (no l) = none w (omega arith) b

-- seen from the last position of a lower mark, the last position of a higher mark is the same, unless it is that very position
pub last_last : (k j : ℕ) (f : Marks) (v : ℕ) → k ≤ j → last k f v ≢ last j f v → last j f (last k f v) ≡ last j f v
unfolding last
last_last k j f zero h e = absurd (e refl)
last_last k j f (suc v) h e =
    last_is j f (last k f (suc v)) (last j f (suc v))
    (omega (arith, last_mono k j f (suc v) h))
    (last_marked j f (suc v))
    (λ w a b. last_between j f (suc v) w a (omega (arith, last_lt k f (suc v) (omega arith))))

-- the three last positions before v stand in order
pub record InOrder (f : Marks) (v : ℕ) : Type 0 where
  pub d_m : last disk f v ≤ last memory f v
  pub m_u : last memory f v ≤ last verification f v
  pub u_v : last verification f v < v

pub last_in_order : (f : Marks) (v : ℕ) → 0 < v → InOrder f v
last_in_order f v h = record {
  d_m = last_mono memory disk f v (omega arith);
  m_u = last_mono verification memory f v (omega arith);
  u_v = last_lt verification f v h;
}

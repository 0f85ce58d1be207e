-- What a setting has spent before v: D(d) + M' + Q', the time up to the last mark before v. Over one position each part stays, takes the time at that position,
-- or starts anew, as its mark says.
-- The time at a position contains the parts before it, so what is spent never falls; after a mark of 3 at n it is D(n).
-- Assumes nothing.
use Prim.Native.Nat.{ℕ, zero, suc, ◌+◌, ◌≤◌, ◌<◌}
use mathlib.Core.Path.{◌≡◌, refl}
use native.Mathlib.Decide.{dec_le, ℕ_discrete}
use native.Mathlib.Omega.{arith}
use borrow.Author.Tests.{eq-eqb, ne_eqb}
use Rattle.chain.specs.Chain.{Chain}
use Rattle.chain.specs.Time.{Marks, verification, memory, disk, last, Q, M, D, Q', M'}
use Rattle.chain.proofs.Equations.{last_here, last_past, last_lt, Q_is, M_is, D_is}

-- the time up to the last mark before v: D(d) + M' + Q'
unfoldable pub spent : Chain → Marks → ℕ → ℕ
spent c f v = D c f (last disk f v) + M' c f v + Q' c f v

module _ (c : Chain) (f : Marks) (v : ℕ) where
  -- Q' over one position: a mark of 1 hands on Q(v), a memory copy starts anew
  pub Q'_same : f v < verification → Q' c f (suc v) ≡ Q' c f v
  unfolding Q'
  Q'_same h = rw (last_past verification f v h, last_past memory f v (omega arith))

  pub Q'_next : 0 < v → verification ≤ f v → f v < memory → Q' c f (suc v) ≡ Q c f v
  unfolding Q'
  Q'_next p h l =
      rw (
        last_here verification f v h,
        last_past memory f v l,
        ne_eqb v (last memory f v) (omega (arith, last_lt memory f v p)),
      )

  pub Q'_none : memory ≤ f v → Q' c f (suc v) ≡ 0
  unfolding Q'
  Q'_none h = rw (last_here verification f v (omega arith), last_here memory f v h, eq-eqb v v refl)

  -- M' over one position: a mark of 2 hands on M(v), a disk copy starts anew
  pub M'_same : f v < memory → M' c f (suc v) ≡ M' c f v
  unfolding M'
  M'_same h = rw (last_past memory f v h, last_past disk f v (omega arith))

  pub M'_next : 0 < v → memory ≤ f v → f v < disk → M' c f (suc v) ≡ M c f v
  unfolding M'
  M'_next p h l =
      rw (
        last_here memory f v h,
        last_past disk f v l,
        ne_eqb v (last disk f v) (omega (arith, last_lt disk f v p)),
      )

  pub M'_none : disk ≤ f v → M' c f (suc v) ≡ 0
  unfolding M'
  M'_none h = rw (last_here memory f v (omega arith), last_here disk f v h, eq-eqb v v refl)

  -- D(d) over one position: a disk copy hands on D(v)
  pub D_same : f v < disk → D c f (last disk f (suc v)) ≡ D c f (last disk f v)
  D_same h = rw (last_past disk f v h)

  pub D_next : disk ≤ f v → D c f (last disk f (suc v)) ≡ D c f v
  D_next h = rw (last_here disk f v h)

  pub spent_done : disk ≤ f v → spent c f (suc v) ≡ D c f v
  unfolding spent
  spent_done h = omega (arith, D_next h, M'_none h, Q'_none (omega arith))

  spent_step : 0 < v → spent c f v ≤ spent c f (suc v)
  unfolding spent
  spent_step p = go (dec_le verification (f v)) (dec_le memory (f v)) (dec_le disk (f v))
    where
      go : Dec (verification ≤ f v) → Dec (memory ≤ f v) → Dec (disk ≤ f v) → D c f (last disk f v) + M' c f v + Q' c f v ≤ D c f (last disk f (suc v)) + M' c f (suc v) + Q' c f (suc v)
      go (no a) _ _ = omega (arith, D_same (omega arith), M'_same (omega arith), Q'_same (omega arith))
      go (yes a) (no b) _ = omega (arith, D_same (omega arith), M'_same (omega arith), Q'_next p a (omega arith), Q_is c f v p)
      go (yes a) (yes b) (no e) =
          omega (arith, D_same (omega arith), M'_next p b (omega arith), Q'_none b, M_is c f v p, Q_is c f v p)
      go (yes a) (yes b) (yes e) = omega (arith, D_next e, M'_none e, Q'_none b, D_is c f v p, M_is c f v p, Q_is c f v p)

module _ (c : Chain) (f : Marks) where
  spent_zero : spent c f 0 ≡ 0
  unfolding spent last Q' M' D
  spent_zero = refl

  pub spent_mono : (v w : ℕ) → v ≤ w → spent c f v ≤ spent c f w
  spent_mono zero w h = omega (arith, spent_zero)
  spent_mono (suc v) zero h = absurd (omega arith)
  spent_mono (suc v) (suc w) h = go (ℕ_discrete v w) (spent_mono (suc v) w)
    where
      go : Dec (v ≡ w) → (suc v ≤ w → spent c f (suc v) ≤ spent c f w) → spent c f (suc v) ≤ spent c f (suc w)
      go (yes a) e = rw a (omega arith)
      go (no a) e = omega (arith, e (omega arith), spent_step c f w (omega arith))

-- The equations of document 01, without the bound on the recursion: Q(v), M(v) and D(v) at any position v but the start.
-- A last position lies before v, and the equations recur only at positions after the start, so v steps of the recursion are enough.
-- Assumes nothing.
use Prim.Native.Nat.{ℕ, zero, suc, ◌+◌, ◌≤◌, ◌<◌}
use mathlib.Core.Path.{◌≡◌, refl, ap}
use mathlib.Core.Logic.{◌≢◌}
use native.Mathlib.Decide.{dec_le, ℕ_discrete}
use native.Mathlib.Omega.{arith}
use lib.Dec.{eqb}
use borrow.Author.Tests.{le-leb, lt-leb, eq-eqb, ne_eqb}
use mathlib.Core.Bool.{cond}
use Rattle.chain.specs.Chain.{Chain}
use Rattle.chain.specs.Time.{Marks, verification, memory, disk, last, Times, times, Q, M, D, Q', M'}

-- over one position: a mark of k or more is the new last position, any other mark leaves it
pub last_here : (k : ℕ) (f : Marks) (v : ℕ) → k ≤ f v → last k f (suc v) ≡ v
unfolding last
last_here k f v h = rw (le-leb _ _ h)

pub last_past : (k : ℕ) (f : Marks) (v : ℕ) → f v < k → last k f (suc v) ≡ last k f v
unfolding last
last_past k f v h = rw (lt-leb _ _ h)

pub last_le : (k : ℕ) (f : Marks) (v : ℕ) → last k f v ≤ v
unfolding last
last_le k f zero = omega arith
last_le k f (suc v) = go (dec_le k (f v)) (last_le k f v)
  where
    go : Dec (k ≤ f v) → last k f v ≤ v → last k f (suc v) ≤ suc v
    go (yes h) e = omega (arith, last_here k f v h)
    go (no h) e = omega (arith, last_past k f v (omega arith))

pub last_lt : (k : ℕ) (f : Marks) (v : ℕ) → 0 < v → last k f v < v
last_lt k f zero h = absurd (omega arith)
last_lt k f (suc v) h = go (dec_le k (f v))
  where
    go : Dec (k ≤ f v) → last k f (suc v) < suc v
    go (yes h) = omega (arith, last_here k f v h)
    go (no h) = omega (arith, last_past k f v (omega arith), last_le k f v)

-- nothing comes before task 1
pub last_first : (k : ℕ) (f : Marks) → last k f 1 ≡ 0
last_first k f = omega (arith, last_lt k f 1 (omega arith))

-- the higher the mark, the earlier its last position
pub last_mono : (k j : ℕ) (f : Marks) (v : ℕ) → k ≤ j → last j f v ≤ last k f v
unfolding last
last_mono k j f zero h = omega arith
last_mono k j f (suc v) h = go (dec_le k (f v)) (dec_le j (f v)) (last_mono k j f v h)
  where
    go : Dec (k ≤ f v) → Dec (j ≤ f v) → last j f v ≤ last k f v → last j f (suc v) ≤ last k f (suc v)
    go (yes a) (yes b) e = omega (arith, last_here k f v a, last_here j f v b)
    go (yes a) (no b) e = omega (arith, last_here k f v a, last_past j f v (omega arith), last_le j f v)
    go (no a) (yes b) e = absurd (omega arith)
    go (no a) (no b) e = omega (arith, last_past k f v (omega arith), last_past j f v (omega arith))

-- a time that counts only at a position u past b is looked at only after the start
pub past : (u b : ℕ) (x y : Times) (part : Times → ℕ) → b ≤ u → (0 < u → x ≡ y) → cond (eqb u b) 0 (part x) ≡ cond (eqb u b) 0 (part y)
past u b x y part h e = go (ℕ_discrete u b)
  where
    go : Dec (u ≡ b) → cond (eqb u b) 0 (part x) ≡ cond (eqb u b) 0 (part y)
    go (yes i) = rw (eq-eqb u b i)
    go (no i) = rw (ne_eqb u b i) (ap part (e (omega arith)))

-- and is not less where it is not less after the start
pub past_le : (u b x y : ℕ) → b ≤ u → (0 < u → x ≤ y) → cond (eqb u b) 0 x ≤ cond (eqb u b) 0 y
past_le u b x y h le = go (ℕ_discrete u b)
  where
    go : Dec (u ≡ b) → cond (eqb u b) 0 x ≤ cond (eqb u b) 0 y
    go (yes i) = rw (eq-eqb u b i) (omega arith)
    go (no i) = rw (ne_eqb u b i) (le (omega arith))

module _ (c : Chain) (f : Marks) where
  -- v steps are enough, and more change nothing
  times_enough : (k l v : ℕ) → 0 < v → v ≤ k → v ≤ l → times k c f v ≡ times l c f v
  unfolding times
  times_enough zero l v h hk hl = absurd (omega arith)
  times_enough (suc k) zero v h hk hl = absurd (omega arith)
  times_enough (suc k) (suc l) v h hk hl =
      let u : ℕ = last verification f v in
      let m : ℕ = last memory f v in
      let d : ℕ = last disk f v in
      let mu : m ≤ u = last_mono verification memory f v (omega arith) in
      let dm : d ≤ m = last_mono memory disk f v (omega arith) in
      let uv : u < v = last_lt verification f v h in
      rw (
        past u m (times k c f u) (times l c f u) (λ t. t.q) mu (λ p. times_enough k l u p (omega arith) (omega arith)),
        past m d (times k c f m) (times l c f m) (λ t. t.m) dm (λ p. times_enough k l m p (omega arith) (omega arith)),
        past d 0 (times k c f d) (times l c f d) (λ t. t.d) (omega arith) (λ p. times_enough k l d p (omega arith) (omega arith)),
      )

  -- so a last position's time is the one of its own
  steps_own : (k u b : ℕ) (part : Times → ℕ) → u < suc k → b ≤ u → cond (eqb u b) 0 (part (times k c f u)) ≡ cond (eqb u b) 0 (part (times u c f u))
  steps_own k u b part l h = past u b (times k c f u) (times u c f u) part h (λ p. times_enough k u u p (omega arith) (omega arith))

  Q'_steps : (k : ℕ) → cond (eqb (last verification f (suc k)) (last memory f (suc k))) 0 (times k c f (last verification f (suc k))).q ≡ Q' c f (suc k)
  unfolding Q' Q
  Q'_steps k =
      steps_own k _ _ (λ t. t.q) (last_lt verification f (suc k) (omega arith)) (last_mono verification memory f (suc k) (omega arith))

  M'_steps : (k : ℕ) → cond (eqb (last memory f (suc k)) (last disk f (suc k))) 0 (times k c f (last memory f (suc k))).m ≡ M' c f (suc k)
  unfolding M' M
  M'_steps k = steps_own k _ _ (λ t. t.m) (last_lt memory f (suc k) (omega arith)) (last_mono memory disk f (suc k) (omega arith))

  -- Q' is 0 if u = m, else Q(u)
  pub Q'_start : (v : ℕ) → last verification f v ≡ last memory f v → Q' c f v ≡ 0
  unfolding Q'
  Q'_start v h = rw (eq-eqb _ _ h)

  pub Q'_else : (v : ℕ) → last verification f v ≢ last memory f v → Q' c f v ≡ Q c f (last verification f v)
  unfolding Q'
  Q'_else v h = rw (ne_eqb _ _ h)

  -- M' is 0 if m = d, else M(m)
  pub M'_start : (v : ℕ) → last memory f v ≡ last disk f v → M' c f v ≡ 0
  unfolding M'
  M'_start v h = rw (eq-eqb _ _ h)

  pub M'_else : (v : ℕ) → last memory f v ≢ last disk f v → M' c f v ≡ M c f (last memory f v)
  unfolding M'
  M'_else v h = rw (ne_eqb _ _ h)

  -- so M' is a matter of m and d alone
  pub M'_cong : (v w : ℕ) → last memory f v ≡ last memory f w → last disk f v ≡ last disk f w → M' c f v ≡ M' c f w
  unfolding M'
  M'_cong v w a b = rw (a, b)

  -- Q(v) = Q' + S
  pub Q_is : (v : ℕ) → 0 < v → Q c f v ≡ Q' c f v + c.S (last verification f v) v (last memory f v) (last disk f v) (Q' c f v) (M' c f v)
  unfolding Q times
  Q_is zero h = absurd (omega arith)
  Q_is (suc k) h = rw (Q'_steps k, M'_steps k)

  -- M(v) = M' + Q(v) + C_M
  pub M_is : (v : ℕ) → 0 < v → M c f v ≡ M' c f v + Q c f v + c.cm v
  unfolding M Q times
  M_is zero h = absurd (omega arith)
  M_is (suc k) h = rw (Q'_steps k, M'_steps k)

  -- D(v) = D(d) + M(v) + C_D
  pub D_is : (v : ℕ) → 0 < v → D c f v ≡ D c f (last disk f v) + M c f v + c.cd v
  unfolding D M times
  D_is zero h = absurd (omega arith)
  D_is (suc k) h = rw (ne_eqb (suc k) 0 (omega arith), steps_own k _ 0 (λ t. t.d) (last_lt disk f (suc k) (omega arith)) (omega arith))

  -- D(0) = 0
  pub D_zero : D c f 0 ≡ 0
  unfolding D
  D_zero = refl

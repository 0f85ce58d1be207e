-- Chains that cost the same up to n, S at least over the allowed stretches, give every allowed setting of n marks the same time and have the same plan: times
-- are looked at only at marked positions, and there the stretch is allowed. Assumes nothing.
use Prim.Native.Nat.{ℕ, zero, suc, ◌≤◌, ◌<◌}
use mathlib.Core.Path.{◌≡◌, refl, sym, ◌∙◌}
use native.Mathlib.Omega.{arith}
use Rattle.chain.specs.Chain.{Chain}
use Rattle.chain.specs.Time.{Marks, verification, memory, disk, last, times, D}
use Rattle.chain.specs.Plan.{Allowed, IsPlan}
use Rattle.chain.specs.Working.Same.{Same, SameAllowed}
use Rattle.chain.proofs.Equations.{last_lt, past}
use Rattle.chain.proofs.Last.{last_marked, InOrder, last_in_order}

-- the same everywhere is the same over the allowed stretches
pub same_allowed : (n : ℕ) (c c' : Chain) → Same n c c' → SameAllowed n c c'
same_allowed n c c' s =
    record {
      allowed = s.allowed;
      stretch = λ u v m d q t x y a b _. s.stretch u v m d q t x y a b;
      cm = s.cm;
      cd = s.cd;
    }

pub same_sym : (n : ℕ) (c c' : Chain) → SameAllowed n c c' → SameAllowed n c' c
same_sym n c c' s =
    record {
      allowed = λ u v a b. sym (s.allowed u v a b);
      stretch = λ u v m d q t x y a b e. sym (s.stretch u v m d q t x y a b (s.allowed u v a b ∙ e));
      cm = λ v a b. sym (s.cm v a b);
      cd = λ v a b. sym (s.cd v a b);
    }

module _ (n : ℕ) (c c' : Chain) (same : SameAllowed n c c') (f : Marks) (s : Allowed c n f) where
  times_same : (k v : ℕ) → 0 < v → v ≤ n → verification ≤ f v → times k c f v ≡ times k c' f v
  unfolding times
  times_same zero v h l i = refl
  times_same (suc k) v h l i =
      let u : ℕ = last verification f v in
      let m : ℕ = last memory f v in
      let d : ℕ = last disk f v in
      let order : InOrder f v = last_in_order f v h in
      rw (
        past u m (times k c f u) (times k c' f u) (λ t. t.q) order.m_u
            (λ p. times_same k u p (omega (arith, order)) (last_marked verification f v (omega arith))),
        past m d (times k c f m) (times k c' f m) (λ t. t.m) order.d_m
            (λ p. times_same k m p (omega (arith, order)) (omega (arith, last_marked memory f v (omega arith)))),
        past d 0 (times k c f d) (times k c' f d) (λ t. t.d) (omega arith)
            (λ p. times_same k d p (omega (arith, order)) (omega (arith, last_marked disk f v (omega arith)))),
        same.stretch u v m d _ _ order.d_m order.m_u order.u_v l (s.stretches v h l i),
        same.cm v h l,
        same.cd v h l,
      )

  pub D_same : 0 < n → D c f n ≡ D c' f n
  unfolding D
  D_same h = rw (times_same n n h (omega arith) (omega (arith, s.setting.ends)))

  pub allowed_same : Allowed c' n f
  allowed_same =
      record {
        setting = s.setting;
        stretches = λ v h l k. sym (same.allowed (last verification f v) v (last_lt verification f v h) l) ∙ s.stretches v h l k;
      }

pub plan_same : (n : ℕ) (c c' : Chain) → SameAllowed n c c' → 0 < n → (f : Marks) (t : ℕ) → IsPlan c n f t → IsPlan c' n f t
plan_same n c c' same h f t p =
    record {
      allowed = allowed_same n c c' same f p.allowed;
      time = sym (D_same n c c' same f p.allowed h) ∙ p.time;
      least = λ g a. rw (← (D_same n c c' same g (back g a) h)) (p.least g (back g a));
      first = λ g a e. p.first g (back g a) (D_same n c c' same g (back g a) h ∙ e);
    }
  where
    back : (g : Marks) → Allowed c' n g → Allowed c n g
    back g a = allowed_same n c' c (same_sym n c c' same) g a

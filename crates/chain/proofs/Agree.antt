-- Marks that agree at positions 1 to n have the same last positions, times and lists there, so one is the plan where the other is. Assumes nothing.
use Prim.Native.Nat.{ℕ, zero, suc, ◌≤◌, ◌<◌}
use mathlib.Core.Path.{◌≡◌, refl, ◌∙◌, sym}
use native.Mathlib.Decide.{ℕ_discrete}
use native.Mathlib.Omega.{arith}
use Rattle.chain.specs.Chain.{Chain}
use Rattle.chain.specs.Time.{Marks, verification, memory, disk, last, times, D}
use Rattle.chain.proofs.Equations.{last_le, last_first}
use Rattle.chain.specs.Plan.{Allowed, listed, IsPlan}

module _ (f g : Marks) where
  pub last_agree : (k v : ℕ) → ((j : ℕ) → 0 < j → j < v → f j ≡ g j) → last k f v ≡ last k g v
  unfolding last
  last_agree k zero e = refl
  last_agree k (suc v) e = go (ℕ_discrete v 0) (last_agree k v (λ j p h. e j p (omega arith)))
    where
      go : Dec (v ≡ 0) → last k f v ≡ last k g v → last k f (suc v) ≡ last k g (suc v)
      go (yes z) r = rw z (last_first k f ∙ sym (last_first k g))
      go (no z) r = rw (e v (omega arith) (omega arith), r)

  times_agree : (s : ℕ) (c : Chain) (v : ℕ) → ((j : ℕ) → 0 < j → j < v → f j ≡ g j) → times s c f v ≡ times s c g v
  unfolding times
  times_agree zero c v e = refl
  times_agree (suc s) c v e =
      rw (
        last_agree verification v e,
        last_agree memory v e,
        last_agree disk v e,
        times_agree s c (last verification g v) (λ j p h. e j p (omega (arith, last_le verification g v))),
        times_agree s c (last memory g v) (λ j p h. e j p (omega (arith, last_le memory g v))),
        times_agree s c (last disk g v) (λ j p h. e j p (omega (arith, last_le disk g v))),
      )

  pub D_agree : (c : Chain) (v : ℕ) → ((j : ℕ) → 0 < j → j < v → f j ≡ g j) → D c f v ≡ D c g v
  unfolding D
  D_agree c v e = rw (times_agree v c v e)

  listed_agree : (k v : ℕ) → ((j : ℕ) → 0 < j → j ≤ v → f j ≡ g j) → listed k f v ≡ listed k g v
  unfolding listed
  listed_agree k zero e = refl
  listed_agree k (suc v) e = rw (e (suc v) (omega arith) (omega arith), listed_agree k v (λ j p h. e j p (omega arith)))

  pub allowed_agree : (c : Chain) (n : ℕ) → 0 < n → ((j : ℕ) → 0 < j → j ≤ n → f j ≡ g j) → Allowed c n f → Allowed c n g
  allowed_agree c n h e s =
      record {
        setting = record {
          marks = λ v p l. rw (← (e v p l)) (s.setting.marks v p l);
          ends = sym (e n h (omega arith)) ∙ s.setting.ends;
        };
        stretches = λ v p l m. rw (← (last_agree verification v (λ j q k. e j q (omega arith)))) (s.stretches v p l (rw (e v p l) m));
      }

  -- marks that agree with the plan's are the plan
  pub plan_agree : (c : Chain) (n t : ℕ) → 0 < n → ((j : ℕ) → 0 < j → j ≤ n → f j ≡ g j) → IsPlan c n f t → IsPlan c n g t
  plan_agree c n t h e p =
      record {
        allowed = allowed_agree c n h e p.allowed;
        time = sym (D_agree c n (λ j q k. e j q (omega arith))) ∙ p.time;
        least = p.least;
        first = λ x s d. rw (← (listed_agree disk n e), ← (listed_agree memory n e), ← (listed_agree verification n e)) (p.first x s d);
      }

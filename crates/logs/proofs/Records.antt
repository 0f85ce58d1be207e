-- Records of a log. A record is a part of 5 bytes, or what is left of the log; a record more is one step more while nothing is refused, and after a refusal the answer stays.
-- Assumes nothing.
use Prim.Native.Nat.{ℕ, zero, suc, ◌+◌, ◌-◌, ◌*◌, ◌≤◌, ◌<◌}
use mathlib.Core.Path.{◌≡◌, refl, sym, ◌∙◌}
use mathlib.Core.Bool.{Bool, true, false, cond}
use mathlib.Core.List.{List}
use mathlib.Core.Logic.{◌⊎◌, inl, inr}
use native.Mathlib.Nat.{eq-or-lt_of_le, le_of_suc-le-suc}
use native.Mathlib.Decide.{ℕ_discrete}
use native.Mathlib.Omega.{arith}
use borrow.Author.Tests.{eq-eqb, ne_eqb}
use lib.Dec.{eqb}
use lib.ListN.{length, take, drop, length-drop}
use lib.Seq.{take_all}
use Rattle.refusals.specs.Numbers
use Rattle.following.specs.Run.{step_of, accepted, refused}
use Rattle.state.specs.declared.Run.{Run}
use Rattle.following.specs.declared.Stepped.{Stepped}
use Rattle.logs.specs.Log.{record_length, record_at, bad_record, event_of, recorded, applied, or_before}

module _ (log : List ℕ) (i : ℕ) where
  pub record_rest : length log - record_length * i < record_length → take (length log - record_length * i) (drop (record_length * i) log) ≡ record_at log i
  unfolding record_at
  record_rest h =
      let left = length-drop (record_length * i) log in
      take_all (length log - record_length * i) (drop (record_length * i) log) (omega (arith, left))
      ∙ sym (take_all record_length (drop (record_length * i) log) (omega (arith, left)))

  pub record_whole : take (record_length * i + record_length - record_length * i) (drop (record_length * i) log) ≡ record_at log i
  unfolding record_at
  record_whole = let e : record_length * i + record_length - record_length * i ≡ record_length = omega arith in rw e

-- after a refusal nothing is read
pub recorded_refused : (s : Stepped) (r : List ℕ) → (s.number ≡ 0 → ⊥) → recorded s r ≡ s
unfolding recorded
recorded_refused s r h = rw (ne_eqb _ _ h)

-- one record more: bad, or an event
pub recorded_bad : (run : Run) (r : List ℕ) → bad_record r ≡ true → recorded (accepted run) r ≡ refused Numbers.bad_record run
unfolding recorded
recorded_bad run r e = rw e

pub recorded_event : (s : Stepped) (r : List ℕ) → bad_record r ≡ false → recorded s r ≡ cond (eqb s.number 0) (step_of s.run (event_of r)) s
unfolding recorded
recorded_event s r e = rw e

-- an accepted record: nothing was refused before it, and it is an event
pub recorded_accepted : (s : Stepped) (r : List ℕ) → (recorded s r).number ≡ 0 → (s.number ≡ 0) × (bad_record r ≡ false)
unfolding recorded
recorded_accepted s r e = go (ℕ_discrete s.number 0) (bad_record r) refl
  where
    go : Dec (s.number ≡ 0) → (b : Bool) → bad_record r ≡ b → (s.number ≡ 0) × (bad_record r ≡ false)
    go (yes z) true q = absurd (omega (arith, rw (eq-eqb _ _ z, q) at e))
    go (yes z) false q = (z, q)
    go (no z) b q = absurd (z (rw (ne_eqb _ _ z) at e))

pub accepted_is : (a : Stepped) → a.number ≡ 0 → a ≡ accepted a.run
accepted_is a e = rw (← e)

module _ (run : Run) (log : List ℕ) where
  -- no record, and one record more
  pub applied_zero : applied run log zero ≡ accepted run
  unfolding applied
  applied_zero = refl

  pub applied_suc : (k : ℕ) → applied run log (suc k) ≡ recorded (applied run log k) (record_at log k)
  unfolding applied
  applied_suc k = refl

  pub applied_stays : (k n : ℕ) → k ≤ n → ((applied run log k).number ≡ 0 → ⊥) → applied run log n ≡ applied run log k
  unfolding applied
  applied_stays k zero h r = let e : k ≡ 0 = omega arith in rw e
  applied_stays k (suc n) h r = go (eq-or-lt_of_le h) (applied_stays k n)
    where
      go : (k ≡ suc n) ⊎ (k < suc n) → (k ≤ n → ((applied run log k).number ≡ 0 → ⊥) → applied run log n ≡ applied run log k)
          → applied run log (suc n) ≡ applied run log k
      go (inl e) ih = rw e
      go (inr l) ih = rw (ih (le_of_suc-le-suc l) r) (recorded_refused (applied run log k) (record_at log n) r)

  -- where the first record is refused, its answer is that of the log
  pub applied_first : (a : Stepped) → recorded (accepted run) (record_at log 0) ≡ a → (a.number ≡ 0 → ⊥) → (n : ℕ) → 0 < n
      → or_before run (applied run log n) ≡ refused a.number run
  unfolding or_before
  applied_first a is r n h =
      let first : applied run log 1 ≡ a = applied_suc 0 ∙ rw applied_zero is in
      let e : applied run log n ≡ a = applied_stays 1 n h (rw first r) ∙ first in
      rw (e, ne_eqb _ _ r)

-- The walk back, place by place: each place has the one before it, and the marks set on the way are the plan's. Assumes nothing.
use Prim.Native.Nat.{ℕ, zero, suc, pred, ◌-◌, ◌≤◌, ◌<◌}
use mathlib.Core.Path.{◌≡◌, refl, sym, ◌∙◌}
use mathlib.Core.Logic.{◌≢◌}
use mathlib.Core.Bool.{cond}
use mathlib.Core.List.{List}
use native.Mathlib.Decide.{dec_lt, ℕ_discrete}
use native.Mathlib.Nat.{suc-pred-eq_of_pos}
use native.Mathlib.Omega.{arith}
use borrow.Author.Tests.{eq-eqb, ne_eqb}
use lib.Dec.{eqb}
use lib.ListN.{length, get_or, set, replicate, length-set, length-replicate}
use lib.Seq.{get_or-set_same, get_or-set_other}
use Rattle.chain.specs.Chain.{Chain}
use Rattle.chain.specs.Time.{verification, memory}
use Rattle.chain.specs.Working.Search.{back_m, back_q, plan_marks}
use Rattle.chain.specs.Working.Walk.{Place, OnWay, marks_to, disk_place, Before, PlannedMarks, Placed}
use Rattle.chain.proofs.Walk.{
  back_q_lt,
  back_q_ge,
  state_mark,
  state_memory,
  state_disk,
  plan_to_here,
  plan_to_mark,
  plan_to_memory,
  plan_to_disk,
  plan_to_start,
  plan_to_past,
}

-- the place before w, by where the last position before v is
module _ (c : Chain) (N : ℕ) (w : Place) (on : OnWay c N w) where
  pub before_mark : (u : ℕ) → u ≡ back_q c N w.d w.m w.v → u ≢ w.m → Before c N w (record { k = verification; d = w.d; m = w.m; v = u })
  before_mark u e n =
      let a : back_q c N w.d w.m w.v ≢ w.m = λ z. n (e ∙ z) in
      let low : w.m ≤ u = rw e (back_q_ge c N w.d w.m w.v on.m_v on.verified) in
      record {
        falls = rw e (back_q_lt c N w.d w.m w.v on.m_v on.verified);
        on_way = λ h. rw e (state_mark c N w.k w.d w.m w.v on a);
        marks = λ s j i. plan_to_mark c N s w.k w.d w.m w.v j i a ∙ rw (ne_eqb u 0 (λ z. omega arith), ← e);
      }

  module _ (here : back_q c N w.d w.m w.v ≡ w.m) where
    pub before_memory : w.m ≢ w.d → Before c N w (record { k = memory; d = w.d; m = back_m c N w.d w.m; v = w.m })
    before_memory n =
        record {
          falls = on.m_v;
          on_way = λ _. state_memory c N w.k w.d w.m w.v on n;
          marks =
              λ s j i.
              plan_to_memory c N s w.k w.d w.m w.v j i here n ∙ rw (ne_eqb w.m 0 (λ x. omega (arith, on.d_m)));
        }

    pub before_disk : w.m ≡ w.d → w.d ≢ 0 → Before c N w (disk_place c N w.d)
    before_disk p n =
        record {
          falls = omega (arith, on.m_v);
          on_way = λ h. state_disk c N w.d h on.on_disk;
          marks = λ s j i. plan_to_disk c N s w.k w.d w.m w.v j i here p n ∙ rw (ne_eqb w.d 0 n);
        }

    pub before_start : w.m ≡ w.d → w.d ≡ 0 → (r : Place) → r.v ≡ 0 → Before c N w r
    before_start p n r e =
        record {
          falls = omega (arith, on.m_v);
          on_way = λ h. absurd (omega arith);
          marks = λ s j i. plan_to_start c N s w.k w.d w.m w.v j i here p n ∙ rw e;
        }

get_d_zeros : (k j : ℕ) → ◌≡◌ {A = ℕ} (get_or (replicate k 0) j 0) 0
get_d_zeros zero j = refl
get_d_zeros (suc k) zero = refl
get_d_zeros (suc k) (suc j) = get_d_zeros k j

-- at first nothing is set, and the walk stands at n
pub placed_first : (c : Chain) (N n room : ℕ) → n ≤ room → Placed c N n (disk_place c N n) (replicate room 0)
unfolding plan_marks
placed_first c N n room h =
    record {
      long = rw (length-replicate {A = ℕ} room 0) h;
      within = omega arith;
      set_after = λ j p k. absurd (omega arith);
      clear = λ j p k. get_d_zeros room (j - 1);
      steps = n;
      enough = omega arith;
      same = λ p j q k. refl;
    }

-- the mark of w is set, and the walk goes on to the place before
module _ (c : Chain) (N n : ℕ) (w r : Place) (l : List ℕ) (placed : Placed c N n w l) (h : 0 < w.v) (before : Before c N w r) where
  abbrev fewer : ℕ
  fewer = pred placed.steps

  step_more : suc fewer ≡ placed.steps
  step_more = suc-pred-eq_of_pos (omega (arith, placed.enough))

  -- the plan below w is that of the place before
  below_w : (j : ℕ) → 0 < j → j < w.v → plan_marks c N n j ≡ cond (eqb r.v 0) 0 (marks_to c N fewer r j)
  below_w j p k = placed.same h j p (omega arith) ∙ rw (← step_more) (before.marks fewer j (λ z. omega arith))

  here : plan_marks c N n w.v ≡ w.k
  here = placed.same h w.v h (omega arith) ∙ plan_to_here c N placed.steps w.k w.d w.m w.v (omega (arith, placed.enough))

  between : (j : ℕ) → r.v < j → j < w.v → plan_marks c N n j ≡ 0
  between j p k = below_w j (omega arith) k ∙ go (ℕ_discrete r.v 0)
    where
      go : Dec (r.v ≡ 0) → cond (eqb r.v 0) 0 (marks_to c N fewer r j) ≡ 0
      go (yes e) = rw (eq-eqb r.v 0 e)
      go (no e) =
          let s = before.on_way (omega arith) in
          rw (ne_eqb r.v 0 e) (plan_to_past c N fewer r.k r.d r.m r.v j (omega (arith, s.d_m, s.m_v)) (omega (arith, s.m_v)) p)

  pub placed_next : Placed c N n r (set l (w.v - 1) w.k)
  placed_next =
      record {
        long = rw (length-set l (w.v - 1) w.k) placed.long;
        within = omega (arith, before.falls, placed.within);
        set_after = λ j p k. after j p k (ℕ_discrete j w.v) (dec_lt w.v j);
        clear = λ j p k. get_or-set_other l (w.v - 1) (j - 1) w.k 0 (λ e. omega (arith, before.falls)) ∙ placed.clear j p (omega (arith, before.falls));
        steps = fewer;
        enough = omega (arith, step_more, placed.enough, before.falls);
        same = λ p j q k. below_w j q (omega (arith, before.falls)) ∙ rw (ne_eqb r.v 0 (λ e. omega arith));
      }
    where
      room : w.v - 1 < length l
      room = omega (arith, placed.long, placed.within)

      after : (j : ℕ) → r.v < j → j ≤ n → Dec (j ≡ w.v) → Dec (w.v < j) → get_or (set l (w.v - 1) w.k) (j - 1) 0 ≡ plan_marks c N n j
      after j p k (yes e) d = rw e (get_or-set_same l (w.v - 1) w.k 0 room ∙ sym here)
      after j p k (no e) (yes d) = get_or-set_other l (w.v - 1) (j - 1) w.k 0 (λ z. omega arith) ∙ placed.set_after j d k
      after j p k (no e) (no d) = get_or-set_other l (w.v - 1) (j - 1) w.k 0 (λ z. omega arith) ∙ placed.clear j (omega arith) (omega arith) ∙ sym (between j p (omega arith))

-- at the start all marks are set
pub placed_last : (c : Chain) (N n : ℕ) (w : Place) (l : List ℕ) → Placed c N n w l → w.v ≤ 0 → PlannedMarks c N n l
placed_last c N n w l placed h = record { long = placed.long; marks = λ j p k. placed.set_after j (omega arith) k }

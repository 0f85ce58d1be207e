-- Where the least time is below N, the search's marks are an allowed setting of exactly that time. By induction over the states of the walk back:
-- the marks up to v are k at v, 0 down to the state before, and that state's marks, so the last positions, the times and the stretches at v follow from those
-- before.
-- Assumes nothing.
use Prim.Native.Nat.{ℕ, zero, suc, ◌≤◌, ◌<◌}
use mathlib.Core.Path.{◌≡◌, refl, ◌∙◌, sym}
use mathlib.Core.Logic.{◌≢◌}
use mathlib.Core.Bool.{true}
use native.Mathlib.Decide.{dec_le, ℕ_discrete}
use native.Mathlib.Omega.{arith}
use Rattle.chain.specs.Chain.{Chain}
use Rattle.chain.specs.Time.{Marks, verification, memory, disk, last, Q, M, D, Q', M'}
use Rattle.chain.proofs.Equations.{last_here, last_past, last_lt, Q'_start, Q'_else, M'_start, M'_else, M'_cong, Q_is, M_is, D_is, D_zero}
use Rattle.chain.specs.Plan.{Allowed}
use Rattle.chain.specs.Working.Search.{least_m, least_d, back_d, back_m, back_q, plan_to, plan_marks, best_q, State}
use Rattle.chain.proofs.Last.{last_over}
use Rattle.chain.proofs.Search.{least_q_start, least_m_start, least_d_start}
use Rattle.chain.proofs.Walk.{
  back_d_lt,
  back_d_arrives,
  back_m_arrives,
  back_q_lt,
  back_q_allowed,
  back_q_arrives,
  state_mark,
  state_memory,
  state_disk,
  plan_to_here,
  plan_to_mark,
  plan_to_memory,
  plan_to_disk,
  plan_to_start,
  plan_to_past,
}

-- what the marks f have at w: a mark of 0 to 3, an allowed stretch, and last positions that are the back positions
pub record Follows (c : Chain) (N : ℕ) (f : Marks) (w : ℕ) : Type 0 where
  pub mark : f w ≤ disk
  pub stretch : verification ≤ f w → c.allowed (last verification f w) w ≡ true
  pub from_u : verification ≤ f w → last verification f w ≡ back_q c N (last disk f w) (last memory f w) w
  pub from_m : memory ≤ f w → last memory f w ≡ back_m c N (last disk f w) w
  pub from_d : disk ≤ f w → last disk f w ≡ back_d c N w

-- the marks f are those of the state (d, m, v) of the walk: its last positions, its times, and the same at all positions before
pub record PlannedTo (c : Chain) (N : ℕ) (f : Marks) (d m v : ℕ) : Type 0 where
  pub u_is : last verification f v ≡ back_q c N d m v
  pub m_is : last memory f v ≡ m
  pub d_is : last disk f v ≡ d
  pub time_D : D c f d ≡ least_d c N d
  pub time_M : M' c f v ≡ least_m c N d m
  pub time_Q : Q c f v ≡ best_q c N d m v
  pub each : (w : ℕ) → 0 < w → w ≤ v → Follows c N f w

module _ (c : Chain) (N : ℕ) (f : Marks) where
  -- an unmarked position asks nothing
  unmarked : (w : ℕ) → f w ≡ 0 → Follows c N f w
  unmarked w e = record {
    mark = omega arith;
    stretch = λ h. absurd (omega arith);
    from_u = λ h. absurd (omega arith);
    from_m = λ h. absurd (omega arith);
    from_d = λ h. absurd (omega arith);
  }

  -- the times M and D of a state whose copies are the back positions
  module _ (d v : ℕ) (h : d < v) (l : least_m c N d v < N) (r : PlannedTo c N f d (back_m c N d v) v) where
    time_M_here : M c f v ≡ least_m c N d v
    time_M_here = omega (arith, M_is c f v (omega arith), r.time_M, r.time_Q, back_m_arrives c N d v h l)

  time_D_here : (v : ℕ) → 0 < v → least_d c N v < N → PlannedTo c N f (back_d c N v) (back_m c N (back_d c N v) v) v → D c f v ≡ least_d c N v
  time_D_here v h l r =
      D_is c f v h
      ∙ rw (r.d_is, r.time_D, time_M_here (back_d c N v) v (back_d_lt c N v h l) (omega (arith, back_d_arrives c N v h l)) r)
      (back_d_arrives c N v h l)

-- f has the mark k' at p before v, with nothing marked between, and is that state's marks up to p
record Previous (c : Chain) (N : ℕ) (f : Marks) (v k' d' m' p : ℕ) : Type 0 where
  falls : p < v
  mark : f p ≡ k'
  none : (w : ℕ) → p < w → w < v → f w ≡ 0
  planned : PlannedTo c N f d' m' p

module _ (c : Chain) (N : ℕ) (f : Marks) (v k' d' m' p : ℕ) (b : Previous c N f v k' d' m' p) where
  last_at : (i : ℕ) → 0 < i → i ≤ k' → last i f v ≡ p
  last_at i h l = last_over i f p v b.falls (λ w x y. omega (arith, b.none w x y)) ∙ last_here i f p (omega (arith, b.mark))

  last_as : (i : ℕ) → k' < i → last i f v ≡ last i f p
  last_as i l = last_over i f p v b.falls (λ w x y. omega (arith, b.none w x y)) ∙ last_past i f p (omega (arith, b.mark))

module _ (c : Chain) (N : ℕ) (f : Marks) (k d m v : ℕ) (s : State c N k d m v) (here : f v ≡ k) where
  -- the last positions and the times before v make up those at v
  planned_here : (p : ℕ) → ((w : ℕ) → p < w → w < v → f w ≡ 0) → ((w : ℕ) → 0 < w → w ≤ p → Follows c N f w)
      → last verification f v ≡ back_q c N d m v → last memory f v ≡ m → last disk f v ≡ d
      → D c f d ≡ least_d c N d → M' c f v ≡ least_m c N d m → Q' c f v ≡ best_q c N d m (back_q c N d m v) → PlannedTo c N f d m v
  planned_here p none before ui mi di td tm tq = record {
    u_is = ui;
    m_is = mi;
    d_is = di;
    time_D = td;
    time_M = tm;
    time_Q = Q_is c f v (omega arith) ∙ rw (ui, mi, di, tq, tm) (back_q_arrives c N d m v s.m_v s.verified);
    each = λ w a b. go w a b (ℕ_discrete w v) (dec_le w p);
  }
    where
      at_v : Follows c N f v
      at_v = record {
        mark = omega arith;
        stretch = λ _. rw ui (back_q_allowed c N d m v s.m_v s.verified);
        from_u = λ _. rw (mi, di) ui;
        from_m = λ h. rw di (mi ∙ s.is_m (omega arith));
        from_d = λ h. di ∙ s.is_d (omega arith);
      }

      go : (w : ℕ) → 0 < w → w ≤ v → Dec (w ≡ v) → Dec (w ≤ p) → Follows c N f w
      go w a b (yes e) _ = rw e at_v
      go w a b (no e) (yes i) = before w a i
      go w a b (no e) (no i) = unmarked c N f w (none w (omega arith) (omega arith))

  after_mark : back_q c N d m v ≢ m → Previous c N f v verification d m (back_q c N d m v) → PlannedTo c N f d m v
  after_mark a b =
      planned_here u b.none r.each ui mi di r.time_D
      (M'_cong c f v u (mi ∙ sym r.m_is) (di ∙ sym r.d_is) ∙ r.time_M)
      (Q'_else c f v (rw (ui, mi) a) ∙ rw ui r.time_Q)
    where
      u : ℕ
      u = back_q c N d m v

      r : PlannedTo c N f d m u
      r = b.planned

      ui : last verification f v ≡ u
      ui = last_at c N f v verification d m u b verification (omega arith) (omega arith)

      mi : last memory f v ≡ m
      mi = last_as c N f v verification d m u b memory (omega arith) ∙ r.m_is

      di : last disk f v ≡ d
      di = last_as c N f v verification d m u b disk (omega arith) ∙ r.d_is

  after_memory : back_q c N d m v ≡ m → m ≢ d → Previous c N f v memory d (back_m c N d m) m → PlannedTo c N f d m v
  after_memory a e b =
      planned_here m b.none r.each (ui ∙ sym a) mi di r.time_D
      (M'_else c f v (rw (mi, di) e) ∙ rw mi (time_M_here c N f d m (omega arith) s.in_memory r))
      (Q'_start c f v (ui ∙ sym mi) ∙ rw (a, least_q_start))
    where
      r : PlannedTo c N f d (back_m c N d m) m
      r = b.planned

      ui : last verification f v ≡ m
      ui = last_at c N f v memory d _ m b verification (omega arith) (omega arith)

      mi : last memory f v ≡ m
      mi = last_at c N f v memory d _ m b memory (omega arith) (omega arith)

      di : last disk f v ≡ d
      di = last_as c N f v memory d _ m b disk (omega arith) ∙ r.d_is

  after_disk : back_q c N d m v ≡ m → m ≡ d → d ≢ 0 → Previous c N f v disk (back_d c N d) (back_m c N (back_d c N d) d) d → PlannedTo c N f d m v
  after_disk a e z b =
      planned_here d b.none r.each (at verification (omega arith) (omega arith) ∙ sym (a ∙ e)) (at memory (omega arith) (omega arith) ∙ sym e)
      (at disk (omega arith) (omega arith))
      (time_D_here c N f d (omega arith) s.on_disk r)
      (M'_start c f v (at memory (omega arith) (omega arith) ∙ sym (at disk (omega arith) (omega arith))) ∙ rw (e, least_m_start))
      (Q'_start c f v (at verification (omega arith) (omega arith) ∙ sym (at memory (omega arith) (omega arith))) ∙ rw (a, least_q_start))
    where
      r : PlannedTo c N f (back_d c N d) (back_m c N (back_d c N d) d) d
      r = b.planned

      at : (i : ℕ) → 0 < i → i ≤ disk → last i f v ≡ d
      at = last_at c N f v disk _ _ d b

  at_start_lem : back_q c N d m v ≡ m → m ≡ d → d ≡ 0 → ((w : ℕ) → 0 < w → w < v → f w ≡ 0) → PlannedTo c N f d m v
  at_start_lem a e z none =
      planned_here 0 none (λ w x y. absurd (omega arith)) (omega (arith, at verification (omega arith))) (omega (arith, at memory (omega arith)))
      (omega (arith, at disk (omega arith)))
      (rw (z, D_zero, least_d_start))
      (M'_start c f v (omega (arith, at memory (omega arith), at disk (omega arith))) ∙ rw (e, least_m_start))
      (Q'_start c f v (omega (arith, at verification (omega arith), at memory (omega arith))) ∙ rw (a, least_q_start))
    where
      at : (i : ℕ) → 0 < i → last i f v ≡ 0
      at i h =
          let o : last i f v ≡ last i f 1 = last_over i f 0 v (omega arith) (λ w x y. omega (arith, none w x y)) in
          omega (arith, last_lt i f 1 (omega arith))

module _ (c : Chain) (N : ℕ) (f : Marks) where
  -- f has the marks of the state (k, d, m, v) at all positions up to v
  abbrev Agrees : (s k d m v : ℕ) → Type 0
  Agrees s k d m v = (j : ℕ) → j ≤ v → f j ≡ plan_to c N s k d m v j

  previous : (s k d m v p : ℕ) → p < v → p ≤ s → State c N k d m p → ((j : ℕ) → j < v → f j ≡ plan_to c N s k d m p j)
      → (Agrees s k d m p → PlannedTo c N f d m p) → Previous c N f v k d m p
  previous s k d m v p h l t agree ih = record {
    falls = h;
    mark = agree p h ∙ plan_to_here c N s k d m p (omega arith);
    none = λ w a b. agree w b ∙ plan_to_past c N s k d m p w (omega arith) (omega arith) a;
    planned = ih (λ j a. agree j (omega arith));
  }

  -- marks that agree with those of a state are that state's marks
  pub planned : (s k d m v : ℕ) → v ≤ s → State c N k d m v → Agrees s k d m v → PlannedTo c N f d m v
  planned zero k d m v h t agree = absurd (omega arith)
  planned (suc s) k d m v h t agree =
      go (ℕ_discrete (back_q c N d m v) m) (ℕ_discrete m d) (ℕ_discrete d 0) (planned s)
    where
      here : f v ≡ k
      here = agree v (omega arith) ∙ plan_to_here c N (suc s) k d m v (omega arith)

      go : Dec (back_q c N d m v ≡ m) → Dec (m ≡ d) → Dec (d ≡ 0)
          → ((k d m v : ℕ) → v ≤ s → State c N k d m v → Agrees s k d m v → PlannedTo c N f d m v) → PlannedTo c N f d m v
      go (no a) _ _ ih =
          let u : ℕ = back_q c N d m v in
          let uv : u < v = back_q_lt c N d m v t.m_v t.verified in
          let tu : State c N verification d m u = state_mark c N k d m v t a in
          after_mark c N f k d m v t here a
          (previous s verification d m v u uv (omega arith) tu (λ j i. agree j (omega arith) ∙ plan_to_mark c N s k d m v j (omega arith) a)
          (ih verification d m u (omega arith) tu))
      go (yes a) (no e) _ ih =
          let tm : State c N memory d (back_m c N d m) m = state_memory c N k d m v t e in
          after_memory c N f k d m v t here a e
          (previous s memory d (back_m c N d m) v m t.m_v (omega arith) tm
          (λ j i. agree j (omega arith) ∙ plan_to_memory c N s k d m v j (omega arith) a e) (ih memory d _ m (omega arith) tm))
      go (yes a) (yes e) (no z) ih =
          let td : State c N disk (back_d c N d) (back_m c N (back_d c N d) d) d = state_disk c N d (omega arith) t.on_disk in
          after_disk c N f k d m v t here a e z
          (previous s disk (back_d c N d) _ v d (omega arith) (omega arith) td
          (λ j i. agree j (omega arith) ∙ plan_to_disk c N s k d m v j (omega arith) a e z) (ih disk (back_d c N d) _ d (omega arith) td))
      go (yes a) (yes e) (yes z) ih =
          at_start_lem c N f k d m v t here a e z (λ w x y. agree w (omega arith) ∙ plan_to_start c N s k d m v w (omega arith) a e z)

module _ (c : Chain) (N n : ℕ) (h : 0 < n) (l : least_d c N n < N) where
  plan_planned : PlannedTo c N (plan_marks c N n) (back_d c N n) (back_m c N (back_d c N n) n) n
  unfolding plan_marks
  plan_planned =
      planned c N (plan_marks c N n) n disk (back_d c N n) (back_m c N (back_d c N n) n) n (omega arith) (state_disk c N n h l) (λ j _. refl)

  -- the marks of the plan follow the back positions
  pub plan_follows : (w : ℕ) → 0 < w → w ≤ n → Follows c N (plan_marks c N n) w
  plan_follows = plan_planned.each

  pub plan_allowed : Allowed c n (plan_marks c N n)
  unfolding plan_marks
  plan_allowed = record {
    setting = record {
      marks = λ v a b. (plan_follows v a b).mark;
      ends = plan_to_here c N n disk (back_d c N n) (back_m c N (back_d c N n) n) n h;
    };
    stretches = λ v a b. (plan_follows v a b).stretch;
  }

  pub plan_time : D c (plan_marks c N n) n ≡ least_d c N n
  plan_time = time_D_here c N (plan_marks c N n) n h l plan_planned

-- The walk back from n: at each level the back position lies before v and not before the level's start, is reached in less than N, and gives the least time at
-- v.
-- So a state of the walk with least times below N leads to such states only, with positions that fall; and `plan_to` writes the marks of these states, and 0
-- past them.
-- Assumes nothing.
use Prim.Native.Nat.{ℕ, zero, suc, ◌+◌, ◌≤◌, ◌<◌}
use mathlib.Core.Path.{◌≡◌, refl, ◌∙◌}
use mathlib.Core.Logic.{◌≢◌}
use mathlib.Core.Bool.{Bool, true, false}
use native.Mathlib.Decide.{ℕ_discrete}
use native.Mathlib.Omega.{arith}
use borrow.Author.Tests.{eq-eqb, ne_eqb}
use Rattle.chain.specs.Chain.{Chain}
use Rattle.chain.specs.Time.{verification, memory, disk}
use Rattle.chain.specs.Working.Search.{to_verification, least_q, to_memory, least_m, to_disk, least_d, back_d, back_m, back_q, plan_to, best_q, State}
use Rattle.chain.proofs.Search.{IsBack, back_is, back_le}

module _ (c : Chain) (N v : ℕ) (h : 0 < v) (l : least_d c N v < N) where
  disk_back : IsBack N 0 (to_disk c N) v (back_d c N v)
  unfolding least_d back_d
  disk_back = back_is N 0 (to_disk c N) v (omega arith) l

  pub back_d_lt : back_d c N v < v
  back_d_lt = disk_back.falls

  pub back_d_reached : least_d c N (back_d c N v) < N
  unfolding least_d
  back_d_reached = disk_back.reached

  pub back_d_arrives : least_d c N (back_d c N v) + least_m c N (back_d c N v) v + c.cd v ≡ least_d c N v
  unfolding least_d to_disk
  back_d_arrives = disk_back.arrives

module _ (c : Chain) (N d v : ℕ) (h : d < v) (l : least_m c N d v < N) where
  memory_back : IsBack N d (to_memory c N d) v (back_m c N d v)
  unfolding least_m back_m
  memory_back = back_is N d (to_memory c N d) v (omega arith) l

  pub back_m_lt : back_m c N d v < v
  back_m_lt = memory_back.falls

  pub back_m_ge : d ≤ back_m c N d v
  back_m_ge = memory_back.starts

  pub back_m_reached : least_m c N d (back_m c N d v) < N
  unfolding least_m
  back_m_reached = memory_back.reached

  pub back_m_arrives : least_m c N d (back_m c N d v) + best_q c N d (back_m c N d v) v + c.cm v ≡ least_m c N d v
  unfolding least_m to_memory
  back_m_arrives = memory_back.arrives

module _ (c : Chain) (N d m v : ℕ) (h : m < v) (l : best_q c N d m v < N) where
  verification_back : IsBack N m (to_verification c N d m (least_m c N d m)) v (back_q c N d m v)
  unfolding least_q back_q
  verification_back = back_is N m (to_verification c N d m (least_m c N d m)) v (omega arith) l

  pub back_q_lt : back_q c N d m v < v
  back_q_lt = verification_back.falls

  pub back_q_ge : m ≤ back_q c N d m v
  back_q_ge = verification_back.starts

  pub back_q_reached : best_q c N d m (back_q c N d m v) < N
  unfolding least_q
  back_q_reached = verification_back.reached

  pub back_q_allowed : c.allowed (back_q c N d m v) v ≡ true
  unfolding least_q to_verification
  back_q_allowed = go (c.allowed (back_q c N d m v) v) refl
    where
      go : (a : Bool) → c.allowed (back_q c N d m v) v ≡ a → a ≡ true
      go true e = refl
      go false e = absurd (omega (arith, rw e at verification_back.arrives))

  pub back_q_arrives : best_q c N d m (back_q c N d m v) + c.S (back_q c N d m v) v m d (best_q c N d m (back_q c N d m v)) (least_m c N d m) ≡ best_q c N d m v
  unfolding least_q to_verification
  back_q_arrives = rw back_q_allowed at verification_back.arrives

module _ (c : Chain) (N : ℕ) where
  -- from each state the walk goes on to the mark before v, or to the memory copy m, or to the disk copy d; it starts at a disk copy
  pub state_mark : (k d m v : ℕ) → State c N k d m v → back_q c N d m v ≢ m → State c N verification d m (back_q c N d m v)
  state_mark k d m v s e = record {
    low = omega arith;
    high = omega arith;
    d_m = s.d_m;
    m_v = omega (arith, back_q_ge c N d m v s.m_v s.verified);
    on_disk = s.on_disk;
    in_memory = s.in_memory;
    verified = back_q_reached c N d m v s.m_v s.verified;
    is_m = λ h. absurd (omega arith);
    is_d = λ h. absurd (omega arith);
  }

  pub state_copy : (k d v : ℕ) → verification ≤ k → k ≤ disk → d < v → least_d c N d < N → least_m c N d v < N → (disk ≤ k → d ≡ back_d c N v)
      → State c N k d (back_m c N d v) v
  state_copy k d v low high h ld lm is_d = record {
    low = low;
    high = high;
    d_m = back_m_ge c N d v h lm;
    m_v = back_m_lt c N d v h lm;
    on_disk = ld;
    in_memory = back_m_reached c N d v h lm;
    verified = omega (arith, back_m_arrives c N d v h lm);
    is_m = λ _. refl;
    is_d = is_d;
  }

  pub state_memory : (k d m v : ℕ) → State c N k d m v → m ≢ d → State c N memory d (back_m c N d m) m
  state_memory k d m v s e =
      state_copy memory d m (omega arith) (omega arith) (omega arith) s.on_disk s.in_memory (λ h. absurd (omega arith))

  pub state_disk : (v : ℕ) → 0 < v → least_d c N v < N → State c N disk (back_d c N v) (back_m c N (back_d c N v) v) v
  state_disk v h l =
      state_copy disk (back_d c N v) v (omega arith) (omega arith) (back_d_lt c N v h l) (back_d_reached c N v h l)
      (omega (arith, back_d_arrives c N v h l)) (λ _. refl)

-- the marks of a state: k at v, and below v those of the state before
pub plan_to_here : (c : Chain) (N s k d m v : ℕ) → 0 < s → plan_to c N s k d m v v ≡ k
unfolding plan_to
plan_to_here c N zero k d m v h = absurd (omega arith)
plan_to_here c N (suc s) k d m v h = rw (eq-eqb v v refl)

module _ (c : Chain) (N s k d m v j : ℕ) (e : j ≢ v) where
  pub plan_to_mark : back_q c N d m v ≢ m → plan_to c N (suc s) k d m v j ≡ plan_to c N s verification d m (back_q c N d m v) j
  unfolding plan_to
  plan_to_mark a = rw (ne_eqb j v e, ne_eqb (back_q c N d m v) m a)

  pub plan_to_memory : back_q c N d m v ≡ m → m ≢ d → plan_to c N (suc s) k d m v j ≡ plan_to c N s memory d (back_m c N d m) m j
  unfolding plan_to
  plan_to_memory a b = rw (ne_eqb j v e, eq-eqb (back_q c N d m v) m a, ne_eqb m d b)

  pub plan_to_disk : back_q c N d m v ≡ m → m ≡ d → d ≢ 0
      → plan_to c N (suc s) k d m v j ≡ plan_to c N s disk (back_d c N d) (back_m c N (back_d c N d) d) d j
  unfolding plan_to
  plan_to_disk a b f = rw (ne_eqb j v e, eq-eqb (back_q c N d m v) m a, eq-eqb m d b, ne_eqb d 0 f)

  pub plan_to_start : back_q c N d m v ≡ m → m ≡ d → d ≡ 0 → plan_to c N (suc s) k d m v j ≡ 0
  unfolding plan_to
  plan_to_start a b f = rw (ne_eqb j v e, eq-eqb (back_q c N d m v) m a, eq-eqb m d b, eq-eqb d 0 f)

module _ (c : Chain) (N : ℕ) where
  backs_le : (d m v : ℕ) → (back_d c N d ≤ d) × (back_m c N d m ≤ m) × (back_q c N d m v ≤ v)
  unfolding back_d back_m back_q
  backs_le d m v = (back_le N 0 _ d, back_le N d _ m, back_le N m _ v)

  -- past the positions of a state every mark is 0
  pub plan_to_past : (s k d m v j : ℕ) → d < j → m < j → v < j → plan_to c N s k d m v j ≡ 0
  unfolding plan_to
  plan_to_past zero k d m v j a b e = refl
  plan_to_past (suc s) k d m v j a b e =
      go (ℕ_discrete (back_q c N d m v) m) (ℕ_discrete m d) (ℕ_discrete d 0) (λ k d m v. plan_to_past s k d m v j)
    where
      go : Dec (back_q c N d m v ≡ m) → Dec (m ≡ d) → Dec (d ≡ 0)
          → ((k d m v : ℕ) → d < j → m < j → v < j → plan_to c N s k d m v j ≡ 0) → plan_to c N (suc s) k d m v j ≡ 0
      go (no x) _ _ past = plan_to_mark c N s k d m v j (omega arith) x ∙ past _ _ _ _ a b (omega (arith, backs_le d m v))
      go (yes x) (no y) _ past =
          plan_to_memory c N s k d m v j (omega arith) x y ∙ past _ _ _ _ a (omega (arith, backs_le d m v)) b
      go (yes x) (yes y) (no z) past =
          plan_to_disk c N s k d m v j (omega arith) x y z
          ∙ past _ _ _ _ (omega (arith, backs_le d m v)) (omega (arith, backs_le (back_d c N d) d v)) a
      go (yes x) (yes y) (yes z) past = plan_to_start c N s k d m v j (omega arith) x y z

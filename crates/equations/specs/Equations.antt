-- Section 3.1 of source document 000 as printed: E_disk, E_mem, E_verif and E, over any chain of costs. d1, m1 and v1 are its d_1, m_1 and v_1, the last disk copy,
-- memory copy and verification before d_2, m_2 and v_2. S, the rounded equation (4) of document 01, and the costs are those of the chain.
-- N stands for 'none': a min is cut off at N ticks, and E over a stretch that is not allowed is N. The engine has N = 2^34; a later cut gives the same E_disk(n)
-- below that (`any_cut`).
use Rattle.std.specs.Prelude.{ℕ, ◌+◌, ◌≤◌, ◌<◌, ◌≡◌, cond}
use Rattle.chain.specs.Chain.{Chain}
use Rattle.chain.specs.Working.Factors.{stretch_cap}
use Rattle.chain.specs.Working.Search.{least_q, least_m, least_d}

-- some u of a <= u < b has f(u) = t
pub record Attained (a b : ℕ) (f : ℕ → ℕ) (t : ℕ) : Type 0 where
  pub u : ℕ
  pub from : a ≤ u
  pub before : u < b
  pub value : f u ≡ t

-- t is the min of f(u) over a <= u < b, or N where that min is N or more
pub record IsMin (N a b : ℕ) (f : ℕ → ℕ) (t : ℕ) : Type 0 where
  pub cap : t ≤ N
  pub lower : (u : ℕ) → a ≤ u → u < b → t ≤ f u
  pub attained : t < N → Attained a b f t

-- u is a position of a <= u < b with f(u) = t, and all before it take longer
pub record IsEarliest (a b : ℕ) (f : ℕ → ℕ) (t u : ℕ) : Type 0 where
  pub from : a ≤ u
  pub before : u < b
  pub value : f u ≡ t
  pub first : (w : ℕ) → a ≤ w → w < u → t < f w

-- a level's time t is exact, 0 at its start a, else the min of f over a <= u < b, cut off at N; and u is the earliest position that gives it, if it is below N
pub record LevelEquation (N a b : ℕ) (f : ℕ → ℕ) (exact t u : ℕ) : Type 0 where
  pub value : t ≡ exact
  pub cap : t ≤ N
  pub start : b ≡ a → t ≡ 0
  pub least : a < b → IsMin N a b f t
  pub earliest : a < b → t < N → IsEarliest a b f t u

-- The page: four functions that keep the equations of section 3.1 at all positions d_1 <= m_1 <= v_1 < v_2. At these no other four do (`equations_determine`).
pub record Equations (c : Chain) (N : ℕ) (E_disk : (d2 : ℕ) → ℕ) (E_mem : (d1 m2 : ℕ) → ℕ) (E_verif : (d1 m1 v2 : ℕ) → ℕ) (E : (d1 m1 v1 v2 : ℕ) → ℕ) : Type 0 where
  -- E_disk(0) = 0, and E_disk(d_2) = min over 0 <= d_1 < d_2 of E_disk(d_1) + E_mem(d_1, d_2) + C_D
  pub disk_start : E_disk 0 ≡ 0
  pub disk_least : (d2 : ℕ) → 0 < d2 → IsMin N 0 d2 (λ d1. E_disk d1 + E_mem d1 d2 + c.cd d2) (E_disk d2)
  -- E_mem(d_1, d_1) = 0, and E_mem(d_1, m_2) = min over d_1 <= m_1 < m_2 of E_mem(d_1, m_1) + E_verif(d_1, m_1, m_2) + C_M
  pub memory_start : (d1 : ℕ) → E_mem d1 d1 ≡ 0
  pub memory_least : (d1 m2 : ℕ) → d1 < m2 → IsMin N d1 m2 (λ m1. E_mem d1 m1 + E_verif d1 m1 m2 + c.cm m2) (E_mem d1 m2)
  -- E_verif(d_1, m_1, m_1) = 0, and (1): E_verif(d_1, m_1, v_2) = min over m_1 <= v_1 < v_2 of E_verif(d_1, m_1, v_1) + E(d_1, m_1, v_1, v_2)
  pub verification_start : (d1 m1 : ℕ) → d1 ≤ m1 → E_verif d1 m1 m1 ≡ 0
  pub verification_least : (d1 m1 v2 : ℕ) → d1 ≤ m1 → m1 < v2 → IsMin N m1 v2 (λ v1. E_verif d1 m1 v1 + E d1 m1 v1 v2) (E_verif d1 m1 v2)
  -- (4): S, with Q' = E_verif(d_1, m_1, v_1), which is done again, and M' = E_mem(d_1, m_1)
  pub stretch : (d1 m1 v1 v2 : ℕ) → d1 ≤ m1 → m1 ≤ v1 → v1 < v2
      → E d1 m1 v1 v2 ≡ cond (c.allowed v1 v2) (c.S v1 v2 m1 d1 (E_verif d1 m1 v1) (E_mem d1 m1)) N

-- The four that keep them, with E_mem(d_1, m_1) put in for mem: the least times that the plan's theorem knows.
module _ (c : Chain) (N : ℕ) where
  -- E_disk(d_2)
  abbrev pub E_disk : (d2 : ℕ) → ℕ
  E_disk d2 = least_d c N d2

  -- E_mem(d_1, m_2)
  abbrev pub E_mem : (d1 m2 : ℕ) → ℕ
  E_mem d1 m2 = least_m c N d1 m2

  -- E_verif(d_1, m_1, v_2), where E_mem(d_1, m_1) is handed in as the number mem
  abbrev pub E_verif : (d1 m1 mem v2 : ℕ) → ℕ
  E_verif d1 m1 mem v2 = least_q c N d1 m1 mem v2

  -- E(d_1, m_1, v_1, v_2), equation (4), which asks E_verif(d_1, m_1, v_1) for what has to be done again
  abbrev pub E : (d1 m1 mem v1 v2 : ℕ) → ℕ
  E d1 m1 mem v1 v2 = cond (c.allowed v1 v2) (c.S v1 v2 m1 d1 (E_verif d1 m1 mem v1) mem) N

  -- what each level is the min of, by its last position before
  abbrev pub by_disk : (d2 d1 : ℕ) → ℕ
  by_disk d2 d1 = E_disk d1 + E_mem d1 d2 + c.cd d2

  abbrev pub by_memory : (d1 m2 m1 : ℕ) → ℕ
  by_memory d1 m2 m1 = E_mem d1 m1 + E_verif d1 m1 (E_mem d1 m1) m2 + c.cm m2

  abbrev pub by_verification : (d1 m1 mem v2 v1 : ℕ) → ℕ
  by_verification d1 m1 mem v2 v1 = E_verif d1 m1 mem v1 + E d1 m1 mem v1 v2

  -- What each function gives.
  -- E_disk(d_2)
  abbrev pub DiskEquation : (d2 t u : ℕ) → Type 0
  DiskEquation d2 t u = LevelEquation N 0 d2 (by_disk d2) (E_disk d2) t u

  -- E_mem(d_1, m_2)
  abbrev pub MemoryEquation : (d1 m2 t u : ℕ) → Type 0
  MemoryEquation d1 m2 t u = LevelEquation N d1 m2 (by_memory d1 m2) (E_mem d1 m2) t u

  -- E_verif(d_1, m_1, v_2), equation (1)
  abbrev pub VerificationEquation : (d1 m1 mem v2 t u : ℕ) → Type 0
  VerificationEquation d1 m1 mem v2 t u = LevelEquation N m1 v2 (by_verification d1 m1 mem v2) (E_verif d1 m1 mem v2) t u

  -- E(d_1, m_1, v_1, v_2), equation (4); none, or a time within the cap of S
  pub record StretchEquation (d1 m1 mem v1 v2 t : ℕ) : Type 0 where
    pub value : t ≡ E d1 m1 mem v1 v2
    pub cap : t ≤ stretch_cap

-- four functions have the values of those above
pub record SameTimes (c : Chain) (N : ℕ) (F-disk : (d2 : ℕ) → ℕ) (F-mem : (d1 m2 : ℕ) → ℕ) (F-verif : (d1 m1 v2 : ℕ) → ℕ) (F : (d1 m1 v1 v2 : ℕ) → ℕ) : Type 0 where
  pub disk : (d2 : ℕ) → F-disk d2 ≡ E_disk c N d2
  pub memory : (d1 m2 : ℕ) → d1 ≤ m2 → F-mem d1 m2 ≡ E_mem c N d1 m2
  pub verification : (d1 m1 v2 : ℕ) → d1 ≤ m1 → m1 ≤ v2 → F-verif d1 m1 v2 ≡ E_verif c N d1 m1 (E_mem c N d1 m1) v2
  pub stretch : (d1 m1 v1 v2 : ℕ) → d1 ≤ m1 → m1 ≤ v1 → v1 < v2 → F d1 m1 v1 v2 ≡ E c N d1 m1 (E_mem c N d1 m1) v1 v2

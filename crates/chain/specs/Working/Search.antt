-- How a plan is found (what a plan is stands in `Plan`), over any chain of costs: least times by position, earliest previous positions, and the marks that
-- these give.
-- N stands for 'none': no way is kept that takes N ticks or more.
use Rattle.std.specs.Prelude.{ℕ, zero, suc, ◌+◌, ◌≤◌, ◌<◌, ◌≡◌, leb, ltb, eqb, cond}
use Rattle.chain.specs.Chain.{Chain}
use Rattle.chain.specs.Time.{Marks, verification, memory, disk}

-- S rises with Q' and M': all that the theory asks of a chain
abbrev pub Rising : Chain → Type 0
Rising c = (u v m d s t a b : ℕ) → s ≤ t → a ≤ b → c.S u v m d s a ≤ c.S u v m d t b

-- the least of N and of c at the positions below k
unfoldable pub least : ℕ → (ℕ → ℕ) → ℕ → ℕ
least N c zero = N
least N c (suc k) = cond (ltb (c k) (least N c k)) (c k) (least N c k)

-- the earliest position below k at which c is that least
unfoldable pub earliest : ℕ → (ℕ → ℕ) → ℕ → ℕ
earliest N c zero = 0
earliest N c (suc k) = cond (ltb (c k) (least N c k)) k (earliest N c k)

-- the time of arrival at v from u, where the time at u is t: cost u t v
abbrev pub Cost : Type 0
Cost = ℕ → ℕ → ℕ → ℕ

-- the least time of arrival at v over all ways that start at b with time 0; k bounds the recursion, and v + 1 is enough
unfoldable pub reach_to : ℕ → ℕ → ℕ → Cost → ℕ → ℕ
reach_to zero N b cost v = N
reach_to (suc k) N b cost v =
    cond (eqb v b) 0
    (least N (λ u. cond (leb b u) (cond (ltb (reach_to k N b cost u) N) (cost u (reach_to k N b cost u) v) N) N) v)

unfoldable pub reach : ℕ → ℕ → Cost → ℕ → ℕ
reach N b cost v = reach_to (suc v) N b cost v

-- the time of arrival at v by way of u: none where u lies before b or is not reached
unfoldable pub way : ℕ → ℕ → Cost → ℕ → ℕ → ℕ
way N b cost v u = cond (leb b u) (cond (ltb (reach N b cost u) N) (cost u (reach N b cost u) v) N) N

-- the earliest position from which v is reached in least time
unfoldable pub back : ℕ → ℕ → Cost → ℕ → ℕ
back N b cost v = earliest N (way N b cost v) v

module _ (c : Chain) (N : ℕ) where
  -- to the verification at v from that at u, with the last copies d and m and the time M' at m
  unfoldable pub to_verification : ℕ → ℕ → ℕ → Cost
  to_verification d m M' u t v = cond (c.allowed u v) (t + c.S u v m d t M') N

  -- the least Q(v), with the last copies d and m and the time M' at m
  unfoldable pub least_q : ℕ → ℕ → ℕ → ℕ → ℕ
  least_q d m M' v = reach N m (to_verification d m M') v

  -- to the memory copy at v from that at m, with the last disk copy d
  unfoldable pub to_memory : ℕ → Cost
  to_memory d m t v = t + least_q d m t v + c.cm v

  -- the least M(v), with the last disk copy d
  unfoldable pub least_m : ℕ → ℕ → ℕ
  least_m d v = reach N d (to_memory d) v

  -- to the disk copy at v from that at d
  unfoldable pub to_disk : Cost
  to_disk d t v = t + least_m d v + c.cd v

  -- the least D(v)
  unfoldable pub least_d : ℕ → ℕ
  least_d v = reach N 0 to_disk v

  -- the plan's position before v at each level: the last disk copy, the last memory copy, the last mark
  unfoldable pub back_d : ℕ → ℕ
  back_d v = back N 0 to_disk v

  unfoldable pub back_m : ℕ → ℕ → ℕ
  back_m d v = back N d (to_memory d) v

  unfoldable pub back_q : ℕ → ℕ → ℕ → ℕ
  back_q d m v = back N m (to_verification d m (least_m d m)) v

  -- the mark at j of the plan up to v, where v has mark k and the last copies before it are d and m; s bounds the steps back
  unfoldable pub plan_to : ℕ → (k d m v : ℕ) → Marks
  plan_to zero k d m v j = 0
  plan_to (suc s) k d m v j =
      let u : ℕ = back_q d m v in
      cond (eqb j v) k
      (cond (eqb u m)
      (cond (eqb m d)
      (cond (eqb d 0) 0 (plan_to s disk (back_d d) (back_m (back_d d) d) d j))
      (plan_to s memory d (back_m d m) m j))
      (plan_to s verification d m u j))

  -- the marks that the search gives for n tasks
  unfoldable pub plan_marks : ℕ → Marks
  plan_marks n = plan_to n disk (back_d n) (back_m (back_d n) n) n

-- the least Q(v) with the last copies d and m, where the time M' at m is least too
abbrev pub best_q : Chain → ℕ → (d m v : ℕ) → ℕ
best_q c N d m v = least_q c N d m (least_m c N d m) v

-- a state of the walk: v has mark k, the last copies before it are d and m, and all least times are below N
pub record State (c : Chain) (N k d m v : ℕ) : Type 0 where
  pub low : verification ≤ k
  pub high : k ≤ disk
  pub d_m : d ≤ m
  pub m_v : m < v
  pub on_disk : least_d c N d < N
  pub in_memory : least_m c N d m < N
  pub verified : best_q c N d m v < N
  -- a memory copy comes from its back position, and so does a disk copy
  pub is_m : memory ≤ k → m ≡ back_m c N d v
  pub is_d : disk ≤ k → d ≡ back_d c N v

-- The time of a setting: Q(v), M(v) and D(v) of document 01, over any chain of costs.
use Rattle.std.specs.Prelude.{ℕ, zero, suc, ◌+◌, leb, eqb, cond}
use Rattle.chain.specs.Chain.{Chain}

-- the marks of a setting: the mark of each position from 1 on
abbrev pub Marks : Type 0
Marks = ℕ → ℕ

-- what a mark has at least: any mark is 1 or more, a memory copy 2 or more, a disk copy 3
abbrev pub verification : ℕ
verification = 1

abbrev pub memory : ℕ
memory = 2

abbrev pub disk : ℕ
disk = 3

-- the last position before v with a mark of k or more, 0 if there is none:
-- u is `last verification f v`, m is `last memory f v`, d is `last disk f v`
unfoldable pub last : ℕ → Marks → ℕ → ℕ
last k f zero = 0
last k f (suc v) = cond (leb k (f v)) v (last k f v)

-- the three times at a marked position
pub record Times : Type 0 where
  -- Q(v), the time from m to v
  pub q : ℕ
  -- M(v), the time from d to v where v is a memory copy
  pub m : ℕ
  -- D(v), the time from the start to v where v is a disk copy
  pub d : ℕ

-- the equations below recur at earlier positions; k bounds how often, and v times are enough (`Q_is`, `M_is`, `D_is`)
unfoldable pub times : ℕ → Chain → Marks → ℕ → Times
times zero c f v = record { q = 0; m = 0; d = 0 }
times (suc k) c f v =
    let u : ℕ = last verification f v in
    let m : ℕ = last memory f v in
    let d : ℕ = last disk f v in
    let Q' : ℕ = cond (eqb u m) 0 (times k c f u).q in
    let M' : ℕ = cond (eqb m d) 0 (times k c f m).m in
    let Qv : ℕ = Q' + c.S u v m d Q' M' in
    let Mv : ℕ = M' + Qv + c.cm v in
    record { q = Qv; m = Mv; d = cond (eqb d 0) 0 (times k c f d).d + Mv + c.cd v }

-- Q(v), M(v), D(v) of 01 under the marks f; D(0) is 0
unfoldable pub Q : Chain → Marks → ℕ → ℕ
Q c f v = (times v c f v).q

unfoldable pub M : Chain → Marks → ℕ → ℕ
M c f v = (times v c f v).m

unfoldable pub D : Chain → Marks → ℕ → ℕ
D c f v = cond (eqb v 0) 0 (times v c f v).d

-- Q' at v: 0 if u = m, else Q(u)
unfoldable pub Q' : Chain → Marks → ℕ → ℕ
Q' c f v = cond (eqb (last verification f v) (last memory f v)) 0 (Q c f (last verification f v))

-- M' at v: 0 if m = d, else M(m)
unfoldable pub M' : Chain → Marks → ℕ → ℕ
M' c f v = cond (eqb (last memory f v) (last disk f v)) 0 (M c f (last memory f v))

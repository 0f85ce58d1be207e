-- Laws of copies and weights up to a position. The last copy before position 1 is the start, whatever the marks. Assumes nothing.
use Prim.Native.Nat.{max, ℕ, zero, suc, ◌+◌, ◌-◌, ◌≤◌, ◌<◌}
use mathlib.Core.Path.{◌≡◌, refl, ap, ◌∙◌}
use mathlib.Core.Bool.{◌||◌}
use mathlib.Core.List.{List}
use native.Mathlib.Numerals.{add-one}
use native.Mathlib.Omega.{arith}
use borrow.Author.Tests.{ne_eqb}
use lib.Dec.{eqb}
use lib.ListN.{get_or}
use Rattle.chain.specs.Time.{Marks, last}
use Rattle.chain.proofs.Equations.{last_here, last_past, last_lt, last_le, last_first}
use Rattle.job.specs.Job.{total, between}
use Rattle.job.proofs.Weights.{total_mono}
use Rattle.marks.specs.Marks.{marks_of}

-- the last copy up to p lies no later than p
pub last_up_to : (k : ℕ) (f : Marks) (p : ℕ) → last k f (suc p) ≤ p
last_up_to k f p = omega (arith, last_lt k f (suc p) (omega arith))

-- one entry more: a mark of k or more is the new last copy, any other leaves it
pub last_next : (k : ℕ) (l : List ℕ) (j : ℕ) → k ≤ get_or l j 0 → last k (marks_of l) (suc (j + 1)) ≡ j + 1
last_next k l j h = rw (add-one j) (last_here k (marks_of l) (suc j) h)

pub last_kept : (k : ℕ) (l : List ℕ) (j : ℕ) → get_or l j 0 < k → last k (marks_of l) (suc (j + 1)) ≡ last k (marks_of l) (suc j)
last_kept k l j h = rw (add-one j) (last_past k (marks_of l) (suc j) h)

-- the same over the position p
pub last_at : (k : ℕ) (l : List ℕ) (p : ℕ) → 0 < p → k ≤ get_or l (p - 1) 0 → last k (marks_of l) (p + 1) ≡ p
last_at k l zero h m = absurd (omega arith)
last_at k l (suc j) h m =
    let e : suc j - 1 ≡ j = omega arith in
    let next : suc j + 1 ≡ suc (j + 1) = omega arith in
    rw next (last_next k l j (rw e at m) ∙ add-one j)

pub last_beyond : (k : ℕ) (l : List ℕ) (p : ℕ) → 0 < p → get_or l (p - 1) 0 < k → last k (marks_of l) (p + 1) ≡ last k (marks_of l) p
last_beyond k l zero h m = absurd (omega arith)
last_beyond k l (suc j) h m =
    let e : suc j - 1 ≡ j = omega arith in
    let next : suc j + 1 ≡ suc (j + 1) = omega arith in
    rw next (last_kept k l j (rw e at m))

-- where the search for it ends: at v, and at 1 where v is the start
pub last_end : (k : ℕ) (f : Marks) (v p : ℕ) → 0 < p → v ≤ p → p ≤ max 1 v → last k f p ≡ last k f v
last_end k f zero p h a b = let one : p ≡ 1 = omega arith in rw one (omega (arith, last_le k f 0, last_first k f))
last_end k f (suc v) p h a b = ap (λ (n : ℕ). last k f n) (omega arith)

-- what is kept once the weights after a copy have moved to redone
pub move_kept : (w : List ℕ) {kept : ℕ} (c p : ℕ) → kept ≡ total w p → c ≤ p → kept - between w c p ≡ total w c
unfolding between
move_kept w c p e l = omega (arith, e, total_mono w c p l)

-- the start has no mark, so a mark of 0 there says that it is the start
pub no_mark : (l : List ℕ) (p : ℕ) → eqb (marks_of l p) 0 ≡ (eqb p 0 || eqb (marks_of l p) 0)
no_mark l zero = refl
no_mark l (suc p) = rw (ne_eqb (suc p) 0 (omega arith))

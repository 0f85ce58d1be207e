-- Rows of verifications: each entry is the least over the positions before it, and the earliest of these is found by their offers to v alone. Assumes nothing.
use Prim.Native.Nat.{ℕ, zero, suc, ◌≤◌, ◌<◌, ◌+◌, min, max}
use mathlib.Core.Path.{◌≡◌, refl, sym, ◌∙◌}
use mathlib.Core.Bool.{Bool, true, false, not, cond}
use mathlib.Core.List.{List}
use native.Mathlib.Decide.{dec_lt, ℕ_discrete}
use native.Mathlib.Omega.{arith}
use borrow.Author.Tests.{lt-ltb, le-ltb}
use lib.Dec.{eqb}
use lib.ListN.{length, get_or, set, replicate, length-set, length-replicate, get_or-replicate}
use lib.Seq.{get_or-set_same}
use Rattle.units.specs.Limits.{none}
use Rattle.chain.specs.Working.Factors.{stretch_of}
use Rattle.chain.specs.Working.Search.{Cost, least, earliest, reach, way}
use Rattle.chain.proofs.Search.{least_new, least_old, least_cap, reach_start, reach_cap, way_is, way_unreached, way_before}
use Rattle.chain.specs.declared.Recoveries.{Recoveries}
use Rattle.units.specs.Limits.{positions}
use Rattle.verifications.specs.Working.Rows.{sooner, sooner_from, OfferMade, Row, EndIs}
use Rattle.table.specs.Working.Table.{entry_of, arrival_at}

-- no arrival is before its start
pub arrival_ge : (t : List ℕ) (r : Recoveries) (u q v : ℕ) → q ≤ none → q ≤ arrival_at t r u q v
unfolding arrival_at
arrival_ge t r u q v h = go (not (eqb (entry_of t u v).both 0))
  where
    go : (a : Bool) → q ≤ cond a (q + stretch_of (entry_of t u v) r q) none
    go true = omega arith
    go false = h

-- ways that take N leave the least and the earliest as they are
least_none : (N : ℕ) (c : ℕ → ℕ) (k : ℕ) → ((j : ℕ) → j < k → c j ≡ N) → (least N c k ≡ N) × (earliest N c k ≡ 0)
unfolding least earliest
least_none N c zero h = (refl, refl)
least_none N c (suc k) h =
    let r = least_none N c k (λ j l. h j (omega arith)) in
    let o = least_old N c k (omega (arith, h k (omega arith), least_cap N c k)) in
    (o.0 ∙ r.0, o.1 ∙ r.1)

least_past : (N : ℕ) (c : ℕ → ℕ) (u k : ℕ) → u ≤ k → ((j : ℕ) → u ≤ j → j < k → c j ≡ N) → least N c k ≡ least N c u
least_past N c u zero h e = let z : u ≡ 0 = omega arith in rw z
least_past N c u (suc k) h e = go (ℕ_discrete u (suc k)) (λ l. least_past N c u k l (λ j a i. e j a (omega arith)))
  where
    go : Dec (u ≡ suc k) → (u ≤ k → least N c k ≡ least N c u) → least N c (suc k) ≡ least N c u
    go (yes i) before = rw i
    go (no i) before = (least_old N c k (omega (arith, e k (omega arith) (omega arith), least_cap N c k))).0 ∙ before (omega arith)

module _ (N b : ℕ) (cost : Cost) (v : ℕ) where
  -- positions from u on that are not reached leave the least as it is
  pub least_reached : (u : ℕ) → u ≤ v → ((j : ℕ) → u ≤ j → j < v → N ≤ reach N b cost j) → least N (way N b cost v) v ≡ least N (way N b cost v) u
  least_reached u h e = least_past N (way N b cost v) u v h (λ j a l. way_unreached N b cost v j (e j a l))

  -- no way leads by a position before b, nor by one whose arrival is none
  pub least_first : (k : ℕ) → ((j : ℕ) → j < k → cost j (reach N b cost j) v ≡ N) → least N (way N b cost v) (max b k) ≡ N
  least_first k e = (least_none N (way N b cost v) (max b k) (λ j h. go j h (dec_lt j b) (dec_lt (reach N b cost j) N))).0
    where
      go : (j : ℕ) → j < max b k → Dec (j < b) → Dec (reach N b cost j < N) → way N b cost v j ≡ N
      go j h (yes l) r = way_before N b cost v j l
      go j h (no l) (yes r) = way_is N b cost v j (omega arith) r ∙ e j (omega arith)
      go j h (no l) (no r) = way_unreached N b cost v j (omega arith)

  -- one more arrival, which is not before its start
  pub least_next : (u x best : ℕ) → b ≤ u → x ≡ cost u (reach N b cost u) v → reach N b cost u ≤ x → best ≡ least N (way N b cost v) u
      → min best x ≡ least N (way N b cost v) (u + 1)
  least_next u x best h e l i = let s : u + 1 ≡ suc u = omega arith in rw s (go (dec_lt (reach N b cost u) N) (dec_lt (way N b cost v u) best))
    where
      go : Dec (reach N b cost u < N) → Dec (way N b cost v u < best) → min best x ≡ least N (way N b cost v) (suc u)
      go (yes r) (yes n) = omega (arith, i, e, way_is N b cost v u h r, (least_new N (way N b cost v) u (rw (← i) n)).0)
      go (yes r) (no n) = omega (arith, i, e, way_is N b cost v u h r, (least_old N (way N b cost v) u (omega (arith, i))).0)
      go (no r) n =
          omega (
            arith,
            i,
            least_cap N (way N b cost v) u,
            (least_old N (way N b cost v) u (omega (arith, least_cap N (way N b cost v) u, way_unreached N b cost v u (omega arith)))).0,
          )

  -- rows of one entry: the least over the ways to v by the positions before u, and the earliest of these
  pub record Earliest (u : ℕ) (best from : List ℕ) : Type 0 where
    pub best_long : length best ≡ 1
    pub from_long : length from ≡ 1
    pub best_at : get_or best 0 0 ≡ least N (way N b cost v) u
    pub from_at : get_or from 0 0 ≡ earliest N (way N b cost v) u

  pub earliest_start : Earliest b (replicate 1 N) (replicate 1 0)
  earliest_start =
      let none = least_none N (way N b cost v) b (λ j h. way_before N b cost v j h) in
      record {
        best_long = length-replicate 1 N;
        from_long = length-replicate {A = ℕ} 1 0;
        best_at = get_or-replicate 1 0 N 0 (omega arith) ∙ sym none.0;
        from_at = get_or-replicate 1 0 0 0 (omega arith) ∙ sym none.1;
      }

  -- one more offer, which is not before its start
  pub earliest_next : (u x : ℕ) (best from best' from' : List ℕ) → Earliest u best from → b ≤ u → x ≡ cost u (reach N b cost u) v → reach N b cost u ≤ x
      → OfferMade best from 0 u x best' from' → Earliest (u + 1) best' from'
  earliest_next u x best from best' from' e h is l made =
      let s : u + 1 ≡ suc u = omega arith in
      rw (made.times, made.froms, s)
      (record {
        best_long = length-set best 0 _ ∙ e.best_long;
        from_long = length-set from 0 _ ∙ e.from_long;
        best_at = get_or-set_same best 0 _ 0 (omega (arith, e.best_long)) ∙ rw e.best_at at.0;
        from_at = get_or-set_same from 0 _ 0 (omega (arith, e.from_long)) ∙ rw (e.best_at, e.from_at) at.1;
      })
    where
      known : ℕ
      known = least N (way N b cost v) u

      before : ℕ
      before = earliest N (way N b cost v) u

      go : Dec (reach N b cost u < N) → Dec (x < known)
          → (sooner x known ≡ least N (way N b cost v) (suc u)) × (sooner_from x known u before ≡ earliest N (way N b cost v) (suc u))
      go (yes r) (yes n) =
          let o = least_new N (way N b cost v) u (omega (arith, is, way_is N b cost v u h r)) in
          rw (lt-ltb x known n) (is ∙ sym (way_is N b cost v u h r) ∙ sym o.0, sym o.1)
      go (yes r) (no n) =
          let o = least_old N (way N b cost v) u (omega (arith, is, way_is N b cost v u h r)) in
          rw (le-ltb x known (omega arith)) (sym o.0, sym o.1)
      go (no r) n =
          let cap = least_cap N (way N b cost v) u in
          let o = least_old N (way N b cost v) u (omega (arith, cap, way_unreached N b cost v u (omega arith))) in
          rw (le-ltb x known (omega (arith, cap))) (sym o.0, sym o.1)

      at : (sooner x known ≡ least N (way N b cost v) (suc u)) × (sooner_from x known u before ≡ earliest N (way N b cost v) (suc u))
      at = go (dec_lt (reach N b cost u) N) (dec_lt x known)

-- a row has its start, and then one entry more at a time
pub row_first : (N b : ℕ) (cost : Cost) (time : List ℕ) → length time ≡ positions → b < positions → Row N b cost (b + 1) (set time b 0)
row_first N b cost time long h =
    record {
      long = length-set time b 0 ∙ long;
      times = λ v k l. let e : v ≡ b = omega arith in rw e (get_or-set_same time b 0 0 (omega (arith, long)) ∙ sym (reach_start N b cost));
    }

-- where the positions end that have a time, with one position more
module _ (end v q r : ℕ) (at : EndIs q (v + 1) end r) where
  pub end_within : end ≤ v → r ≤ v + 1
  end_within h = go (dec_lt q none)
    where
      go : Dec (q < none) → r ≤ v + 1
      go (yes l) = omega (arith, at.some l)
      go (no l) = omega (arith, at.no (omega arith))

  pub end_from : (u : ℕ) → u < end → u < v → u < r
  end_from u h k = go (dec_lt q none)
    where
      go : Dec (q < none) → u < r
      go (yes l) = omega (arith, at.some l)
      go (no l) = omega (arith, at.no (omega arith))

pub row_less : (N b : ℕ) (cost : Cost) (e f : ℕ) (time : List ℕ) → f ≤ e → Row N b cost e time → Row N b cost f time
row_less N b cost e f time h row = record { long = row.long; times = λ v k l. row.times v k (omega arith) }

pub row_capped : (N b : ℕ) (cost : Cost) (e : ℕ) (time : List ℕ) → Row N b cost e time → (v : ℕ) → b ≤ v → v < e → get_or time v 0 ≤ N
row_capped N b cost e time row v h l = rw (row.times v h l) (reach_cap N b cost v)

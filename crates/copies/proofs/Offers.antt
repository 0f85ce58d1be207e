-- A row of copies is filled forward. When it is k's turn, no entry is too low, and for each live v: the entry is exact if the earliest position before v has had
-- its turn, and more than the least time if not. So a live position is exact when its own turn comes, and after the last turn every live position is.
-- It is enough that the offers of k are not below the ways by k, and exact where k is the earliest position before a live v. Assumes nothing.
use Prim.Native.Nat.{ℕ, ◌≤◌, ◌<◌, ◌+◌}
use mathlib.Core.Path.{◌≡◌, refl, sym, ◌∙◌}
use mathlib.Core.Logic.{◌≢◌}
use mathlib.Core.List.{List}
use native.Mathlib.Decide.{dec_lt, ℕ_discrete}
use native.Mathlib.Omega.{arith}
use borrow.Author.Tests.{le-ltb, lt-ltb}
use lib.ListN.{length, get_or, set, replicate, length-set, length-replicate, get_or-replicate}
use lib.Seq.{get_or-set_same, get_or-set_other}
use Rattle.chain.specs.Working.Search.{Cost, reach, way, back}
use Rattle.chain.proofs.Search.{least_le, earliest_first, reach_start, reach_is, reach_cap, back_is}
use Rattle.units.specs.Limits.{positions}
use Rattle.verifications.specs.Working.Rows.{OfferMade, sooner, sooner_from}
use Rattle.copies.specs.Working.Copies.{Offered, Cut}

-- the lesser of an arrival and what stands
sooner_new : (c t : ℕ) → c < t → sooner c t ≡ c
sooner_new c t h = rw (lt-ltb c t h)

sooner_old : (c t : ℕ) → t ≤ c → sooner c t ≡ t
sooner_old c t h = rw (le-ltb c t h)

from_new : (c t u b : ℕ) → c < t → sooner_from c t u b ≡ u
from_new c t u b h = rw (lt-ltb c t h)

from_old : (c t u b : ℕ) → t ≤ c → sooner_from c t u b ≡ b
from_old c t u b h = rw (le-ltb c t h)

-- the rows when it is k's turn
pub record Turn (N b : ℕ) (cost : Cost) (Live : ℕ → Type 0) (top k : ℕ) (time backs : List ℕ) : Type 0 where
  pub times_long : length time ≡ positions
  pub backs_long : length backs ≡ positions
  pub start : get_or time b 0 ≡ 0
  pub capped : (v : ℕ) → v ≤ top → get_or time v 0 ≤ N
  pub not_low : (v : ℕ) → v ≤ top → reach N b cost v ≤ get_or time v 0
  pub exact : (v : ℕ) → v ≤ top → v ≢ b → Live v → back N b cost v < k → (get_or time v 0 ≡ reach N b cost v) × (get_or backs v 0 ≡ back N b cost v)
  pub still : (v : ℕ) → v ≤ top → v ≢ b → Live v → k ≤ back N b cost v → reach N b cost v < get_or time v 0

module _ (N b : ℕ) (cost : Cost) (Live : ℕ → Type 0) (top : ℕ) (reached : (v : ℕ) → v ≤ top → Live v → reach N b cost v < N) where
  -- a fresh row says none at each position, and 0 at its start
  pub turn_first : b ≤ top → top < positions → (time backs : List ℕ) → time ≡ replicate positions N → backs ≡ replicate positions 0
      → Turn N b cost Live top b (set time b 0) backs
  turn_first h l time backs p q =
      record {
        times_long = length-set time b 0 ∙ rw p (length-replicate positions N);
        backs_long = rw q (length-replicate {A = ℕ} positions 0);
        start = first;
        capped = λ v k. cap v k (ℕ_discrete v b);
        not_low = λ v k. low v k (ℕ_discrete v b);
        exact = λ v k e i x. absurd (omega (arith, (back_is N b cost v e (reached v k i)).starts));
        still = λ v k e i x. omega (arith, other v k e, reached v k i);
      }
    where
      first : get_or (set time b 0) b 0 ≡ 0
      first = get_or-set_same time b 0 0 (rw p (omega (arith, length-replicate positions N)))

      other : (v : ℕ) → v ≤ top → v ≢ b → get_or (set time b 0) v 0 ≡ N
      other v k e = get_or-set_other time b v 0 0 e ∙ rw p (get_or-replicate positions v N 0 (omega arith))

      cap : (v : ℕ) → v ≤ top → Dec (v ≡ b) → get_or (set time b 0) v 0 ≤ N
      cap v k (yes e) = rw (e, first) (omega arith)
      cap v k (no e) = omega (arith, other v k e)

      low : (v : ℕ) → v ≤ top → Dec (v ≡ b) → reach N b cost v ≤ get_or (set time b 0) v 0
      low v k (yes e) = rw e (omega (arith, reach_start N b cost))
      low v k (no e) = omega (arith, other v k e, reach_cap N b cost v)

  module _ (k : ℕ) (time backs : List ℕ) (turn : Turn N b cost Live top k time backs) (h : b ≤ k) where
    -- at its turn a live position is exact
    pub turn_now : k ≤ top → Live k → get_or time k 0 ≡ reach N b cost k
    turn_now l i = go (ℕ_discrete k b)
      where
        go : Dec (k ≡ b) → get_or time k 0 ≡ reach N b cost k
        go (yes e) = rw e (turn.start ∙ sym (reach_start N b cost))
        go (no e) = (turn.exact k l e i (back_is N b cost k e (reached k l i)).falls).0

    -- offers of k before e make its turn
    module _ (e : ℕ) (c : ℕ → ℕ) (time' backs' : List ℕ) (o : Offered time backs k e c time' backs') (below : e ≤ top + 1)
        (not_below : (v : ℕ) → k < v → v < e → way N b cost v k ≤ c v)
        (offered : (v : ℕ) → v ≤ top → v ≢ b → Live v → back N b cost v ≡ k → (v < e) × (c v ≡ reach N b cost v)) where
      way_reach : (v : ℕ) → k < v → reach N b cost v ≤ way N b cost v k
      way_reach v l = omega (arith, reach_is N b cost v (omega arith), least_le N (way N b cost v) v k l)

      way_later : (v : ℕ) → k < v → k < back N b cost v → reach N b cost v < way N b cost v k
      unfolding back
      way_later v l x = omega (arith, reach_is N b cost v (omega arith), earliest_first N (way N b cost v) v k x)

      -- what the turn does at v
      same : (v : ℕ) → Dec (k < v) → Dec (v < e) → (k < v → v < e → get_or time v 0 ≤ c v) → (get_or time' v 0 ≡ get_or time v 0) × (get_or backs' v 0 ≡ get_or backs v 0)
      same v (no x) y z = (o.time_early v (omega arith), o.back_early v (omega arith))
      same v (yes x) (no y) z = (o.time_late v (omega arith), o.back_late v (omega arith))
      same v (yes x) (yes y) z =
          (o.time_at v x y ∙ sooner_old (c v) (get_or time v 0) (z x y), o.back_at v x y ∙ from_old (c v) (get_or time v 0) k (get_or backs v 0) (z x y))

      new : (v : ℕ) → k < v → v < e → c v < get_or time v 0 → (get_or time' v 0 ≡ c v) × (get_or backs' v 0 ≡ k)
      new v x y z = (o.time_at v x y ∙ sooner_new (c v) (get_or time v 0) z, o.back_at v x y ∙ from_new (c v) (get_or time v 0) k (get_or backs v 0) z)

      -- a time falls to an offer at most
      either : (v x : ℕ) → x ≤ get_or time v 0 → (k < v → v < e → x ≤ c v) → x ≤ get_or time' v 0
      either v x l z = go (dec_lt k v) (dec_lt v e) (dec_lt (c v) (get_or time v 0))
        where
          go : Dec (k < v) → Dec (v < e) → Dec (c v < get_or time v 0) → x ≤ get_or time' v 0
          go (yes a) (yes i) (yes j) = omega (arith, (new v a i j).0, z a i)
          go (yes a) (yes i) (no j) = omega (arith, (same v (yes a) (yes i) (λ _ _. omega arith)).0)
          go (yes a) (no i) j = omega (arith, o.time_late v (omega arith))
          go (no a) i j = omega (arith, o.time_early v (omega arith))

      fewer : (v : ℕ) → get_or time' v 0 ≤ get_or time v 0
      fewer v = go (dec_lt k v) (dec_lt v e) (dec_lt (c v) (get_or time v 0))
        where
          go : Dec (k < v) → Dec (v < e) → Dec (c v < get_or time v 0) → get_or time' v 0 ≤ get_or time v 0
          go (yes a) (yes i) (yes j) = omega (arith, (new v a i j).0)
          go (yes a) (yes i) (no j) = omega (arith, (same v (yes a) (yes i) (λ _ _. omega arith)).0)
          go (yes a) (no i) j = omega (arith, o.time_late v (omega arith))
          go (no a) i j = omega (arith, o.time_early v (omega arith))

      pub turn_next : Turn N b cost Live top (k + 1) time' backs'
      turn_next =
          record {
            times_long = o.times_long ∙ turn.times_long;
            backs_long = o.backs_long ∙ turn.backs_long;
            start = o.time_early b h ∙ turn.start;
            capped = λ v l. omega (arith, fewer v, turn.capped v l);
            not_low = λ v l. either v (reach N b cost v) (turn.not_low v l) (λ x y. omega (arith, way_reach v x, not_below v x y));
            exact = λ v l n i x. at v l n i (ℕ_discrete (back N b cost v) k) x;
            still = λ v l n i x. omega (arith, later v l n i x);
          }
        where
          later : (v : ℕ) → v ≤ top → v ≢ b → Live v → k + 1 ≤ back N b cost v → reach N b cost v + 1 ≤ get_or time' v 0
          later v l n i x =
              either v (reach N b cost v + 1) (omega (arith, turn.still v l n i (omega arith)))
              (λ a y. omega (arith, way_later v a (omega arith), not_below v a y))

          at : (v : ℕ) → v ≤ top → v ≢ b → Live v → Dec (back N b cost v ≡ k) → back N b cost v < k + 1
              → (get_or time' v 0 ≡ reach N b cost v) × (get_or backs' v 0 ≡ back N b cost v)
          at v l n i (yes p) x =
              let f = offered v l n i p in
              let lt : k < v = omega (arith, (back_is N b cost v n (reached v l i)).falls) in
              let s = new v lt f.0 (omega (arith, f.1, turn.still v l n i (omega arith))) in
              (s.0 ∙ f.1, s.1 ∙ sym p)
          at v l n i (no p) x =
              let t = turn.exact v l n i (omega arith) in
              let s = same v (dec_lt k v) (dec_lt v e) (λ a y. omega (arith, t.0, way_reach v a, not_below v a y)) in
              (s.0 ∙ t.0, s.1 ∙ t.1)

  -- after the last turn the rows are filled
  pub turn_last : (k : ℕ) (time backs : List ℕ) → Turn N b cost Live top k time backs → top ≤ k → Cut N b cost Live top time backs
  turn_last k time backs turn h =
      record {
        times_long = turn.times_long;
        backs_long = turn.backs_long;
        capped = turn.capped;
        not_low = turn.not_low;
        times = λ v l i. at v l i (ℕ_discrete v b);
        backs = λ v l e i. (turn.exact v l e i (omega (arith, (back_is N b cost v e (reached v l i)).falls))).1;
      }
    where
      at : (v : ℕ) → v ≤ top → Live v → Dec (v ≡ b) → get_or time v 0 ≡ reach N b cost v
      at v l i (yes e) = rw e (turn.start ∙ sym (reach_start N b cost))
      at v l i (no e) = (turn.exact v l e i (omega (arith, (back_is N b cost v e (reached v l i)).falls))).0

-- one offer more: the lesser of the two times at v, and the way that gave it
pub offered_none : (time backs : List ℕ) (u : ℕ) (c : ℕ → ℕ) → Offered time backs u (u + 1) c time backs
offered_none time backs u c =
    record {
      times_long = refl;
      backs_long = refl;
      time_at = λ w a b. absurd (omega arith);
      back_at = λ w a b. absurd (omega arith);
      time_early = λ w a. refl;
      back_early = λ w a. refl;
      time_late = λ w a. refl;
      back_late = λ w a. refl;
    }

module _ (time backs : List ℕ) (u v : ℕ) (c : ℕ → ℕ) (time' backs' : List ℕ) (o : Offered time backs u v c time' backs') (h : u < v) where
  put_more : v < length time → v < length backs
      → Offered time backs u (v + 1) c (set time' v (sooner (c v) (get_or time' v 0))) (set backs' v (sooner_from (c v) (get_or time' v 0) u (get_or backs' v 0)))
  put_more l m =
      record {
        times_long = length-set time' v _ ∙ o.times_long;
        backs_long = length-set backs' v _ ∙ o.backs_long;
        time_at = λ w a b. time_here w a b (ℕ_discrete w v);
        back_at = λ w a b. back_here w a b (ℕ_discrete w v);
        time_early = λ w a. get_or-set_other time' v w _ 0 (λ e. omega arith) ∙ o.time_early w a;
        back_early = λ w a. get_or-set_other backs' v w _ 0 (λ e. omega arith) ∙ o.back_early w a;
        time_late = λ w a. get_or-set_other time' v w _ 0 (λ e. omega arith) ∙ o.time_late w (omega arith);
        back_late = λ w a. get_or-set_other backs' v w _ 0 (λ e. omega arith) ∙ o.back_late w (omega arith);
      }
    where
      best : ℕ
      best = sooner (c v) (get_or time' v 0)

      from : ℕ
      from = sooner_from (c v) (get_or time' v 0) u (get_or backs' v 0)

      time_here : (w : ℕ) → u < w → w < v + 1 → Dec (w ≡ v) → get_or (set time' v best) w 0 ≡ sooner (c w) (get_or time w 0)
      time_here w a b (yes e) = rw (e, get_or-set_same time' v best 0 (omega (arith, o.times_long)), o.time_late v (omega arith))
      time_here w a b (no e) = get_or-set_other time' v w best 0 e ∙ o.time_at w a (omega arith)

      back_here : (w : ℕ) → u < w → w < v + 1 → Dec (w ≡ v) → get_or (set backs' v from) w 0 ≡ sooner_from (c w) (get_or time w 0) u (get_or backs w 0)
      back_here w a b (yes e) =
          rw (
            e,
            get_or-set_same backs' v from 0 (omega (arith, o.backs_long)),
            o.time_late v (omega arith),
            o.back_late v (omega arith),
          )
      back_here w a b (no e) = get_or-set_other backs' v w from 0 e ∙ o.back_at w a (omega arith)

  pub offered_more : v < length time → v < length backs → (x : ℕ) → x ≡ c v → (time'' backs'' : List ℕ) → OfferMade time' backs' v u x time'' backs''
      → Offered time backs u (v + 1) c time'' backs''
  offered_more l m x e time'' backs'' made = rw (made.times, made.froms, e) (put_more l m)

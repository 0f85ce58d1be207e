-- The bounds are filled stage by stage. A minimum is at most each of its candidates, and a write changes one bound alone: so each stage keeps what holds so far, and
-- adds its own inequalities. Assumes nothing.
use Prim.Native.Nat.{ℕ, ◌+◌, ◌-◌, ◌*◌, ◌≤◌, ◌<◌, min}
use mathlib.Core.Path.{◌≡◌, sym, ◌∙◌, ap}
use mathlib.Core.Logic.{◌≢◌}
use mathlib.Core.Bool.{Bool, true, cond}
use mathlib.Core.List.{List}
use native.Mathlib.Decide.{dec_lt, ℕ_discrete}
use native.Mathlib.Omega.{arith}
use borrow.Author.Tests.{eq-eqb}
use lib.ListN.{length, get_or, set, length-set}
use lib.Seq.{get_or-set_same, get_or-set_other}
use Rattle.units.specs.Unit.{unit, up}
use Rattle.units.specs.Limits.{none}
use Rattle.units.proofs.Laws.{up_cap}
use Rattle.chain.specs.Working.Bounds.{slope, part_low, least_disk}
use Rattle.chain.specs.Working.Factors.{stretch_of, disk_cap, Factored}
use Rattle.chain.specs.Working.Search.{reach}
use Rattle.chain.specs.declared.Factors.{Factors}
use Rattle.chain.specs.declared.Recoveries.{Recoveries}
use Rattle.chain.proofs.Search.{reach_start, reach_cap, reach_lower}
use Rattle.units.specs.Limits.{positions}
use Rattle.bounds.specs.Working.Bounds.{time_start, risk_start, base_start, bounds_needed, square_at, bounds_in, apart_in}
use Rattle.bounding.specs.Working.Stages.{Parts, Steps, Bases, Filled, After, Stage, Column, PutParts, LeastTime, LeastRisk, LeastBase, StepPut, Ahead, Looked, LeastAfter, OwnIs, StoppedIs, ReadyForAfter, ReadyForOwn}
use Rattle.bounds.specs.Working.Bounds.{disk_in, since, BoundsOf, ReadyForSince}
use Rattle.verifications.specs.Working.Rows.{Row}
use Rattle.table.specs.Working.Table.{cm_start, cd_start, rm_start, column, entry_of, chain_in, arrival_at, disk_recovery_cap, Bounded}
use Rattle.bounds.proofs.Bounds.{slope_cap_lem, base_cap, time_entry, square_within, square_apart}

-- x is at most each candidate f w before e, for which P holds
abbrev pub AtMost : (P : ℕ → Type 0) (f : ℕ → ℕ) (e x : ℕ) → Type 0
AtMost P f e x = (w : ℕ) → P w → w < e → x ≤ f w

module _ (P : ℕ → Type 0) (f : ℕ → ℕ) (e x : ℕ) (h : AtMost P f e x) where
  pub at_most_next : (y : ℕ) → (P e → y ≡ f e) → AtMost P f (e + 1) (min x y)
  at_most_next y is w p l = go (ℕ_discrete w e)
    where
      go : Dec (w ≡ e) → min x y ≤ f w
      go (yes i) = rw i (omega (arith, is (rw i at p)))
      go (no i) = omega (arith, h w p (omega arith))

-- a write to one place
module _ (n : ℕ) (b : List ℕ) (i x : ℕ) where
  pub part_kept : (u v : ℕ) → i ≢ square_at n v u → (bounds_in n (set b i x)).part u v ≡ (bounds_in n b).part u v
  unfolding bounds_in
  part_kept u v h = get_or-set_other b i (square_at n v u) x 0 (λ e. h (sym e))

  pub time_kept : (v : ℕ) → i ≢ time_start + v → (bounds_in n (set b i x)).time v ≡ (bounds_in n b).time v
  unfolding bounds_in
  time_kept v n = get_or-set_other b i (time_start + v) x 0 (λ e. n (sym e))

  pub risk_kept : (v : ℕ) → i ≢ risk_start + v → (bounds_in n (set b i x)).risk v ≡ (bounds_in n b).risk v
  unfolding bounds_in
  risk_kept v n = get_or-set_other b i (risk_start + v) x 0 (λ e. n (sym e))

  pub base_kept : (u : ℕ) → i ≢ base_start + u → (bounds_in n (set b i x)).base u ≡ (bounds_in n b).base u
  unfolding bounds_in
  base_kept u n = get_or-set_other b i (base_start + u) x 0 (λ e. n (sym e))

  pub after_kept : (d u : ℕ) → i ≢ square_at n d u → (bounds_in n (set b i x)).after d u ≡ (bounds_in n b).after d u
  unfolding bounds_in
  after_kept d u h = get_or-set_other b i (square_at n d u) x 0 (λ e. h (sym e))

pub parts_more : (n : ℕ) (b q : List ℕ) (m e : ℕ) (b' : List ℕ) → PutParts n b q m e b' → bounds_needed n ≤ length b → m < e → e ≤ n
    → PutParts n b q m (e + 1) (set b' (square_at n e m) (get_or q e 0))
unfolding bounds_in
parts_more n b q m e b' p long h few =
    record {
      long = length-set b' (square_at n e m) (get_or q e 0) ∙ p.long;
      here = λ v a k. here v a k (ℕ_discrete v e);
      columns = λ i a. get_or-set_other b' (square_at n e m) i (get_or q e 0) 0 (λ z. omega arith) ∙ p.columns i a;
      others = λ u v x a k. part_kept n b' (square_at n e m) (get_or q e 0) u v (λ z. x (sym (square_apart n e m v u (omega arith) (omega arith) z).1)) ∙ p.others u v x a k;
    }
  where
    put : (bounds_in n (set b' (square_at n e m) (get_or q e 0))).part m e ≡ get_or q e 0
    put = get_or-set_same b' (square_at n e m) (get_or q e 0) 0 (omega (arith, p.long, square_within n e m few (omega arith)))

    here : (v : ℕ) → m < v → v < e + 1 → Dec (v ≡ e) → (bounds_in n (set b' (square_at n e m) (get_or q e 0))).part m v ≡ get_or q v 0
    here v a k (yes i) = rw i put
    here v a k (no i) = part_kept n b' (square_at n e m) (get_or q e 0) m v (λ z. i (sym (square_apart n e m v m (omega arith) (omega arith) z).0)) ∙ p.here v a (omega arith)

pub parts_first : (n : ℕ) (t b : List ℕ) → bounds_needed n ≤ length b → Parts 0 n t b
parts_first n t b long =
    record {
      long = long;
      first = λ m v h. absurd (omega arith);
      step = λ m u v h. absurd (omega arith);
      range = λ m v h. absurd (omega arith);
    }

-- a row with a recovery from disk of a times 2^24 ticks is at most each of its candidates
module _ (t : List ℕ) (m a : ℕ) (r : Recoveries) (is : r ≡ record { disk = unit * a; memory = column rm_start t m }) where
  abbrev row_at : ℕ → ℕ
  row_at = reach none m (arrival_at t r)

  whole_recovery : (u v q : ℕ) → stretch_of (entry_of t u v) r q ≤ (apart_in t).rest u v m q + (apart_in t).stopped u v * a
  unfolding stretch_of apart_in
  whole_recovery u v q =
      let k : ℕ = (entry_of t u v).both - (entry_of t u v).silent in
      rw is (omega (arith, up_cap {p = k * (unit * a)} (k * a) (omega arith)))

  row_candidate : (u v : ℕ) → m ≤ u → u < v → (chain_in t).allowed u v ≡ true
      → row_at v ≤ row_at u + (apart_in t).rest u v m (row_at u) + (apart_in t).stopped u v * a
  unfolding arrival_at chain_in
  row_candidate u v h l e =
      reach_lower none m (arrival_at t r) u v (row_at u) _ h l (omega arith) (omega arith)
      (λ _. rw e (omega (arith, whole_recovery u v (row_at u))))

  module _ (n : ℕ) (b q b' : List ℕ) (base : (bounds_in n b).base m ≡ a) (row : Row none m (arrival_at t r) (n + 1) q) (put : PutParts n b q m (n + 1) b') where
    part_is : (v : ℕ) → m < v → v ≤ n → (bounds_in n b').part m v ≡ row_at v
    part_is v h l = put.here v h (omega arith) ∙ row.times v (omega arith) (omega arith)

    base_same : (u : ℕ) → u < positions → (bounds_in n b').base u ≡ (bounds_in n b).base u
    unfolding bounds_in
    base_same u h = put.columns (base_start + u) (omega arith)

    time_same : (u : ℕ) → u < positions → (bounds_in n b').time u ≡ (bounds_in n b).time u
    unfolding bounds_in
    time_same u h = put.columns (time_start + u) (omega arith)

    risk_same : (u : ℕ) → u < positions → (bounds_in n b').risk u ≡ (bounds_in n b).risk u
    unfolding bounds_in
    risk_same u h = put.columns (risk_start + u) (omega arith)

    parts_next : n < positions → Parts m n t b → Parts (m + 1) n t b'
    parts_next few p =
        record {
          long = omega (arith, put.long, p.long);
          first = λ k v h l x e. first k v h l x e (ℕ_discrete k m);
          step = λ k u v h i l x e. step k u v h i l x e (ℕ_discrete k m);
          range = λ k v h l x. range k v h l x (ℕ_discrete k m);
        }
      where
        first : (k v : ℕ) → k < m + 1 → k < v → v ≤ n → (chain_in t).allowed k v ≡ true → Dec (k ≡ m)
            → (bounds_in n b').part k v ≤ (apart_in t).rest k v k 0 + (apart_in t).stopped k v * (bounds_in n b').base k
        first k v h l x e (yes i) =
            let e' = rw i at e in
            rw (i, part_is v (omega arith) x, base_same m (omega arith), base)
            (omega (arith, rw (reach_start none m (arrival_at t r)) at (row_candidate m v (omega arith) (omega arith) e')))
        first k v h l x e (no i) = rw (put.others k v i l (omega arith), base_same k (omega arith)) (p.first k v (omega arith) l x e)

        step : (k u v : ℕ) → k < m + 1 → k < u → u < v → v ≤ n → (chain_in t).allowed u v ≡ true → Dec (k ≡ m)
            → (bounds_in n b').part k v ≤ (bounds_in n b').part k u + (apart_in t).rest u v k ((bounds_in n b').part k u) + (apart_in t).stopped u v * (bounds_in n b').base k
        step k u v h i l x e (yes j) =
            rw (j, part_is v (omega arith) x, part_is u (omega arith) (omega arith), base_same m (omega arith), base) (row_candidate u v (omega arith) l e)
        step k u v h i l x e (no j) =
            rw (put.others k v j (omega arith) (omega arith), put.others k u j i (omega arith), base_same k (omega arith)) (p.step k u v (omega arith) i l x e)

        range : (k v : ℕ) → k < m + 1 → k < v → v ≤ n → Dec (k ≡ m) → (bounds_in n b').part k v ≤ none
        range k v h l x (yes i) = rw (i, part_is v (omega arith) x) (reach_cap none m (arrival_at t r) v)
        range k v h l x (no i) = rw (put.others k v i l (omega arith)) (p.range k v (omega arith) l x)

    -- what was filled before stays, and the parts from m are filled
    pub filled_part : n < positions → m < n → Filled m (m + 1) n t b → Filled (m + 1) (m + 1) n t b'
    unfolding disk_in least_disk
    filled_part few l f =
        record {
          parts = parts_next few f.parts;
          steps =
              record {
                times = λ u v h k. rw (time_same v (omega arith), time_same u (omega arith), part u v h k) (f.steps.times u v h k);
                risks = λ u v h k e. rw (risk_same v (omega arith), risk_same u (omega arith)) (f.steps.risks u v h k e);
                time_range = λ v k. rw (time_same v (omega arith)) (f.steps.time_range v k);
                risk_range = λ v k. rw (risk_same v (omega arith)) (f.steps.risk_range v k);
              };
          bases = record { low = λ d u h k. rw (base_same u (omega arith), time_same u (omega arith), time_same d (omega arith)) (f.bases.low d u h k) };
        }
      where
        part : (u v : ℕ) → u < v → v < m + 1 → (bounds_in n b').part u v ≡ (bounds_in n b).part u v
        part u v h k = put.others u v (λ e. omega arith) h (omega arith)

-- G(y_s + y_f) - G(y_s) of a stretch, where it is not allowed and where it is
module _ (t : List ℕ) (u v : ℕ) (f : Factors) (is : f ≡ entry_of t u v) where
  pub stopped_none : f.both ≡ 0 → StoppedIs t u v none
  unfolding chain_in
  stopped_none e =
      record {
        value = λ a.
            let z : ◌≡◌ {A = ℕ} 0 1 = ap (λ (x : Bool). cond x 1 0) (rw (← is, eq-eqb f.both 0 e) at a) in
            absurd (omega (arith, z));
        range = omega arith;
      }

  pub stopped_some : Factored f → StoppedIs t u v (f.both - f.silent)
  unfolding apart_in
  stopped_some g = record { value = λ _. rw is; range = omega (arith, g.cap) }

-- nothing is filled but what the start has
pub filled_first : (n : ℕ) (t b : List ℕ) → bounds_needed n ≤ length b → Filled 0 1 n t (set (set (set b time_start 0) risk_start 0) base_start 0)
unfolding bounds_in disk_in least_disk
filled_first n t b long =
    record {
      parts = parts_first n t b' (omega (arith, long, length-set (set (set b time_start 0) risk_start 0) base_start 0, length-set (set b time_start 0) risk_start 0, length-set b time_start 0));
      steps =
          record {
            times = λ u v h l. absurd (omega arith);
            risks = λ u v h l. absurd (omega arith);
            time_range = λ v h. let e : v ≡ 0 = omega arith in rw e (omega (arith, time));
            risk_range = λ v h. let e : v ≡ 0 = omega arith in rw e (omega (arith, risk));
          };
      bases = record { low = λ d u h l. let e : u ≡ 0 = omega arith in rw (e, base) (omega arith) };
    }
  where
    b' : List ℕ
    b' = set (set (set b time_start 0) risk_start 0) base_start 0

    time : get_or b' (time_start + 0) 0 ≡ 0
    time =
        get_or-set_other (set (set b time_start 0) risk_start 0) base_start (time_start + 0) 0 0 (λ e. omega arith)
        ∙ get_or-set_other (set b time_start 0) risk_start (time_start + 0) 0 0 (λ e. omega arith)
        ∙ get_or-set_same b time_start 0 0 (omega (arith, long))

    risk : get_or b' (risk_start + 0) 0 ≡ 0
    risk =
        get_or-set_other (set (set b time_start 0) risk_start 0) base_start (risk_start + 0) 0 0 (λ e. omega arith)
        ∙ get_or-set_same (set b time_start 0) risk_start 0 0 (omega (arith, length-set b time_start 0, long))

    base : get_or b' (base_start + 0) 0 ≡ 0
    base =
        get_or-set_same (set (set b time_start 0) risk_start 0) base_start 0 0
        (omega (arith, length-set (set b time_start 0) risk_start 0, length-set b time_start 0, long))

-- the time and risk of v
abbrev put_two : (b : List ℕ) (v x y : ℕ) → List ℕ
put_two b v x y = set (set b (time_start + v) x) (risk_start + v) y

module _ (n : ℕ) (b : List ℕ) (v x y : ℕ) (long : bounds_needed n ≤ length b) (few : v < positions) where
  pub two_long : length (put_two b v x y) ≡ length b
  two_long = length-set (set b (time_start + v) x) (risk_start + v) y ∙ length-set b (time_start + v) x

  pub time_here : (bounds_in n (put_two b v x y)).time v ≡ x
  unfolding bounds_in
  time_here =
      get_or-set_other (set b (time_start + v) x) (risk_start + v) (time_start + v) y 0 (λ e. omega arith) ∙ get_or-set_same b (time_start + v) x 0 (omega (arith, long))

-- and its base
module _ (n : ℕ) (t b : List ℕ) (v x y z : ℕ) (long : bounds_needed n ≤ length b) (few : v < positions) where
  abbrev two : List ℕ
  two = put_two b v x y

  abbrev put_step : List ℕ
  put_step = set two (base_start + v) z

  step_long : length put_step ≡ length b
  step_long = length-set two (base_start + v) z ∙ two_long n b v x y long few

  elsewhere : (i : ℕ) → i ≢ time_start + v → i ≢ risk_start + v → i ≢ base_start + v → get_or put_step i 0 ≡ get_or b i 0
  elsewhere i h k l =
      get_or-set_other two (base_start + v) i z 0 l
      ∙ get_or-set_other (set b (time_start + v) x) (risk_start + v) i y 0 k
      ∙ get_or-set_other b (time_start + v) i x 0 h

  step_part : (u w : ℕ) → (bounds_in n put_step).part u w ≡ (bounds_in n b).part u w
  unfolding bounds_in
  step_part u w = elsewhere (square_at n w u) (λ e. omega arith) (λ e. omega arith) (λ e. omega arith)

  step_time : (w : ℕ) → w < positions → w ≢ v → (bounds_in n put_step).time w ≡ (bounds_in n b).time w
  unfolding bounds_in
  step_time w h n = elsewhere (time_start + w) (λ e. n (omega arith)) (λ e. omega arith) (λ e. omega arith)

  step_risk : (w : ℕ) → w < positions → w ≢ v → (bounds_in n put_step).risk w ≡ (bounds_in n b).risk w
  unfolding bounds_in
  step_risk w h n = elsewhere (risk_start + w) (λ e. omega arith) (λ e. n (omega arith)) (λ e. omega arith)

  step_base : (w : ℕ) → w < positions → w ≢ v → (bounds_in n put_step).base w ≡ (bounds_in n b).base w
  unfolding bounds_in
  step_base w h n = elsewhere (base_start + w) (λ e. omega arith) (λ e. omega arith) (λ e. n (omega arith))

  -- the base is found with the time of v in its place
  two_time : (w : ℕ) → w < positions → (bounds_in n put_step).time w ≡ (bounds_in n two).time w
  two_time w h = time_kept n two (base_start + v) z w (λ e. omega arith)

  risk_here : (bounds_in n put_step).risk v ≡ y
  unfolding bounds_in
  risk_here =
      get_or-set_other two (base_start + v) (risk_start + v) z 0 (λ e. omega arith)
      ∙ get_or-set_same (set b (time_start + v) x) (risk_start + v) y 0 (omega (arith, length-set b (time_start + v) x, long))

  base_here : (bounds_in n put_step).base v ≡ z
  unfolding bounds_in
  base_here = get_or-set_same two (base_start + v) z 0 (omega (arith, two_long n b v x y long few, long))

  steps_next : LeastTime n b t v x → LeastRisk b t v y → Steps v n t b → Steps (v + 1) n t put_step
  steps_next time risk s =
      record {
        times = λ u w h l. times u w h l (ℕ_discrete w v);
        risks = λ u w h l a. risks u w h l a (ℕ_discrete w v);
        time_range = λ w l. time_range w l (ℕ_discrete w v);
        risk_range = λ w l. risk_range w l (ℕ_discrete w v);
      }
    where
      times : (u w : ℕ) → u < w → w < v + 1 → Dec (w ≡ v) → (bounds_in n put_step).time w ≤ (bounds_in n put_step).time u + (bounds_in n put_step).part u w + column cm_start t w
      times u w h l (yes i) =
          rw (i, two_time v few, time_here n b v x y long few, step_time u (omega arith) (λ e. omega arith), step_part u v) (time.least u (omega arith))
      times u w h l (no i) =
          rw (step_time w (omega arith) i, step_time u (omega arith) (λ e. omega arith), step_part u w) (s.times u w h (omega arith))

      risks : (u w : ℕ) → u < w → w < v + 1 → (chain_in t).allowed u w ≡ true → Dec (w ≡ v) → (bounds_in n put_step).risk w ≤ (bounds_in n put_step).risk u + (apart_in t).stopped u w
      risks u w h l a (yes i) =
          let a' = rw i at a in
          rw (i, risk_here, step_risk u (omega arith) (λ e. omega arith)) (risk.least n u (omega arith) a')
      risks u w h l a (no i) = rw (step_risk w (omega arith) i, step_risk u (omega arith) (λ e. omega arith)) (s.risks u w h (omega arith) a)

      time_range : (w : ℕ) → w < v + 1 → Dec (w ≡ v) → (bounds_in n put_step).time w ≤ none
      time_range w l (yes i) = rw (i, two_time v few, time_here n b v x y long few) time.range
      time_range w l (no i) = rw (step_time w (omega arith) i) (s.time_range w (omega arith))

      risk_range : (w : ℕ) → w < v + 1 → Dec (w ≡ v) → (bounds_in n put_step).risk w ≤ none
      risk_range w l (yes i) = rw (i, risk_here) risk.range
      risk_range w l (no i) = rw (step_risk w (omega arith) i) (s.risk_range w (omega arith))

  bases_next : LeastBase two t v z → Bases v n t b → Bases (v + 1) n t put_step
  unfolding disk_in least_disk
  bases_next base s = record { low = λ d u h l. low d u h l (ℕ_discrete u v) }
    where
      low : (d u : ℕ) → d ≤ u → u < v + 1 → Dec (u ≡ v) → unit * (bounds_in n put_step).base u ≤ (apart_in t).rd d + ((bounds_in n put_step).time u - (bounds_in n put_step).time d)
      low d u h l (yes i) = rw (i, base_here, two_time v few, two_time d (omega arith)) (base.least n d (omega arith))
      low d u h l (no i) =
          rw (step_base u (omega arith) i, step_time u (omega arith) i, step_time d (omega arith) (λ e. omega arith)) (s.low d u h (omega arith))

  parts_kept : n < positions → Parts v n t b → Parts v n t put_step
  parts_kept less p =
      record {
        long = omega (arith, long, step_long);
        first = λ m w k l h a. rw (step_part m w, step_base m (omega arith) (λ e. omega arith)) (p.first m w k l h a);
        step =
            λ m u w k j l h a.
            rw (step_part m w, step_part m u, step_base m (omega arith) (λ e. omega arith))
            (p.step m u w k j l h a);
        range = λ m w k l h. rw (step_part m w) (p.range m w k l h);
      }

-- so all of it
pub filled_step : (n v : ℕ) (t b b' : List ℕ) → n < positions → v < positions → StepPut n b t v b' → Filled v v n t b → Filled v (v + 1) n t b'
filled_step n v t b b' few less s f =
    rw s.put
    (record {
      parts = parts_kept n t b v s.time s.risk s.base long less few f.parts;
      steps = steps_next n t b v s.time s.risk s.base long less s.least_time s.least_risk f.steps;
      bases = bases_next n t b v s.time s.risk s.base long less s.least_base f.bases;
    })
  where
    long : bounds_needed n ≤ length b
    long = f.parts.long

-- the bases of a stage may be subtracted
pub bases_cap : (n e : ℕ) (t b : List ℕ) (u : ℕ) → Bounded n t → Bases e n t b → u ≤ n → u < e → unit * get_or b (base_start + u) 0 ≤ disk_recovery_cap
unfolding disk_in
bases_cap n e t b u bounded bases h l = base_cap n t b u (bases.low u u (omega arith) l) (bounded.rd u h)

-- no entry from `end` on and before e is a time
abbrev pub Past : (ahead : List ℕ) (end e : ℕ) → Type 0
Past ahead end e = (v : ℕ) → end ≤ v → v < e → none ≤ get_or ahead (2 * v) 0

-- b' has other bounds than b in the column of u alone
pub record Kept (n u : ℕ) (b b' : List ℕ) : Type 0 where
  pub long : length b' ≡ length b
  pub parts : (x y : ℕ) → x < y → y ≤ n → (bounds_in n b').part x y ≡ (bounds_in n b).part x y
  pub times : (x : ℕ) → x < positions → (bounds_in n b').time x ≡ (bounds_in n b).time x
  pub risks : (x : ℕ) → x < positions → (bounds_in n b').risk x ≡ (bounds_in n b).risk x
  pub bases : (x : ℕ) → x < positions → (bounds_in n b').base x ≡ (bounds_in n b).base x
  pub afters : (d w : ℕ) → w ≤ n → w ≢ u → (bounds_in n b').after d w ≡ (bounds_in n b).after d w

-- a write of what comes after u with the last disk copy d
module _ (n : ℕ) (b : List ℕ) (d u x : ℕ) (h : d ≤ u) (in-square : u ≤ n) (few : n < positions) where
  abbrev put_after : List ℕ
  put_after = set b (square_at n d u) x

  pub kept_put : Kept n u b put_after
  kept_put =
      record {
        long = length-set b (square_at n d u) x;
        parts = λ y z k l. part_kept n b (square_at n d u) x y z (λ e. let s = square_apart n d u z y in-square (omega arith) e in omega (arith, s.0, s.1));
        times = λ y k. time_kept n b (square_at n d u) x y (λ e. omega arith);
        risks = λ y k. risk_kept n b (square_at n d u) x y (λ e. omega arith);
        bases = λ y k. base_kept n b (square_at n d u) x y (λ e. omega arith);
        afters = λ e w l n'. after_kept n b (square_at n d u) x e w (λ i. n' (sym (square_apart n d u e w in-square l i).1));
      }

  pub after_other : (e : ℕ) → e ≢ d → (bounds_in n put_after).after e u ≡ (bounds_in n b).after e u
  after_other e n' = after_kept n b (square_at n d u) x e u (λ i. n' (sym (square_apart n d u e u in-square in-square i).0))

  pub after_here : bounds_needed n ≤ length b → (bounds_in n put_after).after d u ≡ x
  unfolding bounds_in
  after_here long = get_or-set_same b (square_at n d u) x 0 (omega (arith, long, square_within n d u (omega arith) in-square))

module _ (u n : ℕ) (t b b' : List ℕ) (kept : Kept n u b b') (few : n < positions) where
  part_low_kept : (w x v : ℕ) → w < v → v ≤ n → part_low (chain_in t) (bounds_in n b') w x v ≡ part_low (chain_in t) (bounds_in n b) w x v
  unfolding part_low slope
  part_low_kept w x v h l = rw (kept.parts w v h (omega arith), kept.risks v (omega arith), kept.risks w (omega arith))

  since_kept : (d w : ℕ) → d ≤ n → w ≤ n → since n t b' d w ≡ since n t b d w
  unfolding since disk_in least_disk
  since_kept d w h l = rw (kept.times w (omega arith), kept.times d (omega arith), kept.bases w (omega arith))

  -- what comes after w with the last disk copy d, where both columns are kept or known
  after_same : (d w : ℕ) → d ≤ w → w ≤ n → u ≤ w → (bounds_in n b').after d w ≡ (bounds_in n b).after d w → (bounds_in n b').after w w ≡ (bounds_in n b).after w w
      → After n t b d w → After n t b' d w
  after_same d w h l k e i a =
      record {
        next =
            λ v x y.
            rw (e, since_kept d w (omega arith) l, part_low_kept w (since n t b d w) v x y, kept.afters d v (omega arith) (λ z. omega arith)) (a.next v x y);
        disk = λ x. rw (e, i) (a.disk x);
        range = rw e a.range;
      }

  pub stage_kept : Stage (u + 1) n t b → Stage (u + 1) n t b'
  unfolding disk_in least_disk
  stage_kept s =
      record {
        filled = filled_kept s.filled;
        afters =
            λ d w k l y.
            after_same d w k y (omega arith) (kept.afters d w (omega arith) (λ z. omega arith)) (kept.afters w w (omega arith) (λ z. omega arith))
            (s.afters d w k l y);
        end = λ h. rw (kept.afters n n (omega arith) (λ z. omega arith)) (s.end h);
      }
    where
      part : (x y : ℕ) → x < y → y ≤ n → (bounds_in n b').part x y ≡ (bounds_in n b).part x y
      part x y h l = kept.parts x y h (omega arith)

      filled_kept : Filled n (n + 1) n t b → Filled n (n + 1) n t b'
      filled_kept f =
          record {
            parts =
                record {
                  long = omega (arith, kept.long, f.parts.long);
                  first = λ m v k l y a. rw (part m v l y, kept.bases m (omega arith)) (f.parts.first m v k l y a);
                  step = λ m w v k j l y a. rw (part m v (omega arith) y, part m w j (omega arith), kept.bases m (omega arith)) (f.parts.step m w v k j l y a);
                  range = λ m v k l y. rw (part m v l y) (f.parts.range m v k l y);
                };
            steps =
                record {
                  times = λ w v k l. rw (kept.times v (omega arith), kept.times w (omega arith), part w v k (omega arith)) (f.steps.times w v k l);
                  risks = λ w v k l a. rw (kept.risks v (omega arith), kept.risks w (omega arith)) (f.steps.risks w v k l a);
                  time_range = λ v k. rw (kept.times v (omega arith)) (f.steps.time_range v k);
                  risk_range = λ v k. rw (kept.risks v (omega arith)) (f.steps.risk_range v k);
                };
            bases =
                record {
                  low = λ d w k l. rw (kept.bases w (omega arith), kept.times w (omega arith), kept.times d (omega arith)) (f.bases.low d w k l);
                };
          }

  pub looked_kept : (end : ℕ) (ahead : List ℕ) → Looked b t u end n ahead → Looked b' t u end n ahead
  unfolding slope
  looked_kept end ahead a =
      record {
        entries =
            record {
              long = a.entries.long;
              parts = λ v h l. a.entries.parts v h l ∙ rw (kept.parts u v h (omega arith));
              slopes = λ v h l. a.entries.slopes v h l ∙ rw (kept.risks v (omega arith), kept.risks u (omega arith));
            };
        from = a.from;
        to = a.to;
        past = a.past;
      }

-- a least over what lies ahead is at most each candidate
pub after_candidate : (ahead b t : List ℕ) (d x u end n r : ℕ) → Looked b t u end n ahead → LeastAfter n ahead b d x u end r
    → (v : ℕ) → u < v → v ≤ n → r ≤ part_low (chain_in t) (bounds_in n b) u x v + (bounds_in n b).after d v
unfolding part_low chain_in
after_candidate ahead b t d x u end n r a l v h k = go (dec_lt v end)
  where
    go : Dec (v < end) → r ≤ (bounds_in n b).part u v + up (slope (bounds_in n b) u v * x) + column cm_start t v + (bounds_in n b).after d v
    go (yes i) =
        let e = rw (a.entries.parts v h (omega arith), a.entries.slopes v h (omega arith)) at (l.least v h i) in
        omega (arith, e)
    go (no i) = omega (arith, l.range, rw (a.entries.parts v h (omega arith)) at (a.past v (omega arith) k))

module _ (u n : ℕ) (t : List ℕ) (l : u ≤ n) (few : n < positions) where
  -- u itself
  pub column_first : (b : List ℕ) (x : ℕ) → Stage (u + 1) n t b → OwnIs b t u n x → Column 0 u n t (set b (square_at n u u) x)
  column_first b x s o =
      record {
        stage = stage_kept u n t b (put_after n b u u x (omega arith) l few) kept few s;
        own =
            record {
              next = λ v h k.
                  rw (
                    here,
                    since_kept u n t b (put_after n b u u x (omega arith) l few) kept few u u l l,
                    part_low_kept u n t b (put_after n b u u x (omega arith) l few) kept few u (since n t b u u) v h k,
                    kept.afters u v (omega arith) (λ z. omega arith),
                  )
                  (o.least v h k);
              disk = λ h. absurd (omega arith);
              range = rw here o.range;
            };
        own_end = λ e. rw here (o.end e);
        others = λ d h. absurd (omega arith);
      }
    where
      kept : Kept n u b (set b (square_at n u u) x)
      kept = kept_put n b u u x (omega arith) l few

      here : (bounds_in n (set b (square_at n u u) x)).after u u ≡ x
      here = after_here n b u u x (omega arith) l few s.filled.parts.long

  -- one disk copy more
  pub column_next : (ahead b : List ℕ) (end k y : ℕ) → k < u → Column k u n t b → Looked b t u end n ahead → LeastAfter n ahead b k (since n t b k u) u end y
      → Column (k + 1) u n t (set b (square_at n k u) (min (column cd_start t u + (bounds_in n b).after u u) y))
  column_next ahead b end k y h c a least =
      record {
        stage = stage_kept u n t b b' kept few c.stage;
        own = after_same u n t b b' kept few u u (omega arith) l (omega arith) own own c.own;
        own_end = λ e. rw own (c.own_end e);
        others = λ d i. at d i (ℕ_discrete d k);
      }
    where
      x : ℕ
      x = min (column cd_start t u + (bounds_in n b).after u u) y

      b' : List ℕ
      b' = set b (square_at n k u) x

      kept : Kept n u b b'
      kept = kept_put n b k u x (omega arith) l few

      own : (bounds_in n b').after u u ≡ (bounds_in n b).after u u
      own = after_other n b k u x (omega arith) l few u (λ e. omega arith)

      here : (bounds_in n b').after k u ≡ x
      here = after_here n b k u x (omega arith) l few c.stage.filled.parts.long

      at : (d : ℕ) → d < k + 1 → Dec (d ≡ k) → After n t b' d u
      at d i (yes e) =
          rw e
          (record {
            next = λ v j m.
                rw (
                  here,
                  since_kept u n t b b' kept few k u (omega arith) l,
                  part_low_kept u n t b b' kept few u (since n t b k u) v j m,
                  kept.afters k v (omega arith) (λ z. omega arith),
                )
                (omega (arith, after_candidate ahead b t k (since n t b k u) u end n y a least v j m));
            disk = λ j. rw (here, own) (omega arith);
            range = rw here (omega (arith, least.range));
          })
      at d i (no e) =
          after_same u n t b b' kept few d u (omega arith) l (omega arith) (after_other n b k u x (omega arith) l few d e) own (c.others d (omega arith))

-- a least over what lies ahead may be taken
pub after_ready : (ahead b t : List ℕ) (d x u end n : ℕ) → ReadyForOwn ahead b t u end n → d ≤ u → x ≤ disk_cap → ReadyForAfter n ahead b d x u end
after_ready ahead b t d x u end n r h l =
    record {
      ahead_long = ahead_is.long;
      long = r.stage.filled.parts.long;
      disk = omega (arith, r.start);
      start = r.looked.from;
      within = r.looked.to;
      few = r.bounded.few;
      recovery = l;
      parts =
          λ v k m.
          let l : v ≤ n = omega (arith, within v m) in
          rw (ahead_is.parts v k (within v m)) (omega (arith, r.stage.filled.parts.range u v (omega arith) k l, r.bounded.cm v l));
      slopes = λ v k m. rw (ahead_is.slopes v k (within v m)) (slope_cap_lem (bounds_in n b) u v x l);
      afters = λ v k m. (r.stage.afters d v (omega arith) (omega arith) (omega (arith, within v m))).range;
    }
  where
    ahead_is : Ahead n b t u (n + 1) ahead
    ahead_is = r.looked.entries

    within : (v : ℕ) → v < end → v < n + 1
    within v m = omega (arith, r.looked.to)

pub since_ready : (ahead b t : List ℕ) (d u end n : ℕ) → ReadyForOwn ahead b t u end n → d ≤ u → ReadyForSince b t d u
since_ready ahead b t d u end n r h =
    record {
      disk =
          record {
            fit = record {
              long = omega (arith, r.stage.filled.parts.long);
              near = omega (arith, r.start, r.bounded.few);
              far = omega (arith, r.start, r.bounded.few);
            };
            table_long = omega (arith, r.bounded.long);
            recovery = r.bounded.rd d (omega (arith, r.start));
            time = time_entry n b u (r.stage.filled.steps.time_range u (omega (arith, r.start)));
          };
      base = bases_cap n (n + 1) t b u r.bounded r.stage.filled.bases r.start (omega (arith, r.start));
    }

-- the last stage has all bounds
pub bounds_filled : (n : ℕ) (t b : List ℕ) → n < positions → Stage 0 n t b → BoundsOf n t b
unfolding chain_in apart_in since disk_in
bounds_filled n t b few s =
    record {
      bounding =
          record {
            long = s.filled.parts.long;
            within = omega arith;
            few = few;
            below =
                record {
                  base_low = λ d u h l. s.filled.bases.low d u h (omega arith);
                  part_first = λ m v h l a. s.filled.parts.first m v (omega arith) h l a;
                  part_step = λ m u v h i l a. s.filled.parts.step m u v (omega arith) h i l a;
                  time_step = λ u v h l. s.filled.steps.times u v h (omega arith);
                  risk_step = λ u v h l a. s.filled.steps.risks u v h (omega arith) a;
                  after_next = λ d u v h l k. (s.afters d u h (omega arith) (omega arith)).next v l k;
                  after_disk = λ d u h l. (s.afters d u (omega arith) (omega arith) l).disk h;
                };
            parts = λ u v h l. s.filled.parts.range u v (omega arith) h l;
            times = λ v h. s.filled.steps.time_range v (omega arith);
            afters = λ d u h l. (s.afters d u h (omega arith) l).range;
          };
      ends = s.end (omega arith);
    }

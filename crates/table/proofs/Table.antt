-- The table entry by entry: what is put is there, and nothing else has changed; and the chain that the table holds. Assumes nothing.
use Prim.Native.Nat.{ℕ, zero, suc, ◌+◌, ◌*◌, ◌/◌, ◌%◌, ◌≤◌, ◌<◌}
use mathlib.Core.Path.{◌≡◌, refl, ◌∙◌}
use mathlib.Core.Logic.{◌≢◌, ◌⊎◌, inl, inr}
use mathlib.Core.List.{List, [], ◌∷◌}
use native.Mathlib.Decide.{dec_lt, ℕ_discrete}
use native.Mathlib.Nat.{le_trans}
use native.Mathlib.Omega.{arith}
use borrow.Author.Tests.{eq-eqb, ne_eqb}
use lib.ListN.{length, get_or, set, take, drop, length-set, length-drop}
use lib.Seq.{get_or-set_same, get_or-set_other, get_or-take, get_or-drop, length-take-le}
use Rattle.units.specs.Limits.{none}
use Rattle.chain.specs.Working.Factors.{stretch_of}
use Rattle.chain.specs.declared.Factors.{Factors}
use Rattle.chain.specs.declared.Recoveries.{Recoveries}
use Rattle.units.specs.Limits.{positions}
use Rattle.table.specs.Working.Table.{half, first_start, pairs_start, pair_entries, pair_index, pair_at, entry_of, column, arrival_at, IsPair, PairFits, put, put_pair, Bounded, Firsts, FirstIs, FirstsPut}
use Rattle.table.proofs.Pairs.{needed_less, pair_within, pair_apart}

-- pair_values put from a place on
pub length_put : (t : List ℕ) (i : ℕ) (xs : List ℕ) → length (put t i xs) ≡ length t
unfolding put
length_put t i [] = refl
length_put t i (x ∷ xs) = length_put (set t i x) (i + 1) xs ∙ length-set t i x

put_before : (t : List ℕ) (i : ℕ) (xs : List ℕ) (j : ℕ) → j < i → get_or (put t i xs) j 0 ≡ get_or t j 0
unfolding put
put_before t i [] j h = refl
put_before t i (x ∷ xs) j h = put_before (set t i x) (i + 1) xs j (omega arith) ∙ get_or-set_other t i j x 0 (λ e. omega arith)

put_after : (t : List ℕ) (i : ℕ) (xs : List ℕ) (j : ℕ) → i + length xs ≤ j → get_or (put t i xs) j 0 ≡ get_or t j 0
unfolding put
put_after t i [] j h = refl
put_after t i (x ∷ xs) j h = put_after (set t i x) (i + 1) xs j (omega arith) ∙ get_or-set_other t i j x 0 (λ e. omega arith)

put_at_lem : (t : List ℕ) (i : ℕ) (xs : List ℕ) (k : ℕ) → k < length xs → i + length xs ≤ length t → get_or (put t i xs) (i + k) 0 ≡ get_or xs k 0
unfolding put
put_at_lem t i [] k h l = absurd (omega arith)
put_at_lem t i (x ∷ xs) zero h l =
    let e : i + 0 ≡ i = omega arith in
    rw e (put_before (set t i x) (i + 1) xs i (omega arith) ∙ get_or-set_same t i x 0 (omega arith))
put_at_lem t i (x ∷ xs) (suc k) h l =
    let e : i + suc k ≡ i + 1 + k = omega arith in
    rw e (put_at_lem (set t i x) (i + 1) xs k (omega arith) (omega (arith, length-set t i x)))

-- a number from its halves
halves : (w : ℕ) → w % half + half * (w / half) ≡ w
halves w = omega arith

module _ (t : List ℕ) (u v : ℕ) (f : Factors) (fits : PairFits t u v) where
  abbrev pair_values : List ℕ
  pair_values = f.work % half ∷ f.work / half ∷ f.silent ∷ f.both ∷ []

  room : pair_at u v + length pair_values ≤ length t
  room = omega (arith, fits.long, pair_within u v fits.pair)

  pub length_put_pair : length (put_pair t u v f) ≡ length t
  unfolding put_pair
  length_put_pair = length_put t (pair_at u v) pair_values

  -- an entry that is not of this pair
  put_pair_other : (i : ℕ) → (i < pair_at u v) ⊎ (pair_at u v + pair_entries ≤ i) → get_or (put_pair t u v f) i 0 ≡ get_or t i 0
  unfolding put_pair
  put_pair_other i (inl h) = put_before t (pair_at u v) pair_values i h
  put_pair_other i (inr h) = put_after t (pair_at u v) pair_values i h

  put_pair_at : (k : ℕ) → k < pair_entries → get_or (put_pair t u v f) (pair_at u v + k) 0 ≡ get_or pair_values k 0
  unfolding put_pair
  put_pair_at k h = put_at_lem t (pair_at u v) pair_values k h room

  -- the pair has its factors
  pub put_pair_here : entry_of (put_pair t u v f) u v ≡ f
  unfolding entry_of
  put_pair_here =
      rw (first_at, put_pair_at 1 (omega arith), put_pair_at 2 (omega arith), put_pair_at 3 (omega arith), halves f.work)
    where
      first_at : get_or (put_pair t u v f) (pair_at u v) 0 ≡ f.work % half
      first_at = let e : pair_at u v + 0 ≡ pair_at u v = omega arith in rw e at (put_pair_at 0 (omega arith))

  -- every other pair stays
  pub put_pair_apart : (x y : ℕ) → IsPair x y → (x ≡ u → y ≡ v → ⊥) → entry_of (put_pair t u v f) x y ≡ entry_of t x y
  unfolding entry_of
  put_pair_apart x y q n =
      let first : get_or (put_pair t u v f) (pair_at x y) 0 ≡ get_or t (pair_at x y) 0 = rw none at (other 0 (omega arith)) in
      rw (first, other 1 (omega arith), other 2 (omega arith), other 3 (omega arith))
    where
      none : pair_at x y + 0 ≡ pair_at x y
      none = omega arith

      side : Dec (pair_index x y < pair_index u v) → Dec (pair_index u v < pair_index x y) → (k : ℕ) → k < pair_entries
          → (pair_at x y + k < pair_at u v) ⊎ (pair_at u v + pair_entries ≤ pair_at x y + k)
      side (yes a) b k h = inl (omega arith)
      side (no a) (yes b) k h = inr (omega arith)
      side (no a) (no b) k h = let r = pair_apart x y u v q fits.pair (omega arith) in absurd (n r.0 r.1)

      other : (k : ℕ) → k < pair_entries → get_or (put_pair t u v f) (pair_at x y + k) 0 ≡ get_or t (pair_at x y + k) 0
      other k h = put_pair_other (pair_at x y + k) (side (dec_lt (pair_index x y) (pair_index u v)) (dec_lt (pair_index u v) (pair_index x y)) k h)

-- one entry of a column
module _ (t : List ℕ) (i x : ℕ) where
  pub column_here : (start v : ℕ) → start + v ≡ i → i < length t → column start (set t i x) v ≡ x
  unfolding column
  column_here start v e h = rw e (get_or-set_same t i x 0 h)

  -- every other entry stays
  pub column_apart : (start v : ℕ) → start + v ≢ i → column start (set t i x) v ≡ column start t v
  unfolding column
  column_apart start v n = get_or-set_other t i (start + v) x 0 n

  pub column_entry : (u v : ℕ) → i < pairs_start → entry_of (set t i x) u v ≡ entry_of t u v
  unfolding entry_of
  column_entry u v h = rw (apart (pair_at u v) (omega arith), apart (pair_at u v + 1) (omega arith), apart (pair_at u v + 2) (omega arith), apart (pair_at u v + 3) (omega arith))
    where
      apart : (j : ℕ) → pairs_start ≤ j → get_or (set t i x) j 0 ≡ get_or t j 0
      apart j l = get_or-set_other t i j x 0 (λ e. omega arith)

-- a column as a part of the table
pub column_part : (start : ℕ) (t : List ℕ) (w : ℕ) → w < positions → get_or (take positions (drop start t)) w 0 ≡ column start t w
unfolding column
column_part start t w h = get_or-take positions (drop start t) w 0 h ∙ get_or-drop start t w 0

pub length_column : (start : ℕ) (t : List ℕ) → start + positions ≤ length t → length (take positions (drop start t)) ≡ positions
length_column start t h = length-take-le positions (drop start t) (omega (arith, length-drop start t))

-- a table that is bounded up to n is bounded up to any earlier position
pub bounded_less : (n v : ℕ) (t : List ℕ) → v ≤ n → Bounded n t → Bounded v t
bounded_less n v t h b =
    record {
      long = le_trans (needed_less v n h) b.long;
      few = omega (arith, b.few);
      factored = λ x y k l e. b.factored x y k (omega arith) e;
      cm = λ x k. b.cm x (omega arith);
      cd = λ x k. b.cd x (omega arith);
      rd = λ x k. b.rd x (omega arith);
      rm = λ x k. b.rm x (omega arith);
      firsts = record { within = λ x k. b.firsts.within x (omega arith); none_before = λ u x k l. b.firsts.none_before u x k (omega arith) };
    }

-- an arrival by the factors f that the table has for the stretch, where it is not allowed and where it is
module _ (t : List ℕ) (r : Recoveries) (u q v : ℕ) (f : Factors) (is : f ≡ entry_of t u v) where
  pub arrival_none : f.both ≡ 0 → arrival_at t r u q v ≡ none
  unfolding arrival_at
  arrival_none e = rw (← is, eq-eqb f.both 0 e)

  pub arrival_some : f.both ≢ 0 → (s : ℕ) → s ≡ stretch_of f r q → q + s ≡ arrival_at t r u q v
  unfolding arrival_at
  arrival_some e s h = rw (← is, ne_eqb f.both 0 e, h)

-- a stretch from before the first of v is not allowed
pub arrival_before : (t : List ℕ) (r : Recoveries) (u q v : ℕ) → (entry_of t u v).both ≡ 0 → arrival_at t r u q v ≡ none
unfolding arrival_at
arrival_before t r u q v e = rw (eq-eqb (entry_of t u v).both 0 e)

module _ (t : List ℕ) (e : ℕ) (t' : List ℕ) (put : FirstsPut t e t') where
  pub firsts_entry : (x y : ℕ) → entry_of t' x y ≡ entry_of t x y
  unfolding entry_of
  firsts_entry x y =
      let first = pair_at x y in
      rw (put.others first (inr (omega arith)), put.others (first + 1) (inr (omega arith)), put.others (first + 2) (inr (omega arith)), put.others (first + 3) (inr (omega arith)))

  pub firsts_column : (start : ℕ) → start + positions ≤ first_start → (v : ℕ) → v < positions → column start t' v ≡ column start t v
  unfolding column
  firsts_column start h v l = put.others (start + v) (inl (omega arith))

  -- the firsts of the table with its column of firsts
  pub firsts_put : (n : ℕ) → n < e → n < positions → Firsts n t'
  firsts_put n h few =
      record {
        within = λ v l. (put.firsts v (omega arith)).within;
        none_before = λ u v k l.
            let f = put.firsts v (omega arith) in
            rw (firsts_entry u v) (f.none_before u k);
      }

pub firsts_more : (t : List ℕ) (v : ℕ) (t' : List ℕ) (r : ℕ) → FirstsPut t v t' → pairs_start ≤ length t → v < positions → FirstIs t' v r
    → FirstsPut t (v + 1) (set t' (first_start + v) r)
unfolding column
firsts_more t v t' r put long few is =
    record {
      long = length-set t' (first_start + v) r ∙ put.long;
      others = λ i h. get_or-set_other t' (first_start + v) i r 0 (λ e. away i h e) ∙ put.others i h;
      firsts = λ w h. at w h (ℕ_discrete w v);
    }
  where
    away : (i : ℕ) → (i < first_start) ⊎ (pairs_start ≤ i) → i ≡ first_start + v → ⊥
    away i (inl l) e = omega arith
    away i (inr l) e = omega arith

    at : (w : ℕ) → w < v + 1 → Dec (w ≡ v) → FirstIs t w (column first_start (set t' (first_start + v) r) w)
    at w h (yes e) =
        rw (e, get_or-set_same t' (first_start + v) r 0 (omega (arith, put.long)))
        (record {
          within = is.within;
          none_before = λ u l. rw (← (firsts_entry t v t' put u v)) (is.none_before u l);
        })
    at w h (no e) = rw (get_or-set_other t' (first_start + v) (first_start + w) r 0 (λ z. e (omega arith))) (put.firsts w (omega arith))

pub first_none : (t : List ℕ) (v : ℕ) → FirstIs t v 0
first_none t v = record { within = omega arith; none_before = λ u h. absurd (omega arith) }

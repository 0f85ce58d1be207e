-- The table that holds a chain, in entries of 32 bits: a column for each cost, by position, and one for the first near end of a stretch to v that is allowed; then four
-- entries for each pair of positions u < v, the pairs of a far end together. So the table of a short chain is the front of a longer one's. `chain_in` is the chain that it
-- holds.
use Rattle.std.specs.Prelude.{ℕ, zero, suc, ◌+◌, ◌-◌, ◌*◌, ◌/◌, ◌%◌, ◌^◌, ◌≤◌, ◌<◌, ◌≡◌, ◌≢◌, ◌⊎◌, cond, not, List, [], ◌∷◌, eqb, length, get_or, set}
use Rattle.units.specs.Limits.{cost_limit, none}
use Rattle.chain.specs.Chain.{Chain}
use Rattle.chain.specs.Working.Search.{Cost}
use Rattle.chain.specs.Working.Factors.{stretch_of, Factored, Recoverable}
use Rattle.chain.specs.declared.Factors.{Factors}
use Rattle.chain.specs.declared.Recoveries.{Recoveries}
use Rattle.units.specs.Limits.{positions}

abbrev pub half : ℕ
half = 2 ^ 32

-- where each column starts
abbrev pub cm_start : ℕ
cm_start = 0

abbrev pub cd_start : ℕ
cd_start = cm_start + positions

abbrev pub rd_start : ℕ
rd_start = cd_start + positions

abbrev pub rm_start : ℕ
rm_start = rd_start + positions

abbrev pub first_start : ℕ
first_start = rm_start + positions

abbrev pub pairs_start : ℕ
pairs_start = first_start + positions

abbrev pub pair_entries : ℕ
pair_entries = 4

-- 0 + 1 + .. + (k - 1): the pairs of k positions
unfoldable pub triangle : ℕ → ℕ
triangle zero = 0
triangle (suc k) = triangle k + k

-- how long the table of n tasks is
abbrev pub needed : ℕ → ℕ
needed n = pairs_start + pair_entries * triangle (suc n)

-- as long as for the longest chain, in the way that the code works it out
abbrev pub table_length : ℕ
table_length = pairs_start + pair_entries * (positions * (positions - 1) / 2)

-- which pair (u, v) is: the pairs of a far end stand together
unfoldable pub pair_index : ℕ → ℕ → ℕ
pair_index u v = triangle v + u

-- where its entries start
abbrev pub pair_at : ℕ → ℕ → ℕ
pair_at u v = pairs_start + pair_entries * pair_index u v

-- the factors of the pair
unfoldable pub entry_of : List ℕ → ℕ → ℕ → Factors
entry_of t u v =
    record {
      work = get_or t (pair_at u v) 0 + half * get_or t (pair_at u v + 1) 0;
      silent = get_or t (pair_at u v + 2) 0;
      both = get_or t (pair_at u v + 3) 0;
    }

-- the cost of a column at a position
unfoldable pub column : ℕ → List ℕ → ℕ → ℕ
column start t v = get_or t (start + v) 0

-- the chain that the table holds: G(y_s + y_f) is 0 just where a stretch is not allowed
unfoldable pub chain_in : List ℕ → Chain
chain_in t =
    record {
      allowed = λ u v. not (eqb (entry_of t u v).both 0);
      S = λ u v m d Q' M'. stretch_of (entry_of t u v) (record { disk = column rd_start t d + M'; memory = column rm_start t m }) Q';
      cm = column cm_start t;
      cd = column cd_start t;
    }

-- the arrival at v from u, with time q there, by the table and the recoveries of the last copies
unfoldable pub arrival_at : List ℕ → Recoveries → Cost
arrival_at t r u q v = cond (not (eqb (entry_of t u v).both 0)) (q + stretch_of (entry_of t u v) r q) none

-- the most that R_D' may be
abbrev pub disk_recovery_cap : ℕ
disk_recovery_cap = 2 * cost_limit

-- for each v up to n: no stretch to v from a position before its first is allowed
pub record Firsts (n : ℕ) (t : List ℕ) : Type 0 where
  pub within : (v : ℕ) → v ≤ n → column first_start t v ≤ v
  pub none_before : (u v : ℕ) → u < column first_start t v → v ≤ n → (entry_of t u v).both ≡ 0

-- how far the numbers of the table may go, up to the position n
pub record Bounded (n : ℕ) (t : List ℕ) : Type 0 where
  pub long : needed n ≤ length t
  pub few : n < positions
  pub factored : (u v : ℕ) → u < v → v ≤ n → (entry_of t u v).both ≢ 0 → Factored (entry_of t u v)
  pub cm : (v : ℕ) → v ≤ n → column cm_start t v ≤ cost_limit
  pub cd : (v : ℕ) → v ≤ n → column cd_start t v ≤ cost_limit
  pub rd : (v : ℕ) → v ≤ n → column rd_start t v ≤ disk_recovery_cap
  pub rm : (v : ℕ) → v ≤ n → column rm_start t v ≤ cost_limit
  pub firsts : Firsts n t

-- two positions in order
pub record IsPair (u v : ℕ) : Type 0 where
  pub order : u < v
  pub few : v < positions

pub record InTable (u v r : ℕ) : Type 0 where
  pub value : r ≡ pair_index u v
  pub within : r < triangle (suc v)

pub record PairFits (t : List ℕ) (u v : ℕ) : Type 0 where
  pub long : needed v ≤ length t
  pub pair : IsPair u v

-- the table with these entries from i on
unfoldable pub put : List ℕ → ℕ → List ℕ → List ℕ
put t i [] = t
put t i (x ∷ xs) = put (set t i x) (i + 1) xs

-- the table with the factors f for the pair (u, v)
unfoldable pub put_pair : List ℕ → ℕ → ℕ → Factors → List ℕ
put_pair t u v f = put t (pair_at u v) (f.work % half ∷ f.work / half ∷ f.silent ∷ f.both ∷ [])

-- growth sums of 32 bits
pub record Packable (f : Factors) : Type 0 where
  pub silent : f.silent < half
  pub both : f.both < half

pub record ReadyForPair (t : List ℕ) (u v : ℕ) (f : Factors) : Type 0 where
  pub fits : PairFits t u v
  pub packable : Packable f

-- a place in the column that starts there
pub record InColumn (t : List ℕ) (start v : ℕ) : Type 0 where
  pub long : start + positions ≤ length t
  pub few : v < positions

pub record ReadyForColumn (t : List ℕ) (start v x : ℕ) : Type 0 where
  pub place : InColumn t start v
  pub range : x < half

-- r is v, or a position before it, and no stretch to v from before r is allowed
pub record FirstIs (t : List ℕ) (v r : ℕ) : Type 0 where
  pub within : r ≤ v
  pub none_before : (u : ℕ) → u < r → (entry_of t u v).both ≡ 0

-- the table t with the firsts of the positions before e, and else the same
pub record FirstsPut (t : List ℕ) (e : ℕ) (t' : List ℕ) : Type 0 where
  pub long : length t' ≡ length t
  pub others : (i : ℕ) → (i < first_start) ⊎ (pairs_start ≤ i) → get_or t' i 0 ≡ get_or t i 0
  pub firsts : (v : ℕ) → v < e → FirstIs t v (column first_start t' v)

pub record ReadyForFirsts (t : List ℕ) (n : ℕ) : Type 0 where
  pub long : needed n ≤ length t
  pub few : n < positions

-- the last copies d and m, with the time M' at m
pub record ReadyForRecoveries (t : List ℕ) (d m M' : ℕ) : Type 0 where
  pub long : pairs_start ≤ length t
  pub d_few : d < positions
  pub m_few : m < positions
  pub rd : column rd_start t d ≤ disk_recovery_cap
  pub rm : column rm_start t m ≤ cost_limit
  pub time : M' ≤ none

pub record RecoveriesIn (t : List ℕ) (d m M' : ℕ) (r : Recoveries) : Type 0 where
  pub value : r ≡ record { disk = column rd_start t d + M'; memory = column rm_start t m }
  pub range : Recoverable r

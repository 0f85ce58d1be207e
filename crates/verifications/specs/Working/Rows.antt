-- Rows of verifications: an entry for each position, the least time of arrival there, and what it means that a row has been filled.
use Rattle.std.specs.Prelude.{ℕ, ◌≤◌, ◌<◌, ◌≡◌, cond, List, ltb, length, get_or, set}
use Rattle.units.specs.Limits.{none}
use Rattle.chain.specs.Working.Search.{Cost, reach}
use Rattle.chain.specs.Working.Factors.{Recoverable}
use Rattle.chain.specs.declared.Recoveries.{Recoveries}
use Rattle.units.specs.Limits.{positions}
use Rattle.table.specs.Working.Table.{arrival_at, Bounded}

-- an arrival and what stands: the lesser time stays, and on a tie what stands
abbrev pub sooner : ℕ → ℕ → ℕ
sooner c t = cond (ltb c t) c t

-- the position that the lesser time comes from
abbrev pub sooner_from : (c t u b : ℕ) → ℕ
sooner_from c t u b = cond (ltb c t) u b

-- one arrival at v from u has been offered
pub record OfferMade (time backs : List ℕ) (v u c : ℕ) (time' backs' : List ℕ) : Type 0 where
  pub times : time' ≡ set time v (sooner c (get_or time v 0))
  pub froms : backs' ≡ set backs v (sooner_from c (get_or time v 0) u (get_or backs v 0))

-- the entries from b on and before e are the least times of arrival from b
pub record Row (N b : ℕ) (cost : Cost) (e : ℕ) (time : List ℕ) : Type 0 where
  pub long : length time ≡ positions
  pub times : (v : ℕ) → b ≤ v → v < e → get_or time v 0 ≡ reach N b cost v

-- no position from `end` on and before v is reached
abbrev pub Unreached : (b : ℕ) → Cost → (end v : ℕ) → Type 0
Unreached b cost end v = (u : ℕ) → end ≤ u → u < v → none ≤ reach none b cost u

-- r is v where the time is below none, and else the end so far
pub record EndIs (time v end r : ℕ) : Type 0 where
  pub some : time < none → r ≡ v
  pub no : none ≤ time → r ≡ end

-- What each function of the rows asks.
pub record ReadyToArrive (t : List ℕ) (r : Recoveries) (u q v : ℕ) : Type 0 where
  pub bounded : Bounded v t
  pub recoveries : Recoverable r
  pub order : u < v
  pub reached : q ≤ none

pub record ReadyToVerify (time t : List ℕ) (r : Recoveries) (m v : ℕ) : Type 0 where
  pub bounded : Bounded v t
  pub recoveries : Recoverable r
  pub order : m < v
  pub row : Row none m (arrival_at t r) v time

-- of the positions before v, none is reached from `end` on
pub record ReadyForLeast (time t : List ℕ) (r : Recoveries) (m end v : ℕ) : Type 0 where
  pub ready : ReadyToVerify time t r m v
  pub end_before : end ≤ v
  pub unreached : Unreached m (arrival_at t r) end v

pub record ReadyForRow (time t : List ℕ) (r : Recoveries) (m top : ℕ) : Type 0 where
  pub long : length time ≡ positions
  pub bounded : Bounded top t
  pub recoveries : Recoverable r
  pub start : m ≤ top

pub record ReadyToOffer (time backs : List ℕ) (v : ℕ) : Type 0 where
  pub time_room : v < length time
  pub back_room : v < length backs

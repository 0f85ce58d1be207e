-- `bounding::least_risk` meets its contract. The loop's invariant: `best` is at most each candidate before u. Assumes nothing.
use lib.ListN.{get_or}
use Prim.Native.Nat.{ℕ, ◌+◌, ◌≤◌}
use mathlib.Core.List.{List}
use mathlib.Core.Path.{◌≡◌}
use mathlib.Core.Bool.{true}
use Rattle.units.specs.Limits.{none}
use Rattle.bounds.specs.Working.Bounds.{apart_in, risk_start}
use Rattle.table.specs.Working.Table.{chain_in}
use Rattle.bounding.proofs.Bounds.{AtMost}
use Rattle.bounding.proofs.least_risk.Given as goal

-- the risk of v by u
abbrev pub candidate : (b t : List ℕ) → (v u : ℕ) → ℕ
candidate b t v u = get_or b (risk_start + u) 0 + (apart_in t).stopped u v

pub record Least (b t : List ℕ) (v best u : ℕ) : Type 0 where
  pub range : best ≤ none
  pub least : AtMost (λ w. (chain_in t).allowed w v ≡ true) (candidate b t v) u best

abbrev pub invariant-loop-u : goal.invariant-loop-u
invariant-loop-u l = Least l.b l.t l.v l.best l.u

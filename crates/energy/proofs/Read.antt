-- The powers that the program reads, of any number of digits: it hands on at most 64 bits of each, and the planner's answer is that for the numbers themselves.
-- Assumes nothing.
use Prim.Native.Nat.{ℕ, ◌≤◌}
use mathlib.Core.List.{List}
use mathlib.Core.Logic.{inl, inr}
use native.Mathlib.Decide.{dec_le}
use native.Mathlib.Omega.{arith}
use Rattle.refusals.specs.declared.Answer.{Answer}
use Rattle.costs.specs.declared.Powers.{Powers}
use Rattle.planning.specs.Energy.{PlansByEnergy, SamePower}
use Rattle.planning.proofs.ByEnergy.{wide_powers}
use Rattle.numerals.specs.Digits.{word_most, in_word}
use Rattle.numerals.proofs.Texts.{within_word, past_word}

same_power : (x : ℕ) → SamePower (in_word x) x
same_power x = go (dec_le x word_most)
  where
    go : Dec (x ≤ word_most) → SamePower (in_word x) x
    go (yes h) = inl (within_word x h)
    go (no h) = inr (omega (arith, past_word x (omega arith)), omega arith)

abbrev powers : ℕ → ℕ → Powers
powers computing saving = record { computing = computing; saving = saving }

-- numbers cut off at 64 bits have the answer of the numbers
pub read_powers : (computing saving : ℕ) (s before after : List ℕ) (r : Answer) → PlansByEnergy (powers (in_word computing) (in_word saving)) s before after r
    → PlansByEnergy (powers computing saving) s before after r
read_powers computing saving s before after r plans =
    wide_powers s before after r (powers (in_word computing) (in_word saving)) (powers computing saving) (same_power computing) (same_power saving) plans

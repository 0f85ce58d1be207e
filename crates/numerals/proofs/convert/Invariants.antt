-- `numerals::convert` meets its contract. The loop's invariant: the bytes before j are made marks, and the others are untouched. Assumes nothing.
use Prim.Native.Nat.{ℕ, ◌-◌, ◌≤◌, ◌<◌}
use mathlib.Core.Path.{◌≡◌}
use mathlib.Core.List.{List}
use lib.ListN.{length, get_or}
use Rattle.numerals.specs.Digits.{zero_code}
use Rattle.numerals.proofs.convert.Given as goal

pub record Converted (before text : List ℕ) (j : ℕ) : Type 0 where
  pub within : j ≤ length before
  pub long : length text ≡ length before
  pub marks : (i : ℕ) → i < j → get_or text i 0 ≡ get_or before i 0 - zero_code
  pub left : (i : ℕ) → j ≤ i → get_or text i 0 ≡ get_or before i 0

abbrev pub invariant-loop-j : goal.invariant-loop-j
invariant-loop-j l = Converted l.initial.text l.text l.j

-- `numerals::value_of` meets its contract. The loop's invariant: n is the number of the digits before c. Assumes nothing.
use Prim.Native.Nat.{ℕ, ◌≤◌}
use mathlib.Core.Path.{◌≡◌}
use mathlib.Core.List.{List}
use lib.ListN.{length}
use Rattle.numerals.specs.Digits.{number_to, in_word}
use Rattle.numerals.proofs.value_of.Given as goal

pub record Valued (text : List ℕ) (n j : ℕ) : Type 0 where
  pub within : j ≤ length text
  pub value : n ≡ in_word (number_to text j)

abbrev pub invariant-loop-c : goal.invariant-loop-c
invariant-loop-c l = Valued l.text l.n l.c-index

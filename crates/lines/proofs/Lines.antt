-- How long lines are, and the digits of marks one by one. Assumes nothing.
use Prim.Native.Nat.{ℕ, zero, suc, ◌+◌, ◌%◌, ◌≤◌, ◌<◌}
use mathlib.Core.Path.{◌≡◌, refl, ap}
use mathlib.Core.List.{List, [], ◌∷◌, ◌++◌}
use native.Mathlib.Omega.{arith}
use lib.ListN.{length, get_or, length-append}
use Rattle.numerals.specs.Digits.{base, word_most}
use Rattle.numerals.specs.Decimal.{digit, decimal, word_digits}
use Rattle.numerals.proofs.Decimals.{decimal_word}
use Rattle.lines.specs.Lines.{space, newline, words_line, number_line, mark_digits, marks_line}

pub length_digits : (marks : List ℕ) → length (mark_digits marks) ≡ length marks
unfolding mark_digits
length_digits [] = refl
length_digits (m ∷ marks) = ap suc (length_digits marks)

pub digit_at : (marks : List ℕ) (j : ℕ) → j < length marks → get_or (mark_digits marks) j 0 ≡ digit (get_or marks j 0 % base)
unfolding mark_digits
digit_at [] j h = absurd (omega arith)
digit_at (m ∷ marks) zero h = refl
digit_at (m ∷ marks) (suc j) h = digit_at marks j (omega arith)

pub length_words : (words : List ℕ) → length (words_line words) ≡ length words + 1
unfolding words_line
length_words words = length-append words (newline ∷ [])

-- a word, a space, what follows, and the end of the line
length_line : (word rest : List ℕ) → length (word ++ (space ∷ (rest ++ (newline ∷ [])))) ≡ length word + length rest + 2
length_line word rest = omega (arith, length-append word (space ∷ (rest ++ (newline ∷ []))), length-append rest (newline ∷ []))

pub length_numbered : (word : List ℕ) (n : ℕ) → length (number_line word n) ≡ length word + length (decimal n) + 2
unfolding number_line
length_numbered word n = length_line word (decimal n)

pub numbered_most : (word : List ℕ) (n : ℕ) → n ≤ word_most → length (number_line word n) ≤ length word + word_digits + 2
numbered_most word n h = omega (arith, length_numbered word n, decimal_word n h)

pub length_marked : (word marks : List ℕ) → length (marks_line word marks) ≡ length word + length marks + 2
unfolding marks_line
length_marked word marks = omega (arith, length_line word (mark_digits marks), length_digits marks)

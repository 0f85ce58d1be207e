-- Lines of text, byte by byte, and what it is to put a text into a lent buffer.
use Rattle.std.specs.Prelude.{ℕ, ◌+◌, ◌%◌, ◌≤◌, ◌≡◌, List, [], ◌∷◌, ◌++◌, map, length}
use Rattle.std.proofs.lemmas.List.Edits.{sets}
use Rattle.numerals.specs.Digits.{base}
use Rattle.numerals.specs.Decimal.{digit, decimal}

-- the text codes of a space and of the end of a line
abbrev pub space : ℕ
space = 32

abbrev pub newline : ℕ
newline = 10

-- a line of words
unfoldable pub words_line : List ℕ → List ℕ
words_line words = words ++ (newline ∷ [])

-- a word and its number, on one line
unfoldable pub number_line : List ℕ → ℕ → List ℕ
number_line word n = word ++ (space ∷ (decimal n ++ (newline ∷ [])))

-- one digit for each mark: its last decimal place. Marks are 0 to 3, so it is the mark itself
unfoldable pub mark_digits : List ℕ → List ℕ
mark_digits marks = map (λ m. digit (m % base)) marks

-- a word and the digits of marks, on one line
unfoldable pub marks_line : List ℕ → List ℕ → List ℕ
marks_line word marks = word ++ (space ∷ (mark_digits marks ++ (newline ∷ [])))

-- the buffer has room for the text from byte `at` on
pub record Room (buffer : List ℕ) (at : ℕ) (text : List ℕ) : Type 0 where
  pub fits : at + length text ≤ length buffer

-- a text put into a buffer from byte `at` on: where it ends, and the buffer after, in which the bytes of the text are stored and no other
pub record Puts (before after : List ℕ) (at end : ℕ) (text : List ℕ) : Type 0 where
  pub ends : end ≡ at + length text
  pub stored : after ≡ sets before at text

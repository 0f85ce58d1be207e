-- The marks of a text, one digit a task, and the number of a text.
use Rattle.std.specs.Prelude.{ℕ, zero, suc, ◌+◌, ◌-◌, ◌*◌, ◌<◌, ◌^◌, ◌≡◌, Bool, true, false, Option, Some, None, cond, not, ◌||◌, ◌&&◌, List, ltb, eqb, length, get_or}
use Rattle.lists.specs.Lists.{some}

-- the text codes of 0 and 9
abbrev pub zero_code : ℕ
zero_code = 48

abbrev pub nine_code : ℕ
nine_code = 57

-- digits are decimal
abbrev pub base : ℕ
base = 10

-- the byte is no digit
unfoldable pub no_digit : List ℕ → ℕ → Bool
no_digit text j = ltb (get_or text j 0) zero_code || ltb nine_code (get_or text j 0)

-- the marks of a text of digits, in its place
pub record MarksOf (text after : List ℕ) (ok : Bool) : Type 0 where
  pub long : length after ≡ length text
  pub digits : ok ≡ not (some (length text) (no_digit text))
  pub marks : ok ≡ true → (j : ℕ) → j < length text → get_or after j 0 ≡ get_or text j 0 - zero_code
  -- a text that is refused is left as it is
  pub untouched : ok ≡ false → after ≡ text

-- a number: at least one byte, and each is a digit
unfoldable pub is_number : List ℕ → Bool
is_number text = not (eqb (length text) 0) && not (some (length text) (no_digit text))

-- the number that the first k digits write
unfoldable pub number_to : List ℕ → ℕ → ℕ
number_to text zero = 0
number_to text (suc k) = base * number_to text k + (get_or text k 0 - zero_code)

-- the greatest number of 64 bits
abbrev pub word_most : ℕ
word_most = 2 ^ 64 - 1

-- a number, or the greatest of 64 bits where it passes that
unfoldable pub in_word : ℕ → ℕ
in_word x = cond (ltb word_most x) word_most x

-- the number of a text, or none where it is no number
pub record NumberOf (text : List ℕ) (r : Option ℕ) : Type 0 where
  pub none : is_number text ≡ false → r ≡ None
  pub value : is_number text ≡ true → r ≡ Some (in_word (number_to text (length text)))

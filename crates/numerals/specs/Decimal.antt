-- A number as text: its decimal digits, and what reading them gives.
use Rattle.std.specs.Prelude.{ℕ, zero, suc, ◌+◌, ◌/◌, ◌%◌, ◌<◌, ◌≡◌, true, cond, List, [], ◌∷◌, ◌++◌, ltb, length, get_or}
use Rattle.numerals.specs.Digits.{zero_code, base, is_number, number_to}

-- the text code of a digit
abbrev pub digit : ℕ → ℕ
digit d = zero_code + d

-- the digits of n by at most k divisions: the last digit is the rest by ten, and those before it are the digits of the quotient
unfoldable pub decimal_by : ℕ → ℕ → List ℕ
decimal_by zero n = []
decimal_by (suc k) n = let more = decimal_by k (n / base) ++ (digit (n % base) ∷ []) in cond (ltb n base) (digit n ∷ []) more

-- the digits of n, the first digit first; 0 has one. n + 1 steps are enough (`decimal_digit`, `decimal_more`)
unfoldable pub decimal : ℕ → List ℕ
decimal n = decimal_by (suc n) n

-- the most digits of a number of 64 bits
abbrev pub word_digits : ℕ
word_digits = 20

-- what the text of a number is to one who reads it
pub record Reads (text : List ℕ) (n : ℕ) : Type 0 where
  -- a number
  pub number : is_number text ≡ true
  -- whose value is n
  pub value : number_to text (length text) ≡ n
  -- without a 0 in front of other digits
  pub leads : 1 < length text → zero_code < get_or text 0 0

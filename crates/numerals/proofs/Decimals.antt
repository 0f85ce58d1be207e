-- The decimal digits of a number: the two laws that remove the count of divisions, and that reading the digits gives the number back, and no other text does. Each law goes by
-- `by_digits`: it holds of numbers of one digit, and of a number where it holds of its quotient by ten. Assumes nothing.
use Prim.Native.Nat.{ℕ, zero, suc, ◌+◌, ◌-◌, ◌*◌, ◌/◌, ◌%◌, ◌^◌, ◌≤◌, ◌<◌}
use mathlib.Core.Path.{◌≡◌, refl, sym, ◌∙◌, ap}
use mathlib.Core.Bool.{true, false, not, false≢true}
use mathlib.Core.List.{List, [], ◌∷◌, ◌++◌}
use native.Mathlib.Nat.{pow-suc}
use native.Mathlib.Decide.{dec_lt}
use native.Mathlib.Omega.{arith}
use borrow.Author.Tests.{lt-ltb, le-ltb, ne_eqb}
use lib.Dec.{eqb}
use lib.ListN.{length, get_or, take, length-append, get_or-append}
use lib.Seq.{get_or_at, take-suc, take_all}
use Rattle.lists.specs.Lists.{some}
use Rattle.lists.proofs.Lists.{and_holds, some_none, some_fails}
use Rattle.numerals.specs.Digits.{zero_code, nine_code, base, no_digit, is_number, number_to, word_most, NumberOf}
use Rattle.numerals.specs.Decimal.{digit, decimal_by, decimal, word_digits, Reads}
use Rattle.std.specs.Prelude.{Option, Some}
use Rattle.numerals.proofs.Texts.{digit_is, digit_least, digit_most, none_such, within_word}

-- a number of one digit
by_one : (k n : ℕ) → n < base → decimal_by (suc k) n ≡ digit n ∷ []
unfolding decimal_by
by_one k n h = rw (lt-ltb n base h) refl

-- and one of more
by_more : (k n : ℕ) → base ≤ n → decimal_by (suc k) n ≡ decimal_by k (n / base) ++ (digit (n % base) ∷ [])
unfolding decimal_by
by_more k n h = rw (le-ltb n base h) refl

-- more divisions than n change nothing
by_enough : (k l n : ℕ) → n < k → n < l → decimal_by k n ≡ decimal_by l n
by_enough zero l n h j = absurd (omega arith)
by_enough (suc k) zero n h j = absurd (omega arith)
by_enough (suc k) (suc l) n h j = go (dec_lt n base) (by_enough k l (n / base))
  where
    go : Dec (n < base) → (n / base < k → n / base < l → decimal_by k (n / base) ≡ decimal_by l (n / base)) → decimal_by (suc k) n ≡ decimal_by (suc l) n
    go (yes q) same = by_one k n q ∙ sym (by_one l n q)
    go (no q) same = by_more k n (omega arith) ∙ rw (same (omega arith) (omega arith)) (sym (by_more l n (omega arith)))

-- the digits of a number below ten
pub decimal_digit : (n : ℕ) → n < base → decimal n ≡ digit n ∷ []
unfolding decimal
decimal_digit n h = by_one n n h

-- and of any other: those of its quotient by ten, then the rest
pub decimal_more : (n : ℕ) → base ≤ n → decimal n ≡ decimal (n / base) ++ (digit (n % base) ∷ [])
unfolding decimal
decimal_more n h = by_more n n h ∙ rw (by_enough n (suc (n / base)) (n / base) (omega arith) (omega arith)) refl

-- a fact that numbers below ten have, and numbers whose quotient by ten has it
pub by_digits : (P : ℕ → Type 0) → ((n : ℕ) → n < base → P n) → ((n : ℕ) → base ≤ n → P (n / base) → P n) → (n : ℕ) → P n
by_digits P one more n = below (suc n) n (omega arith)
  where
    below : (b k : ℕ) → k < b → P k
    below zero k h = absurd (omega arith)
    below (suc b) k h = go (dec_lt k base) (below b (k / base))
      where
        go : Dec (k < base) → (k / base < b → P (k / base)) → P k
        go (yes q) before = one k q
        go (no q) before = more k (omega arith) (before (omega arith))

-- a text with one byte more at its end
longer : (l : List ℕ) (d : ℕ) → length (l ++ (d ∷ [])) ≡ suc (length l)
longer l d = omega (arith, length-append l (d ∷ []))

earlier : (l : List ℕ) (d j : ℕ) → j < length l → get_or (l ++ (d ∷ [])) j 0 ≡ get_or l j 0
earlier l d j h = get_or-append l (d ∷ []) 0 j h

latest : (l : List ℕ) (d : ℕ) → get_or (l ++ (d ∷ [])) (length l) 0 ≡ d
latest l d = get_or_at l d [] 0 (length l) refl

pub decimal_longer : (n : ℕ) → base ≤ n → length (decimal n) ≡ suc (length (decimal (n / base)))
decimal_longer n h = rw (decimal_more n h) (longer (decimal (n / base)) (digit (n % base)))

-- texts that agree up to k give the same number there
number_agrees : (a b : List ℕ) (k : ℕ) → ((j : ℕ) → j < k → get_or a j 0 ≡ get_or b j 0) → number_to a k ≡ number_to b k
unfolding number_to
number_agrees a b zero same = refl
number_agrees a b (suc k) same = rw (number_agrees a b k (λ j h. same j (omega arith)), same k (omega arith)) refl

-- one digit more
number_longer : (l : List ℕ) (d : ℕ) → number_to (l ++ (d ∷ [])) (length (l ++ (d ∷ []))) ≡ base * number_to l (length l) + (d - zero_code)
unfolding number_to
number_longer l d = rw (longer l d, latest l d, number_agrees (l ++ (d ∷ [])) l (length l) (earlier l d)) refl

-- what holds of each byte of a text and of one byte more
abbrev Bytes : (ℕ → Type 0) → List ℕ → Type 0
Bytes P l = (j : ℕ) → j < length l → P (get_or l j 0)

bytes_longer : (P : ℕ → Type 0) (l : List ℕ) (d : ℕ) → Bytes P l → P d → Bytes P (l ++ (d ∷ []))
bytes_longer P l d each last j h = go (dec_lt j (length l))
  where
    go : Dec (j < length l) → P (get_or (l ++ (d ∷ [])) j 0)
    go (yes q) = rw (earlier l d j q) (each j q)
    go (no q) = let e : j ≡ length l = omega (arith, longer l d) in rw (e, latest l d) last

-- a byte that is a digit
record Digit (x : ℕ) : Type 0 where
  pub least : zero_code ≤ x
  pub most : x ≤ nine_code

rest_digit : (n : ℕ) → Digit (digit (n % base))
rest_digit n = record { least = omega arith; most = omega arith }

-- a number has a digit, and its bytes are digits
pub decimal_some : (n : ℕ) → 0 < length (decimal n)
decimal_some =
    by_digits (λ n. 0 < length (decimal n)) (λ n h. rw (decimal_digit n h) (omega arith))
    (λ n h ih. rw (decimal_more n h, longer (decimal (n / base)) (digit (n % base))) (omega arith))

digits_of : (n : ℕ) → Bytes Digit (decimal n)
digits_of =
    by_digits (λ n. Bytes Digit (decimal n)) (λ n h. rw (decimal_digit n h) (one n h))
    (λ n h ih. rw (decimal_more n h) (bytes_longer Digit (decimal (n / base)) (digit (n % base)) ih (rest_digit n)))
  where
    one : (n : ℕ) → n < base → Bytes Digit (digit n ∷ [])
    one n h zero j = record { least = omega arith; most = omega arith }
    one n h (suc i) j = absurd (omega arith)

pub decimal_digits : (n j : ℕ) → j < length (decimal n) → no_digit (decimal n) j ≡ false
decimal_digits n j h = let d = digits_of n j h in digit_is (decimal n) j d.least d.most

number_one : (n : ℕ) → number_to (digit n ∷ []) (length (digit n ∷ [])) ≡ n
unfolding number_to
number_one n = omega arith

pub decimal_least : (n j : ℕ) → j < length (decimal n) → zero_code ≤ get_or (decimal n) j 0
decimal_least n j h = (digits_of n j h).least

decimal_value : (n : ℕ) → number_to (decimal n) (length (decimal n)) ≡ n
decimal_value =
    by_digits (λ n. number_to (decimal n) (length (decimal n)) ≡ n) (λ n h. rw (decimal_digit n h) (number_one n))
    (λ n h ih. rw (decimal_more n h) (number_longer (decimal (n / base)) (digit (n % base)) ∙ rw ih (omega arith)))

decimal_leads : (n : ℕ) → 0 < n → zero_code < get_or (decimal n) 0 0
decimal_leads =
    by_digits (λ n. 0 < n → zero_code < get_or (decimal n) 0 0) (λ n h p. rw (decimal_digit n h) (omega arith))
    (λ n h ih p. rw (decimal_more n h, earlier (decimal (n / base)) (digit (n % base)) 0 (decimal_some (n / base))) (ih (omega arith)))

digits_positive : (n : ℕ) → 1 < length (decimal n) → 0 < n
digits_positive zero h = absurd (omega (arith, ap length (decimal_digit 0 (omega arith))))
digits_positive (suc n) h = omega arith

-- 'reading a printed number gives the number back'
pub decimal_reads : (n : ℕ) → Reads (decimal n) n
unfolding is_number
decimal_reads n =
    let some_byte : eqb (length (decimal n)) 0 ≡ false = ne_eqb (length (decimal n)) 0 (λ z. omega (arith, decimal_some n)) in
    record {
      number = rw (some_byte, some_none (length (decimal n)) (no_digit (decimal n)) (decimal_digits n)) refl;
      value = decimal_value n;
      leads = λ h. decimal_leads n (digits_positive n h);
    }

-- so that `to_number` gives back each number of 64 bits
pub decimal_read : (n : ℕ) (r : Option ℕ) → n ≤ word_most → NumberOf (decimal n) r → r ≡ Some n
decimal_read n r h given =
    let reads = decimal_reads n in
    given.value reads.number ∙ ap Some (rw reads.value (within_word n h))

-- numbers with the same text are the same
pub decimal_once : (m n : ℕ) → decimal m ≡ decimal n → m ≡ n
decimal_once m n e = sym (decimal_value m) ∙ (rw e (decimal_value n))

-- a number below 10^k has at most k digits
pub decimal_short : (k n : ℕ) → n < base ^ suc k → length (decimal n) ≤ suc k
decimal_short zero n h = let few : n < base = h in rw (decimal_digit n few) (omega arith)
decimal_short (suc k) n h = go (dec_lt n base) (decimal_short k (n / base))
  where
    go : Dec (n < base) → (n / base < base ^ suc k → length (decimal (n / base)) ≤ suc k) → length (decimal n) ≤ suc (suc k)
    go (yes q) before = rw (decimal_digit n q) (omega arith)
    go (no q) before =
        rw (decimal_more n (omega arith), longer (decimal (n / base)) (digit (n % base))) (omega (arith, before (omega (arith, pow-suc base (suc k)))))

pub decimal_word : (n : ℕ) → n ≤ word_most → length (decimal n) ≤ word_digits
decimal_word n h = decimal_short 19 n (omega arith)

-- the bytes of a number are digits
bytes_of : (text : List ℕ) → is_number text ≡ true → Bytes Digit text
unfolding is_number
bytes_of text e j h =
    let none = none_such (some (length text) (no_digit text)) (sym (and_holds (not (eqb (length text) 0)) (not (some (length text) (no_digit text))) e).1) in
    let here = some_fails (length text) (no_digit text) none j h in
    record { least = digit_least text j here; most = digit_most text j here }

some_byte : (text : List ℕ) → is_number text ≡ true → 0 < length text
unfolding is_number
some_byte [] e = absurd (false≢true e)
some_byte (x ∷ text) e = omega arith

module _ (text : List ℕ) (each : Bytes Digit text) where
  -- a first digit that is not 0 makes the number positive
  front_positive : (k : ℕ) → suc k ≤ length text → zero_code < get_or text 0 0 → 0 < number_to text (suc k)
  unfolding number_to
  front_positive zero h lead = omega arith
  front_positive (suc k) h lead = omega (arith, front_positive k (omega arith) lead)

  -- the first digits are those of their number
  front_decimal : (1 < length text → zero_code < get_or text 0 0) → (k : ℕ) → suc k ≤ length text → take (suc k) text ≡ decimal (number_to text (suc k))
  unfolding number_to
  front_decimal lead zero h =
      let d = each 0 (omega arith) in
      let x : base * 0 + (get_or text 0 0 - zero_code) ≡ get_or text 0 0 - zero_code = omega arith in
      let back : digit (get_or text 0 0 - zero_code) ≡ get_or text 0 0 = omega (arith, d.least) in
      take-suc text 0 0 (omega arith) ∙ rw (x, decimal_digit (get_or text 0 0 - zero_code) (omega (arith, d.most)), back) refl
  front_decimal lead (suc k) h = go (number_to text (suc k)) (front_positive k (omega arith) (lead (omega arith))) (front_decimal lead k (omega arith))
    where
      d : Digit (get_or text (suc k) 0)
      d = each (suc k) (omega arith)

      go : (q : ℕ) → 0 < q → take (suc k) text ≡ decimal q → take (suc (suc k)) text ≡ decimal (base * q + (get_or text (suc k) 0 - zero_code))
      go q positive before =
          let v : ℕ = base * q + (get_or text (suc k) 0 - zero_code) in
          let quotient : v / base ≡ q = omega (arith, d.most) in
          let rest : digit (v % base) ≡ get_or text (suc k) 0 = omega (arith, d.least, d.most) in
          take-suc text (suc k) 0 (omega arith) ∙ (rw before (sym (decimal_more v (omega arith) ∙ rw (quotient, rest) refl)))

-- the text of a number is the only one that is read so
pub decimal_unique : (text : List ℕ) (n : ℕ) → Reads text n → text ≡ decimal n
decimal_unique text n reads = go (length text) refl (some_byte text reads.number)
  where
    go : (l : ℕ) → length text ≡ l → 0 < length text → text ≡ decimal n
    go zero e h = absurd (omega arith)
    go (suc k) e h =
        sym (take_all (suc k) text (omega arith))
        ∙ (front_decimal text (bytes_of text reads.number) reads.leads k (omega arith) ∙ ap decimal (rw e at reads.value))

-- Laws of texts of digits, of the numbers that they give, and of a list that a loop fills from the front. Assumes nothing.
use Prim.Native.Nat.{ℕ, ◌+◌, ◌-◌, ◌*◌, ◌≤◌, ◌<◌}
use mathlib.Core.Path.{◌≡◌, refl, ◌∙◌, sym, ap}
use Rattle.std.specs.Prelude.{Some, None, min}
use mathlib.Core.Bool.{Bool, true, false, not, or-true, and-false, true≢false, false≢true}
use mathlib.Core.List.{List}
use native.Mathlib.Decide.{ℕ_discrete, dec_le}
use native.Mathlib.Numerals.{add-one}
use native.Mathlib.Omega.{arith}
use borrow.Author.Tests.{lt-ltb, le-ltb, ltb-false, eq-eqb, ne_eqb}
use lib.Dec.{ltb, eqb}
use lib.ListN.{length, get_or, set}
use lib.Seq.{get_or-set_same, get_or-set_other}
use Rattle.lists.specs.Lists.{some}
use Rattle.lists.proofs.Lists.{or_fails, some_none, some_holds}
use Rattle.std.specs.Bool.{MatchBool}
use Rattle.std.specs.Int.{IsInRange, IsOutOfRange}
use Rattle.std.specs.List.{AllWithin, HoldsAt}
use mathlib.Core.Logic.{inl, inr}
use Rattle.numerals.specs.Digits.{zero_code, nine_code, base, no_digit, MarksOf, is_number, number_to, word_most, in_word, NumberOf}

-- one element more of a list that is filled from the front
pub filled_more : (l : List ℕ) (f : ℕ → ℕ) (j : ℕ) → j < length l → ((i : ℕ) → i < j → get_or l i 0 ≡ f i) → (i : ℕ) → i < j + 1 → get_or (set l j (f j)) i 0 ≡ f i
filled_more l f j h before i k = go (ℕ_discrete i j)
  where
    go : Dec (i ≡ j) → get_or (set l j (f j)) i 0 ≡ f i
    go (yes e) = rw (e, get_or-set_same l j (f j) 0 h)
    go (no e) = get_or-set_other l j i (f j) 0 e ∙ before i (omega arith)

-- a byte that is a digit, and one that is not
pub digit_is : (text : List ℕ) (j : ℕ) → zero_code ≤ get_or text j 0 → get_or text j 0 ≤ nine_code → no_digit text j ≡ false
unfolding no_digit
digit_is text j h k = rw (le-ltb (get_or text j 0) zero_code h, le-ltb nine_code (get_or text j 0) k)

pub below_digits : (text : List ℕ) (j : ℕ) → get_or text j 0 < zero_code → no_digit text j ≡ true
unfolding no_digit
below_digits text j h = rw (lt-ltb (get_or text j 0) zero_code h)

pub above_digits : (text : List ℕ) (j : ℕ) → nine_code < get_or text j 0 → no_digit text j ≡ true
unfolding no_digit
above_digits text j h = rw (lt-ltb nine_code (get_or text j 0) h) (or-true (ltb (get_or text j 0) zero_code))

-- the test of each byte of a text
pub all_digits : (text : List ℕ) (r : Bool)
    → MatchBool r (AllWithin (IsInRange zero_code nine_code) text 0 (length text)) ((k : ℕ) × (k < length text) × HoldsAt (IsOutOfRange zero_code nine_code) text k)
    → r ≡ not (some (length text) (no_digit text))
all_digits text true each = rw (some_none (length text) (no_digit text) (λ j h. digit_is text j (each j 0 (omega arith) h).0 (each j 0 (omega arith) h).1)) refl
all_digits text false found = rw (some_holds (length text) (no_digit text) found.0 found.1 (other (found.2 0))) refl
  where
    other : IsOutOfRange zero_code nine_code (get_or text found.0 0) → no_digit text found.0 ≡ true
    other (inl h) = below_digits text found.0 h
    other (inr h) = above_digits text found.0 h

-- a digit has at least the code of 0
pub digit_least : (text : List ℕ) (j : ℕ) → no_digit text j ≡ false → zero_code ≤ get_or text j 0
unfolding no_digit
digit_least text j e = ltb-false (get_or text j 0) zero_code (or_fails (ltb (get_or text j 0) zero_code) (ltb nine_code (get_or text j 0)) e).0

pub digit_most : (text : List ℕ) (j : ℕ) → no_digit text j ≡ false → get_or text j 0 ≤ nine_code
unfolding no_digit
digit_most text j e = ltb-false nine_code (get_or text j 0) (or_fails (ltb (get_or text j 0) zero_code) (ltb nine_code (get_or text j 0)) e).1

-- a number of 64 bits, and one past them
pub within_word : (x : ℕ) → x ≤ word_most → in_word x ≡ x
unfolding in_word
within_word x h = rw (le-ltb word_most x h)

pub past_word : (x : ℕ) → word_most < x → in_word x ≡ word_most
unfolding in_word
past_word x h = rw (lt-ltb word_most x h)

-- the greatest of 64 bits, as saturating operations keep it
pub word_least : (n d : ℕ) → min (min (n * 10) word_most + d) word_most ≡ in_word (base * n + d)
word_least n d = go (dec_le (base * n + d) word_most)
  where
    go : Dec (base * n + d ≤ word_most) → min (min (n * 10) word_most + d) word_most ≡ in_word (base * n + d)
    go (yes h) = rw (within_word (base * n + d) h) (omega arith)
    go (no h) = rw (past_word (base * n + d) (omega arith)) (omega arith)

-- one digit more of a number that may have passed 64 bits
word_digit : (x d : ℕ) → in_word (base * in_word x + d) ≡ in_word (base * x + d)
word_digit x d = go (dec_le x word_most)
  where
    go : Dec (x ≤ word_most) → in_word (base * in_word x + d) ≡ in_word (base * x + d)
    go (yes h) = rw (within_word x h)
    go (no h) =
        rw (past_word x (omega arith)) (past_word (base * word_most + d) (omega arith) ∙ sym (past_word (base * x + d) (omega arith)))

pub number_more : (text : List ℕ) (n j : ℕ) → n ≡ in_word (number_to text j) → in_word (base * n + (get_or text j 0 - zero_code)) ≡ in_word (number_to text (j + 1))
unfolding number_to
number_more text n j e = rw (e, add-one j) (word_digit (number_to text j) (get_or text j 0 - zero_code))

-- the number of a text of digits, and of one that is none
pub number_is : (text : List ℕ) (v : ℕ) → 0 < length text → some (length text) (no_digit text) ≡ false → v ≡ in_word (number_to text (length text)) → NumberOf text (Some v)
unfolding is_number
number_is text v h e q =
    let some_byte : eqb (length text) 0 ≡ false = ne_eqb (length text) 0 (λ z. omega arith) in
    record { none = λ z. absurd (true≢false (rw (some_byte, e) at z)); value = λ _. ap Some q }

pub number_none : (text : List ℕ) → is_number text ≡ false → NumberOf text None
number_none text e = record { none = λ _. refl; value = λ z. absurd (true≢false (sym z ∙ e)) }

pub empty_none : (text : List ℕ) → length text ≡ 0 → is_number text ≡ false
unfolding is_number
empty_none text e = rw (eq-eqb (length text) 0 e)

pub other_none : (text : List ℕ) → false ≡ not (some (length text) (no_digit text)) → is_number text ≡ false
unfolding is_number
other_none text e = rw (← e) (and-false (not (eqb (length text) 0)))

-- a test that says that there is no such byte
pub none_such : (b : Bool) → true ≡ not b → b ≡ false
none_such true e = absurd (true≢false e)
none_such false e = refl

-- a text that is refused, left as it is
pub left_as_is : (text : List ℕ) → false ≡ not (some (length text) (no_digit text)) → MarksOf text text false
left_as_is text e = record { long = refl; digits = e; marks = λ q. absurd (false≢true q); untouched = λ _. refl }

-- what a store at j leaves after j
pub kept_after : (l l₀ : List ℕ) (a j : ℕ) → ((i : ℕ) → j ≤ i → get_or l i 0 ≡ get_or l₀ i 0) → (i : ℕ) → j + 1 ≤ i → get_or (set l j a) i 0 ≡ get_or l₀ i 0
kept_after l l₀ a j same i h = get_or-set_other l j i a 0 (λ e. omega arith) ∙ same i (omega arith)

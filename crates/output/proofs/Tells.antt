-- The text of an answer tells the answer: its first letter says whether there is a refusal, the digits up to the end of the first line are the number or the
-- figure, and those of the second line are the marks. Two lines that are the same are the same up to their ends, since a digit is no end of a line.
-- Assumes nothing.
use Prim.Native.Nat.{ℕ, zero, suc, ◌%◌, ◌<◌}
use mathlib.Core.Path.{◌≡◌, refl, sym, ◌∙◌, ap}
use mathlib.Core.Logic.{◌≢◌}
use mathlib.Core.List.{List, [], ◌∷◌, ◌++◌, append_assoc}
use native.Mathlib.Decide.{ℕ_discrete}
use native.Mathlib.Omega.{arith}
use lib.ListN.{length, get_or}
use Rattle.refusals.specs.Numbers
use Rattle.refusals.specs.declared.Answer.{Answer}
use Rattle.numerals.specs.Digits.{base}
use Rattle.numerals.specs.Decimal.{digit, decimal}
use Rattle.numerals.proofs.Decimals.{decimal_once, decimal_least}
use Rattle.lines.specs.Lines.{space, newline, number_line, mark_digits, marks_line}
use Rattle.output.specs.Letters as letter
use Rattle.output.specs.Words.{marks_word, refused_word}
use Rattle.output.specs.Texts.{refused_text, plan_text, SameAnswer}
use Rattle.output.proofs.Lengths.{plan_refused, plan_accepted}

-- no byte of the list ends a line
abbrev OneLine : List ℕ → Type 0
OneLine l = (j : ℕ) → j < length l → get_or l j 0 ≢ newline

-- lines that are the same with what follows them
record SameLine (a b x y : List ℕ) : Type 0 where
  pub line : a ≡ b
  pub rest : x ≡ y

same_line : (a b x y : List ℕ) → OneLine a → OneLine b → a ++ (newline ∷ x) ≡ b ++ (newline ∷ y) → SameLine a b x y
same_line [] [] x y f g e = record { line = refl; rest = cc }
same_line [] (v ∷ b) x y f g e = absurd (g 0 (omega arith) (cc))
same_line (u ∷ a) [] x y f g e = absurd (f 0 (omega arith) (cc))
same_line (u ∷ a) (v ∷ b) x y f g e =
    let tails : a ++ (newline ∷ x) ≡ b ++ (newline ∷ y) = cc in
    let same = same_line a b x y (λ j h. f (suc j) (omega arith)) (λ j h. g (suc j) (omega arith)) tails in
    record { line = cc same.line; rest = same.rest }

-- after the same word
same_word : (w x y : List ℕ) → w ++ x ≡ w ++ y → x ≡ y
same_word [] x y e = e
same_word (u ∷ w) x y e = same_word w x y (cc)

decimal_line : (n : ℕ) → OneLine (decimal n)
decimal_line n j h e = omega (arith, decimal_least n j h)

marks_line_lem : (marks : List ℕ) → OneLine (mark_digits marks)
unfolding mark_digits
marks_line_lem [] j h e = omega arith
marks_line_lem (m ∷ marks) zero h e = omega arith
marks_line_lem (m ∷ marks) (suc j) h e = marks_line_lem marks j (omega arith) e

-- the number of a line, and what follows it
record SameNumber (m n : ℕ) (x y : List ℕ) : Type 0 where
  pub number : m ≡ n
  pub rest : x ≡ y

number_split : (w : List ℕ) (n : ℕ) (x : List ℕ) → number_line w n ++ x ≡ w ++ (space ∷ (decimal n ++ (newline ∷ x)))
unfolding number_line
number_split w n x = simp append_assoc

number_told : (w : List ℕ) (m n : ℕ) (x y : List ℕ) → number_line w m ++ x ≡ number_line w n ++ y → SameNumber m n x y
number_told w m n x y e =
    let lines = same_word w _ _ (sym (number_split w m x) ∙ (e ∙ number_split w n y)) in
    let digits : decimal m ++ (newline ∷ x) ≡ decimal n ++ (newline ∷ y) = cc (lines) in
    let same = same_line (decimal m) (decimal n) x y (decimal_line m) (decimal_line n) digits in
    record { number = decimal_once m n same.line; rest = same.rest }

-- the digits of a line of marks
digits_told : (w a b : List ℕ) → marks_line w a ≡ marks_line w b → mark_digits a ≡ mark_digits b
unfolding marks_line
digits_told w a b e =
    let lines = same_word w _ _ e in
    let digits : mark_digits a ++ (newline ∷ []) ≡ mark_digits b ++ (newline ∷ []) = cc (lines) in
    (same_line (mark_digits a) (mark_digits b) [] [] (marks_line_lem a) (marks_line_lem b) digits).line

-- marks that are one digit each are told by their digits
pub marks_told : (a b : List ℕ) → ((j : ℕ) → j < length a → get_or a j 0 < base) → ((j : ℕ) → j < length b → get_or b j 0 < base)
    → mark_digits a ≡ mark_digits b → a ≡ b
unfolding mark_digits
marks_told [] [] f g e = refl
marks_told [] (v ∷ b) f g e = let z : ◌≡◌ {A = ℕ} (length (mark_digits [])) (length (mark_digits (v ∷ b))) = ap length e in absurd (omega arith)
marks_told (u ∷ a) [] f g e = let z : ◌≡◌ {A = ℕ} (length (mark_digits (u ∷ a))) (length (mark_digits [])) = ap length e in absurd (omega arith)
marks_told (u ∷ a) (v ∷ b) f g e =
    let first : digit (u % base) ≡ digit (v % base) = cc in
    let rest : mark_digits a ≡ mark_digits b = cc in
    let same : u ≡ v = omega (arith, f 0 (omega arith), g 0 (omega arith)) in
    let more : a ≡ b = marks_told a b (λ j h. f (suc j) (omega arith)) (λ j h. g (suc j) (omega arith)) rest in
    rw (same, more) refl

refused_told : (a b : ℕ) → refused_text a ≡ refused_text b → a ≡ b
unfolding refused_text
refused_told a b e = (number_told refused_word a b [] [] (ap (λ (l : List ℕ). l ++ []) e)).number

-- a refusal begins with its own letter
refusal_other : (f : ℕ) (w : List ℕ) (n k : ℕ) (x : List ℕ) → f ≢ letter.r → number_line (f ∷ w) n ++ x ≢ refused_text k
unfolding refused_text number_line
refusal_other f w n k x other e = other (cc)

-- 'the text tells the answer', where the word for the figure does not begin as a refusal does
pub plan_told : (f : ℕ) (w : List ℕ) (r q : Answer) (m k : List ℕ) → f ≢ letter.r → plan_text (f ∷ w) r m ≡ plan_text (f ∷ w) q k → SameAnswer r q m k
plan_told f w r q m k other e = go (ℕ_discrete r.number Numbers.accepted) (ℕ_discrete q.number Numbers.accepted)
  where
    go : Dec (r.number ≡ Numbers.accepted) → Dec (q.number ≡ Numbers.accepted) → SameAnswer r q m k
    go (yes a) (yes b) =
        let same = number_told (f ∷ w) _ _ _ _ (sym (plan_accepted (f ∷ w) r m a) ∙ (e ∙ plan_accepted (f ∷ w) q k b)) in
        record { number = a ∙ sym b; figure = λ _. same.number; marks = λ _. digits_told marks_word m k same.rest }
    go (yes a) (no b) = absurd (refusal_other f w _ _ _ other (sym (plan_accepted (f ∷ w) r m a) ∙ (e ∙ plan_refused (f ∷ w) q k b)))
    go (no a) (yes b) = absurd (refusal_other f w _ _ _ other (sym (plan_accepted (f ∷ w) q k b) ∙ (sym e ∙ plan_refused (f ∷ w) r m a)))
    go (no a) (no b) =
        let same = refused_told _ _ (sym (plan_refused (f ∷ w) r m a) ∙ (e ∙ plan_refused (f ∷ w) q k b)) in
        record { number = same; figure = λ z. absurd (a z); marks = λ z. absurd (a z) }

-- Known examples as texts, computed: what `plan` prints for sheet A of document 01, the line of a refusal, and that of a held name. Assumes nothing.
use mathlib.Core.Path.{◌≡◌, refl}
use mathlib.Core.List.{[], ◌∷◌}
use Rattle.state.specs.declared.Sums.{Sums}
use Rattle.names.specs.Names.{held}
use Rattle.refusals.specs.Answers.{accepted}
use Rattle.numerals.specs.Decimal.{digit, decimal_by, decimal}
use Rattle.lines.specs.Lines.{space, newline, number_line, mark_digits, marks_line}
use Rattle.output.specs.Letters.{a, d, e, f, i, k, m, n, o, p, r, s, t, u}
use Rattle.output.specs.Words.{time_word}
use Rattle.output.specs.Texts.{refused_text, plan_text, held_line}

-- time 726347, marks 23
time_and_marks : plan_text time_word (accepted 726347) (2 ∷ 3 ∷ [])
    ≡ t ∷ i ∷ m ∷ e ∷ space ∷ digit 7 ∷ digit 2 ∷ digit 6 ∷ digit 3 ∷ digit 4 ∷ digit 7 ∷ newline
    ∷ m ∷ a ∷ r ∷ k ∷ s ∷ space ∷ digit 2 ∷ digit 3 ∷ newline ∷ []
unfolding plan_text number_line marks_line mark_digits decimal decimal_by
time_and_marks = refl

-- refused 6
refused_6 : refused_text 6 ≡ r ∷ e ∷ f ∷ u ∷ s ∷ e ∷ d ∷ space ∷ digit 6 ∷ newline ∷ []
unfolding refused_text number_line decimal decimal_by
refused_6 = refl

-- name 7 position 2
name_7 : (sums : Sums)
    → held_line (held 7 (record { position = 2; awaiting = 0; sums = sums }))
    ≡ n ∷ a ∷ m ∷ e ∷ space ∷ digit 7 ∷ space ∷ p ∷ o ∷ s ∷ i ∷ t ∷ i ∷ o ∷ n ∷ space ∷ digit 2 ∷ newline ∷ []
unfolding held_line number_line decimal decimal_by
name_7 sums = refl

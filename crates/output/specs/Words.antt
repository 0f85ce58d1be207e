-- The words that the programs print, letter by letter.
use Rattle.std.specs.Prelude.{ℕ, List, [], ◌∷◌}
use Rattle.lines.specs.Lines.{space}
use Rattle.output.specs.Letters.{a, c, d, e, f, g, i, k, l, m, n, o, p, r, s, t, u, v, w, y, colon}

abbrev pub time_word : List ℕ
time_word = t ∷ i ∷ m ∷ e ∷ []

abbrev pub energy_word : List ℕ
energy_word = e ∷ n ∷ e ∷ r ∷ g ∷ y ∷ []

abbrev pub marks_word : List ℕ
marks_word = m ∷ a ∷ r ∷ k ∷ s ∷ []

abbrev pub refused_word : List ℕ
refused_word = r ∷ e ∷ f ∷ u ∷ s ∷ e ∷ d ∷ []

abbrev pub position_word : List ℕ
position_word = p ∷ o ∷ s ∷ i ∷ t ∷ i ∷ o ∷ n ∷ []

abbrev pub awaited_word : List ℕ
awaited_word = a ∷ w ∷ a ∷ i ∷ t ∷ e ∷ d ∷ []

abbrev pub yes_word : List ℕ
yes_word = y ∷ e ∷ s ∷ []

abbrev pub no_word : List ℕ
no_word = n ∷ o ∷ []

abbrev pub kept_word : List ℕ
kept_word = k ∷ e ∷ p ∷ t ∷ []

abbrev pub redone_word : List ℕ
redone_word = r ∷ e ∷ d ∷ o ∷ n ∷ e ∷ []

abbrev pub verify_word : List ℕ
verify_word = v ∷ e ∷ r ∷ i ∷ f ∷ y ∷ []

abbrev pub saves_word : List ℕ
saves_word = s ∷ a ∷ v ∷ e ∷ s ∷ []

abbrev pub recovery_word : List ℕ
recovery_word = r ∷ e ∷ c ∷ o ∷ v ∷ e ∷ r ∷ y ∷ []

-- of a file that cannot be read, and of a log that has no end
abbrev pub cannot_read : List ℕ
cannot_read = c ∷ a ∷ n ∷ n ∷ o ∷ t ∷ space ∷ r ∷ e ∷ a ∷ d ∷ colon ∷ space ∷ []

abbrev pub endless_words : List ℕ
endless_words = t ∷ o ∷ o ∷ space ∷ l ∷ o ∷ n ∷ g ∷ colon ∷ space ∷ []

abbrev pub log_word : List ℕ
log_word = l ∷ o ∷ g ∷ []

-- of the names that a run holds: the words of commands, `name` also of a line, and of a word that is none of them
abbrev pub name_word : List ℕ
name_word = n ∷ a ∷ m ∷ e ∷ []

abbrev pub drop_word : List ℕ
drop_word = d ∷ r ∷ o ∷ p ∷ []

abbrev pub return_word : List ℕ
return_word = r ∷ e ∷ t ∷ u ∷ r ∷ n ∷ []

abbrev pub unknown_words : List ℕ
unknown_words = u ∷ n ∷ k ∷ n ∷ o ∷ w ∷ n ∷ space ∷ w ∷ o ∷ r ∷ d ∷ colon ∷ space ∷ []

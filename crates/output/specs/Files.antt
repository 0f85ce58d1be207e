-- The line of a file that cannot be read: `cannot read: log NAME: missing`.
use Rattle.std.specs.Prelude.{ℕ, ◌≡◌, ◌⊎◌, List, [], ◌∷◌, ◌++◌, take}
use Rattle.lines.specs.Lines.{space, words_line}
use Rattle.output.specs.Letters.{a, b, c, d, e, f, g, i, m, n, o, r, s, t, y, colon}
use Rattle.output.specs.Words.{cannot_read}
use Rattle.output.specs.Texts.{path_room, Holds}
use Rattle.lines.specs.declared.Text.{Text}

-- which file it is, and its name
unfoldable pub named_text : (which path : List ℕ) → List ℕ
named_text which path = cannot_read ++ (which ++ ((space ∷ []) ++ path))

-- and why
unfoldable pub unreadable_text : (which path cause : List ℕ) → List ℕ
unreadable_text which path cause = named_text which path ++ words_line cause

-- the causes that are told: `: missing`, `: forbidden`, `: a directory`, or none
abbrev pub missing : List ℕ
missing = colon ∷ space ∷ m ∷ i ∷ s ∷ s ∷ i ∷ n ∷ g ∷ []

abbrev pub forbidden : List ℕ
forbidden = colon ∷ space ∷ f ∷ o ∷ r ∷ b ∷ i ∷ d ∷ d ∷ e ∷ n ∷ []

abbrev pub directory : List ℕ
directory = colon ∷ space ∷ a ∷ space ∷ d ∷ i ∷ r ∷ e ∷ c ∷ t ∷ o ∷ r ∷ y ∷ []

abbrev pub IsCause : List ℕ → Type 0
IsCause cause = (cause ≡ missing) ⊎ ((cause ≡ forbidden) ⊎ ((cause ≡ directory) ⊎ (cause ≡ [])))

-- a text that names the file, with one of these causes: which it is the system says; a longer name than any path may have is cut
pub record FileTold (which path : List ℕ) (text : Text) : Type 0 where
  pub cause : List ℕ
  pub told : IsCause cause
  pub text_is : Holds (unreadable_text which (take path_room path) cause) text

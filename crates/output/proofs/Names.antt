-- The line of a file that cannot be read fits its room, and that of an unknown word: the name is cut to the longest that a path may have. Assumes nothing.
use Prim.Native.Nat.{ℕ, min, ◌≤◌}
use mathlib.Core.Path.{◌≡◌, sym, ◌∙◌}
use mathlib.Core.List.{List}
use native.Mathlib.Decide.{dec_le}
use native.Mathlib.Omega.{arith}
use lib.ListN.{length, take, length-append}
use lib.Seq.{take_all, length-take-le}
use Rattle.lines.proofs.Lines.{length_words}
use Rattle.lines.specs.Lines.{words_line}
use Rattle.output.specs.Words.{unknown_words}
use Rattle.output.specs.Texts.{complaint_text, path_room, text_room}
use Rattle.output.specs.Files.{named_text, unreadable_text}
use Rattle.output.specs.Working.Ready.{ReadyForComplaint}

-- what is shown of a name is the name, cut
pub shown_name : (path : List ℕ) (n : ℕ) → n ≡ min (length path) path_room → take n path ≡ take path_room path
shown_name path n e = go (dec_le (length path) path_room)
  where
    go : Dec (length path ≤ path_room) → take n path ≡ take path_room path
    go (yes h) = take_all n path (omega arith) ∙ sym (take_all path_room path h)
    go (no h) = let q : n ≡ path_room = omega arith in rw q

pub shown_within : (path : List ℕ) (n : ℕ) → n ≡ min (length path) path_room → n ≤ length path
shown_within path n e = omega arith

pub unreadable_fits : (which path cause : List ℕ) (n : ℕ) → ReadyForComplaint which cause → n ≡ min (length path) path_room
    → length (unreadable_text which (take n path) cause) ≤ text_room
unfolding named_text unreadable_text
unreadable_fits which path cause n ready e =
    simp length-append (omega (arith, length_words cause, length-take-le n path (shown_within path n e), ready.words_short, ready.which_short))

pub unknown_fits : (word : List ℕ) (n : ℕ) → n ≡ min (length word) path_room → length (complaint_text unknown_words (take n word)) ≤ text_room
unfolding complaint_text
unknown_fits word n e =
    omega (arith, length-append unknown_words (words_line (take n word)), length_words (take n word), length-take-le n word (shown_within word n e))

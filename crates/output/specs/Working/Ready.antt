-- What the functions of this crate ask of their callers, and tell them.
use Rattle.std.specs.Prelude.{ℕ, ◌≤◌, ◌≡◌, List, length}
use Rattle.units.specs.Limits.{task_limit}
use Rattle.refusals.specs.Numbers
use Rattle.refusals.specs.declared.Answer.{Answer}
use Rattle.lines.specs.Lines.{Puts}
use Rattle.output.specs.Texts.{longest_word, line_room}

-- a word that leaves room for its number, and marks of a task count that is in range where there is a plan
pub record ReadyForPlan (word : List ℕ) (answer : Answer) (n : ℕ) : Type 0 where
  pub short : length word ≤ longest_word
  pub few : answer.number ≡ Numbers.accepted → n ≤ task_limit

-- words that leave room for each other
pub record ReadyForComplaint (words which : List ℕ) : Type 0 where
  pub words_short : length words ≤ line_room
  pub which_short : length which ≤ line_room

-- a text put into a buffer, which is no longer than this room
pub record PutsWithin (before after : List ℕ) (at end room : ℕ) (text : List ℕ) : Type 0 where
  pub puts : Puts before after at end text
  pub within : length text ≤ room

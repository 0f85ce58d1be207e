-- What the programs print, byte by byte.
use Rattle.std.specs.Prelude.{ℕ, ◌+◌, ◌*◌, ◌≤◌, ◌≡◌, cond, List, [], ◌∷◌, ◌++◌, eqb, length, take, replicate}
use Rattle.units.specs.Limits.{task_limit}
use Rattle.refusals.specs.Numbers
use Rattle.refusals.specs.declared.Answer.{Answer}
use Rattle.state.specs.declared.Sums.{Sums}
use Rattle.state.specs.declared.Place.{Place}
use Rattle.names.specs.Names.{name_limit, held_in}
use Rattle.names.specs.declared.Held.{Held}
use Rattle.names.specs.declared.Names.{Names}
use Rattle.numerals.specs.Decimal.{decimal, word_digits}
use Rattle.lines.specs.Lines.{space, words_line, number_line, mark_digits, marks_line}
use Rattle.output.specs.Words.{
  time_word,
  marks_word,
  refused_word,
  position_word,
  awaited_word,
  yes_word,
  no_word,
  kept_word,
  redone_word,
  verify_word,
  saves_word,
  recovery_word,
  name_word,
}
pub use Rattle.lines.specs.declared.Text.{Text}

-- 'one line, the word and the number, as in `refused 6`'
unfoldable pub refused_text : ℕ → List ℕ
refused_text number = number_line refused_word number

-- what is wrong, and with which argument or file, on one line: `cannot read: ` and `sheet`
unfoldable pub complaint_text : (words which : List ℕ) → List ℕ
complaint_text words which = words ++ words_line which

-- the answer of a planner: the word for its figure and the figure, then one digit a task; or the refusal
unfoldable pub plan_text : (word : List ℕ) → Answer → (marks : List ℕ) → List ℕ
plan_text word answer marks =
    cond (eqb answer.number Numbers.accepted) (number_line word answer.time ++ marks_line marks_word marks) (refused_text answer.number)

-- the answer to marks that a user supplies: their time, or the refusal
unfoldable pub price_text : Answer → List ℕ
price_text answer = cond (eqb answer.number Numbers.accepted) (number_line time_word answer.time) (refused_text answer.number)

-- whether a verification is awaited
unfoldable pub awaited_text : ℕ → List ℕ
awaited_text awaiting = cond (eqb awaiting 0) (words_line (awaited_word ++ (space ∷ no_word))) (words_line (awaited_word ++ (space ∷ yes_word)))

-- the five sums of a run, in ticks
unfoldable pub sums_text : Sums → List ℕ
sums_text sums =
    number_line kept_word sums.kept
    ++ (number_line redone_word sums.redone
    ++ (number_line verify_word sums.verify
    ++ (number_line saves_word sums.saves
    ++ number_line recovery_word sums.recovery)))

-- where a run stands, and what it has counted
unfoldable pub run_text : Place → List ℕ
run_text place = number_line position_word place.position ++ (awaited_text place.awaiting ++ sums_text place.sums)

-- a name that is held, and its position, on one line: `name 7 position 2`
unfoldable pub held_line : Held → List ℕ
held_line h = name_word ++ (space ∷ (decimal h.name ++ (space ∷ number_line position_word h.place.position)))

-- one such line each, in their order
unfoldable pub held_text : List Held → List ℕ
held_text [] = []
held_text (h ∷ hs) = held_line h ++ held_text hs

-- the lines of a run, then those of the names that it holds
unfoldable pub standing_text : Place → Names → List ℕ
standing_text place names = run_text place ++ held_text (held_in names)

-- the longest word of a line
abbrev pub longest_word : ℕ
longest_word = 8

-- a line of a word and a number of 64 bits, with a space between them and its end
abbrev pub line_room : ℕ
line_room = longest_word + word_digits + 2

-- the lines of a run
abbrev pub run_lines : ℕ
run_lines = 7

-- the line of a held name: two words and two numbers
abbrev pub held_room : ℕ
held_room = 2 * line_room

-- the longest name of a file
abbrev pub path_room : ℕ
path_room = 4096

-- the room that a text has: the lines of a run and of all names that it may hold, a digit for each task, and the name of a file
abbrev pub text_room : ℕ
text_room = run_lines * line_room + name_limit * held_room + task_limit + path_room

-- a fresh buffer, which a program lends to a planner: a byte for each task that a sheet can have
abbrev pub blank_marks : List ℕ
blank_marks = replicate task_limit 0

-- what is printed of a text in its room: the bytes before its end
abbrev pub text_of : Text → List ℕ
text_of text = take text.length text.bytes

-- a text in its room
pub record Holds (text : List ℕ) (r : Text) : Type 0 where
  pub within : r.length ≤ length r.bytes
  pub bytes : text_of r ≡ text

-- what a planner's program prints: the text of an answer and of marks that keep the planner's promise for a fresh buffer
pub record PlanPrints (Promise : (before after : List ℕ) → Answer → Type 0) (word : List ℕ) (n : ℕ) (r : Text) : Type 0 where
  pub answer : Answer
  pub marks : List ℕ
  pub promise : Promise blank_marks marks answer
  pub text : Holds (plan_text word answer (take n marks)) r

-- what two answers with marks have in common where their texts are the same
pub record SameAnswer (r q : Answer) (m k : List ℕ) : Type 0 where
  pub number : r.number ≡ q.number
  pub figure : r.number ≡ Numbers.accepted → r.time ≡ q.time
  pub marks : r.number ≡ Numbers.accepted → mark_digits m ≡ mark_digits k

-- What the program prints for a sheet, marks, a log and the words after it.
use Rattle.std.specs.Prelude.{ℕ, ◌+◌, ◌-◌, ◌*◌, ◌<◌, ◌≤◌, ◌≡◌, cond, ◌⊎◌, ◌↔◌, List, ◌∷◌, eqb, length, Option, Some, Result, Ok, Err}
use Rattle.refusals.specs.Numbers
use Rattle.state.specs.declared.Run.{Run}
use Rattle.starting.specs.Start.{start_of}
use Rattle.names.specs.Names.{no_names}
use Rattle.named.specs.declared.NamedRun.{NamedRun}
use Rattle.naming.specs.Log.{log_of}
use Rattle.naming.specs.Turns.{Call, call_of, in_turn}
use Rattle.naming.specs.Turns.Call.{logged, named, dropped, returned}
use Rattle.naming.specs.declared.NamedStepped.{NamedStepped}
use Rattle.output.specs.Words.{endless_words, log_word, name_word, drop_word, return_word}
use Rattle.output.specs.Files.{FileTold}
use Rattle.output.specs.Texts.{refused_text, complaint_text, standing_text, Holds, Text}
use Rattle.follow.specs.declared.Command.{Command}
use Rattle.follow.specs.declared.Command.TheVariants.{Name, Drop, Return, Log}

-- the text of an answer: where the run stands, what it has counted and the names that it holds, or the refusal
unfoldable pub named_text : NamedStepped → List ℕ
named_text s = cond (eqb s.number Numbers.accepted) (standing_text s.state.run.place s.state.names) (refused_text s.number)

-- a run with no name held
abbrev pub unnamed : Run → NamedRun
unnamed run = record { run = run; names = no_names }

-- the program's own name, the marks and the log come before the pairs of words
abbrev pub first_pair : ℕ
first_pair = 3

-- a word and its partner
abbrev pub pair : ℕ
pair = 2

-- the words after the log, of so many in all
abbrev pub words_after : ℕ → ℕ
words_after count = count - first_pair

-- a log that could not be read, or that has no end
abbrev pub Unread : (path : List ℕ) → Text → Type 0
Unread path r = FileTold log_word path r ⊎ Holds (complaint_text endless_words log_word) r

-- the command that a word asks for: each of the known words has its own, and any other none
pub record CommandOf (word : List ℕ) (r : Option Command) : Type 0 where
  pub names : (r ≡ Some Name) ↔ (word ≡ name_word)
  pub drops : (r ≡ Some Drop) ↔ (word ≡ drop_word)
  pub returns : (r ≡ Some Return) ↔ (word ≡ return_word)
  pub logs : (r ≡ Some Log) ↔ (word ≡ log_word)

-- the answer to the call that a word with the number k asks for
pub record WordAnswers (state : NamedRun) (word : List ℕ) (k : ℕ) (r : NamedStepped) : Type 0 where
  pub call : Call
  pub answer : r ≡ call_of state call
  pub names : word ≡ name_word → call ≡ named k
  pub drops : word ≡ drop_word → call ≡ dropped k
  pub returns : word ≡ return_word → call ≡ returned k

-- an answer that is no refusal leads on from its state, and a refusal to its text, after which nothing is called
unfoldable pub Leads : NamedStepped → Result NamedRun Text → Type 0
Leads answer (Ok state) = (answer.number ≡ 0) × (state ≡ answer.state)
Leads answer (Err text) = (answer.number ≡ 0 → ⊥) × Holds (named_text answer) text

-- nothing is called after a log that could not be read
unfoldable pub Lost : (path : List ℕ) → Result NamedRun Text → Type 0
Lost path (Ok state) = ⊥
Lost path (Err text) = Unread path text

-- a log, read piece by piece and followed as one
pub record LogLeads (state : NamedRun) (r : Result NamedRun Text) : Type 0 where
  -- some log: which bytes were read, and whether they were all, no contract says
  pub log : List ℕ
  pub leads : Leads (log_of state log) r

-- what a log of this name leads to
abbrev pub LogLed : NamedRun → (path : List ℕ) → Result NamedRun Text → Type 0
LogLed state path r = LogLeads state r ⊎ Lost path r

-- a call, or a log of some name that could not be read: which words were given no contract says
pub record CallLeads (state : NamedRun) (r : Result NamedRun Text) : Type 0 where
  pub call : Call
  pub leads : Leads (call_of state call) r

pub record SomeLost (r : Result NamedRun Text) : Type 0 where
  pub path : List ℕ
  pub lost : Lost path r

abbrev pub CallLed : NamedRun → Result NamedRun Text → Type 0
CallLed state r = CallLeads state r ⊎ SomeLost r

-- the text of calls in turn, one for each two words, unless a refusal ended them
pub record TurnsText (state : NamedRun) (words : ℕ) (r : Text) : Type 0 where
  pub calls : List Call
  pub few : pair * length calls ≤ words
  pub all : (in_turn state calls).number ≡ 0 → words < pair * length calls + pair
  pub text : Holds (named_text (in_turn state calls)) r

-- a later log that could not be read
pub record LaterUnread (words : ℕ) (r : Text) : Type 0 where
  pub asked : pair ≤ words
  pub path : List ℕ
  pub told : Unread path r

abbrev pub TurnsPrint : NamedRun → (words : ℕ) → Text → Type 0
TurnsPrint state words r = TurnsText state words r ⊎ LaterUnread words r

-- the text of the log and of the calls after it, in turn: the first refusal ends them
pub record CallsText (state : NamedRun) (words : ℕ) (r : Text) : Type 0 where
  pub log : List ℕ
  pub calls : List Call
  pub few : pair * length calls ≤ words
  pub all : (in_turn state (logged log ∷ calls)).number ≡ 0 → words < pair * length calls + pair
  pub text : Holds (named_text (in_turn state (logged log ∷ calls))) r

-- what is printed of the log of this name and the words after it
abbrev pub RunPrints : NamedRun → (path : List ℕ) → (words : ℕ) → Text → Type 0
RunPrints state path words r = CallsText state words r ⊎ (Unread path r ⊎ LaterUnread words r)

-- what is printed for a sheet, marks, the log of this name, once it is open, and the words after it: the refusal of the start, or what is printed from the fresh
-- run on
pub record FollowPrints (s marks path : List ℕ) (words : ℕ) (r : Text) : Type 0 where
  pub refused : 0 < (start_of s marks).number → Holds (refused_text (start_of s marks).number) r
  pub followed : (start_of s marks).number ≡ 0 → RunPrints (unnamed (start_of s marks).run) path words r

-- and for a call: that the log cannot be opened, or this
abbrev pub CallPrints : (s marks path : List ℕ) (words : ℕ) → Text → Type 0
CallPrints s marks path words r = FileTold log_word path r ⊎ FollowPrints s marks path words r

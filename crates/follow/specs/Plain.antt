-- What the program prints where no words come after the log: as for a run that holds no names at all.
use Rattle.std.specs.Prelude.{ℕ, ◌<◌, ◌≡◌, cond, ◌⊎◌, List, eqb}
use Rattle.refusals.specs.Numbers
use Rattle.state.specs.declared.Run.{Run}
use Rattle.following.specs.declared.Stepped.{Stepped}
use Rattle.starting.specs.Start.{start_of}
use Rattle.logs.specs.Log.{log_of}
use Rattle.output.specs.Words.{log_word}
use Rattle.output.specs.Files.{FileTold}
use Rattle.output.specs.Texts.{refused_text, run_text, Holds, Text}
use Rattle.follow.specs.Prints.{Unread}

-- the text of what following a log gives: where the run stands and what it has counted, or the refusal
unfoldable pub followed_text : Stepped → List ℕ
followed_text s = cond (eqb s.number Numbers.accepted) (run_text s.run.place) (refused_text s.number)

pub record PlainText (run : Run) (r : Text) : Type 0 where
  pub log : List ℕ
  pub text : Holds (followed_text (log_of run log)) r

-- once the log is open
pub record PlainFollow (s marks path : List ℕ) (r : Text) : Type 0 where
  pub refused : 0 < (start_of s marks).number → Holds (refused_text (start_of s marks).number) r
  pub followed : (start_of s marks).number ≡ 0 → PlainText (start_of s marks).run r ⊎ Unread path r

-- and for a call
abbrev pub PlainPrints : (s marks path : List ℕ) → Text → Type 0
PlainPrints s marks path r = FileTold log_word path r ⊎ PlainFollow s marks path r

-- No text is longer than its room, and a text put into an empty room from its start is what the room holds. Assumes nothing.
use Prim.Native.Nat.{ℕ, ◌*◌, ◌≤◌}
use mathlib.Core.Path.{◌≡◌, refl, ◌∙◌}
use mathlib.Core.Bool.{Bool, true, false, cond}
use mathlib.Core.List.{List, ◌∷◌, ◌++◌}
use native.Mathlib.Omega.{arith}
use borrow.Author.Tests.{eq-eqb, ne_eqb}
use lib.Dec.{eqb}
use lib.ListN.{length, take, length-append, length-take}
use Rattle.units.specs.Limits.{task_limit}
use Rattle.refusals.specs.Numbers
use Rattle.refusals.specs.declared.Answer.{Answer}
use Rattle.state.specs.declared.Sums.{Sums}
use Rattle.state.specs.declared.Place.{Place}
use Rattle.numerals.specs.Digits.{word_most}
use Rattle.lines.specs.Lines.{space, words_line, number_line, marks_line, Room, Puts}
use Rattle.lines.proofs.Lines.{numbered_most, length_words, length_marked}
use Rattle.lines.specs.declared.Text.{Text}
use Rattle.lines.proofs.Buffers.{puts_front, puts_length}
use Rattle.output.specs.Words.{marks_word, kept_word, redone_word, verify_word, saves_word, recovery_word, position_word, awaited_word, yes_word, no_word, time_word}
use Rattle.output.specs.Texts.{refused_text, complaint_text, plan_text, price_text, awaited_text, sums_text, run_text, longest_word, line_room, run_lines, text_room, Holds}
use Rattle.output.specs.Working.Ready.{ReadyForComplaint}

-- an empty text takes each text that is short enough
pub room_empty : {a text : List ℕ} {at : ℕ} → at ≡ 0 → length a ≡ text_room → length text ≤ text_room → Room a at text
room_empty {a} {text} e long h = record { fits = omega arith }

-- and holds it
pub room_holds : {a text : List ℕ} {at : ℕ} {r : Text} → at ≡ 0 → Room a at text → Puts a r.bytes at r.length text → Holds text r
room_holds {a} {text} {at} {r} e room p =
    record { within = omega (arith, room.fits, p.ends, puts_length p); bytes = puts_front room p ∙ rw e refl }

-- a word and a number of 64 bits
pub line_fits : (word : List ℕ) (n : ℕ) → length word ≤ longest_word → n ≤ word_most → length (number_line word n) ≤ line_room
line_fits word n short h = omega (arith, numbered_most word n h)

pub line_room_lem : (word : List ℕ) (n : ℕ) → length word ≤ longest_word → n ≤ word_most → length (number_line word n) ≤ text_room
line_room_lem word n short h = omega (arith, line_fits word n short h)

pub complaint_fits : (words which : List ℕ) → ReadyForComplaint words which → length (complaint_text words which) ≤ text_room
unfolding complaint_text
complaint_fits words which ready = omega (arith, length-append words (words_line which), length_words which, ready.words_short, ready.which_short)

-- the line of a time or an energy, and the marks
pub plan_fits : (word : List ℕ) (time : ℕ) (marks : List ℕ) (n : ℕ) → length word ≤ longest_word → time ≤ word_most → n ≤ task_limit
    → length (number_line word time ++ marks_line marks_word (take n marks)) ≤ text_room
plan_fits word time marks n short h few =
    omega (
      arith,
      length-append (number_line word time) (marks_line marks_word (take n marks)),
      line_fits word time short h,
      length_marked marks_word (take n marks),
      length-take n marks,
    )

awaited_fits : (awaiting : ℕ) → length (awaited_text awaiting) ≤ line_room
unfolding awaited_text
awaited_fits awaiting = go (eqb awaiting 0)
  where
    go : (b : Bool) → length (cond b (words_line (awaited_word ++ (space ∷ no_word))) (words_line (awaited_word ++ (space ∷ yes_word)))) ≤ line_room
    go true = omega (arith, length_words (awaited_word ++ (space ∷ no_word)))
    go false = omega (arith, length_words (awaited_word ++ (space ∷ yes_word)))

-- sums of 64 bits
pub record Words (sums : Sums) : Type 0 where
  pub kept : sums.kept ≤ word_most
  pub redone : sums.redone ≤ word_most
  pub verify : sums.verify ≤ word_most
  pub saves : sums.saves ≤ word_most
  pub recovery : sums.recovery ≤ word_most

sums_fit : (sums : Sums) → Words sums → length (sums_text sums) ≤ 5 * line_room
unfolding sums_text
sums_fit sums w =
    simp length-append (omega (
      arith,
      line_fits kept_word sums.kept (omega arith) w.kept,
      line_fits redone_word sums.redone (omega arith) w.redone,
      line_fits verify_word sums.verify (omega arith) w.verify,
      line_fits saves_word sums.saves (omega arith) w.saves,
      line_fits recovery_word sums.recovery (omega arith) w.recovery,
    ))

pub run_fits : (place : Place) → place.position ≤ word_most → Words place.sums → length (run_text place) ≤ run_lines * line_room
unfolding run_text
run_fits place h w =
    simp length-append (omega (
      arith,
      line_fits position_word place.position (omega arith) h,
      awaited_fits place.awaiting,
      sums_fit place.sums w,
    ))

pub room_run : {a text : List ℕ} {at : ℕ} → at ≡ 0 → length a ≡ text_room → length text ≤ run_lines * line_room → Room a at text
room_run e long h = room_empty e long (omega arith)

-- an answer that is refused, and one that is not
pub plan_refused : (word : List ℕ) (answer : Answer) (marks : List ℕ) → (answer.number ≡ Numbers.accepted → ⊥) → plan_text word answer marks ≡ refused_text answer.number
unfolding plan_text
plan_refused word answer marks h = rw (ne_eqb answer.number Numbers.accepted h) refl

pub plan_accepted : (word : List ℕ) (answer : Answer) (marks : List ℕ) → answer.number ≡ Numbers.accepted
    → plan_text word answer marks ≡ number_line word answer.time ++ marks_line marks_word marks
unfolding plan_text
plan_accepted word answer marks e = rw (eq-eqb answer.number Numbers.accepted e) refl

pub price_refused : (answer : Answer) → (answer.number ≡ Numbers.accepted → ⊥) → price_text answer ≡ refused_text answer.number
unfolding price_text
price_refused answer h = rw (ne_eqb answer.number Numbers.accepted h) refl

pub price_accepted : (answer : Answer) → answer.number ≡ Numbers.accepted → price_text answer ≡ number_line time_word answer.time
unfolding price_text
price_accepted answer e = rw (eq-eqb answer.number Numbers.accepted e) refl

-- a verification that is awaited, and one that is not
pub awaited_no : (awaiting : ℕ) → awaiting ≡ 0 → awaited_text awaiting ≡ words_line (awaited_word ++ (space ∷ no_word))
unfolding awaited_text
awaited_no awaiting e = rw (eq-eqb awaiting 0 e) refl

pub awaited_yes : (awaiting : ℕ) → (awaiting ≡ 0 → ⊥) → awaited_text awaiting ≡ words_line (awaited_word ++ (space ∷ yes_word))
unfolding awaited_text
awaited_yes awaiting h = rw (ne_eqb awaiting 0 h) refl

-- The lines of held names, one after another, and that they fit their room. Assumes nothing.
use Prim.Native.Nat.{ℕ, ◌+◌, ◌*◌, min, ◌≤◌, ◌<◌}
use mathlib.Core.Path.{◌≡◌, refl, sym, ◌∙◌}
use mathlib.Core.List.{List, [], ◌∷◌, ◌++◌, append_assoc, append-nil}
use native.Mathlib.Decide.{dec_le}
use native.Mathlib.Numerals.{add-one}
use native.Mathlib.Omega.{arith}
use lib.ListN.{length, take, get_or, length-append}
use lib.Seq.{take-suc, take_all}
use Rattle.names.specs.Names.{name_limit, no_held}
use Rattle.names.specs.declared.Held.{Held}
use Rattle.numerals.specs.Digits.{word_most}
use Rattle.numerals.specs.Decimal.{decimal}
use Rattle.numerals.proofs.Decimals.{decimal_word}
use Rattle.lines.specs.Lines.{space, number_line, Room, Puts}
use Rattle.lines.specs.declared.Text.{Text}
use Rattle.lines.proofs.Buffers.{puts_then, puts_length}
use Rattle.output.specs.Words.{name_word, position_word}
use Rattle.output.specs.Texts.{held_line, held_text, line_room, run_lines, held_room, text_room, Holds}
use Rattle.output.specs.Working.Ready.{PutsWithin}
use Rattle.output.proofs.Lengths.{room_empty, room_holds, line_fits}

-- a name and a position of 64 bits
pub held_fits : (h : Held) → h.name ≤ word_most → h.place.position ≤ word_most → length (held_line h) ≤ held_room
unfolding held_line
held_fits h n p =
    let rest = space ∷ number_line position_word h.place.position in
    omega (
      arith,
      length-append name_word (space ∷ (decimal h.name ++ rest)),
      length-append (decimal h.name) rest,
      decimal_word h.name n,
      line_fits position_word h.place.position (omega arith) p,
    )

pub held_room_lem : {out : List ℕ} {at : ℕ} (h : Held) → h.name ≤ word_most → h.place.position ≤ word_most → at + held_room ≤ length out → Room out at (held_line h)
held_room_lem h n p room = record { fits = omega (arith, held_fits h n p) }

-- a held name more
texts_append : (a b : List Held) → held_text (a ++ b) ≡ held_text a ++ held_text b
unfolding held_text
texts_append [] b = refl
texts_append (h ∷ a) b = rw (texts_append a b) (sym (append_assoc (held_line h) (held_text a) (held_text b)))

one_text : (h : Held) → held_text (h ∷ []) ≡ held_line h
unfolding held_text
one_text h = append-nil (held_line h)

text_more : (entries : List Held) (j : ℕ) → j < length entries → held_text (take (j + 1) entries) ≡ held_text (take j entries) ++ held_line (get_or entries j no_held)
text_more entries j h =
    rw (add-one j, take-suc entries j no_held h, texts_append (take j entries) (get_or entries j no_held ∷ []), one_text (get_or entries j no_held)) refl

-- the lines of the first j entries are put
pub record PuttingEntries (before out : List ℕ) (entries : List Held) (at end j : ℕ) : Type 0 where
  pub few : j ≤ length entries
  pub put : PutsWithin before out at end (j * held_room) (held_text (take j entries))

pub entries_none : (b : List ℕ) (entries : List Held) (at : ℕ) → PuttingEntries b b entries at at 0
unfolding held_text
entries_none b entries at = record { few = omega arith; put = record { puts = record { ends = omega arith; stored = refl }; within = omega arith } }

pub entries_more : {a b c : List ℕ} {entries : List Held} {at mid end j : ℕ} → j < length entries → PuttingEntries a b entries at mid j
    → PutsWithin b c mid end held_room (held_line (get_or entries j no_held)) → PuttingEntries a c entries at end (j + 1)
entries_more {a} {b} {c} {entries} {at} {mid} {end} {j} h p q =
    record {
      few = omega arith;
      put =
          record {
            puts = rw (text_more entries j h) (puts_then p.put.puts q.puts);
            within = rw (text_more entries j h) (omega (arith, p.put.within, q.within, length-append (held_text (take j entries)) (held_line (get_or entries j no_held))));
          };
    }

pub entries_all : {a b : List ℕ} {entries : List Held} {at end j : ℕ} → length entries ≤ j → PuttingEntries a b entries at end j
    → PutsWithin a b at end (length entries * held_room) (held_text entries)
entries_all {a} {b} {entries} {at} {end} {j} h p =
    let e : j ≡ length entries = omega (arith, p.few) in
    let all : take j entries ≡ entries = take_all j entries h in
    rw (← e) (rw all at p.put)

-- the room that is left for the next
pub entries_room : {a b : List ℕ} {entries : List Held} {at end j : ℕ} → j < length entries → at + length entries * held_room ≤ length a
    → PuttingEntries a b entries at end j → end + held_room ≤ length b
entries_room {a} {b} {entries} {at} {end} {j} h room p = omega (arith, p.put.within, p.put.puts.ends, puts_length p.put.puts)

-- more than the limit are all that there are
pub shown_entries : (count : ℕ) (entries : List Held) (n : ℕ) → length entries ≡ name_limit → n ≡ min count name_limit → take n entries ≡ take count entries
shown_entries count entries n long e = go (dec_le count name_limit)
  where
    go : Dec (count ≤ name_limit) → take n entries ≡ take count entries
    go (yes h) = let q : n ≡ count = omega arith in rw q refl
    go (no h) = take_all n entries (omega (arith, long)) ∙ sym (take_all count entries (omega (arith, long)))

-- the lines of a run leave room for those of its names, and together they are one text
module _ {a b run : List ℕ} {at mid n : ℕ} (e : at ≡ 0) (long : length a ≡ text_room) (short : length run ≤ run_lines * line_room) (few : n ≤ name_limit)
    (put : Puts a b at mid run) where
  pub entries_after : mid + n * held_room ≤ length b
  entries_after = omega (arith, put.ends, puts_length put)

  pub standing_holds : {text : List ℕ} {r : Text} → PutsWithin b r.bytes mid r.length (n * held_room) text → Holds (run ++ text) r
  standing_holds {text} {r} p =
      room_holds e (room_empty e long (omega (arith, few, short, p.within, length-append run text))) (puts_then put p.puts)

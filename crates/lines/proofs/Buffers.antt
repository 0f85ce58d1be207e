-- Texts put into a buffer one after the other are one text, and the bytes up to its end are what stood before it, and the text. Assumes nothing.
use Prim.Native.Nat.{ℕ, ◌+◌, ◌-◌, ◌≤◌, ◌<◌}
use mathlib.Core.Path.{◌≡◌, refl, sym, ◌∙◌}
use mathlib.Core.List.{List, [], ◌∷◌, ◌++◌, append_assoc}
use borrow.Rule.Slice.PartMut.{put_mid, Post-is}
use native.Mathlib.Numerals.{add-one}
use native.Mathlib.Omega.{arith}
use lib.ListN.{length, take, drop, get_or, length-append}
use lib.Seq.{sets-eq, length-sets, take_at, take-suc, take_all, length-take-le}
use Rattle.fields.proofs.Stores.{sets_append}
use Rattle.lines.specs.Lines.{Room, Puts}

-- the bytes of a text, copied into their part of the buffer
pub puts_copied : (b text bytes : List ℕ) (at : ℕ) → Room b at text → bytes ≡ text
    → Puts b (put_mid at (at + length text - at) b bytes) at (at + length text) text
puts_copied b text bytes at room e =
    record {
      ends = refl;
      stored = rw (e, Post-is at (at + length text) b (omega arith)) (sym (sets-eq text b at room.fits ∙ append_assoc (take at b) text (drop (at + length text) b)));
    }

-- one text after another
pub puts_then : {a b c : List ℕ} {at mid end : ℕ} {x y : List ℕ} → Puts a b at mid x → Puts b c mid end y → Puts a c at end (x ++ y)
puts_then {a} {b} {c} {at} {mid} {end} {x} {y} f g =
    record {
      ends = omega (arith, f.ends, g.ends, length-append x y);
      stored = g.stored ∙ rw f.stored (sets_append x y a at mid f.ends);
    }

-- the buffer keeps its length
pub puts_length : {a b : List ℕ} {at end : ℕ} {x : List ℕ} → Puts a b at end x → length b ≡ length a
puts_length {a} {b} {at} {end} {x} f = rw f.stored (length-sets a at x)

-- room for two texts is room for the first, and for the second after it
pub room_first : {b x : List ℕ} {at : ℕ} (y : List ℕ) → Room b at (x ++ y) → Room b at x
room_first {b} {x} {at} y room = record { fits = omega (arith, length-append x y) }

pub room_then : {a b x y : List ℕ} {at mid : ℕ} → Room a at (x ++ y) → Puts a b at mid x → Room b mid y
room_then {a} {b} {x} {y} {at} {mid} room f = record { fits = omega (arith, room.fits, f.ends, puts_length f, length-append x y) }

-- the bytes up to the end
pub puts_front : {a b : List ℕ} {at end : ℕ} {x : List ℕ} → Room a at x → Puts a b at end x → take end b ≡ take at a ++ x
puts_front {a} {b} {at} {end} {x} room f =
    rw (f.stored, sets-eq x a at room.fits)
    (take_at (take at a ++ x) (drop (at + length x) a) end (omega (arith, f.ends, length-append (take at a) x, length-take-le at a (omega arith))))

-- a text at the front
pub puts_text : {a b : List ℕ} {end : ℕ} {x : List ℕ} → Room a 0 x → Puts a b 0 end x → take end b ≡ x
puts_text room f = puts_front room f

-- the first j bytes of a text are put
pub record Putting (before out text : List ℕ) (at end j : ℕ) : Type 0 where
  pub within : j ≤ length text
  pub front : Puts before out at end (take j text)

pub putting_none : (b text : List ℕ) (at : ℕ) → Putting b b text at at 0
putting_none b text at = record { within = omega arith; front = record { ends = omega arith; stored = refl } }

-- one byte more
pub putting_more : {a b c text : List ℕ} {at mid end j : ℕ} (x : ℕ) → j < length text → get_or text j 0 ≡ x → Putting a b text at mid j
    → Puts b c mid end (x ∷ []) → Putting a c text at end (j + 1)
putting_more {a} {b} {c} {text} {at} {mid} {end} {j} x h e p byte =
    let front : take (j + 1) text ≡ take j text ++ (x ∷ []) = rw (add-one j, take-suc text j 0 h, e) refl in
    record { within = omega arith; front = rw front (puts_then p.front byte) }

-- which there is room for
pub putting_room : {a b text : List ℕ} {at mid j : ℕ} (x : ℕ) → Room a at text → j < length text → Putting a b text at mid j → Room b mid (x ∷ [])
putting_room {a} {b} {text} {at} {mid} {j} x room h p =
    record { fits = omega (arith, room.fits, p.front.ends, puts_length p.front, length-take-le j text (omega arith)) }

-- all of them
pub putting_all : {a b text : List ℕ} {at end j : ℕ} → length text ≤ j → Putting a b text at end j → Puts a b at end text
putting_all {a} {b} {text} {at} {end} {j} h p = let all : take j text ≡ text = take_all j text h in rw all at p.front

-- Entries put and taken out: what the code stores is what the definitions say. Assumes nothing.
use Prim.Native.Nat.{ℕ, suc, ◌+◌, ◌-◌, ◌≤◌, ◌<◌}
use mathlib.Core.Path.{◌≡◌, refl, sym, ◌∙◌, ap}
use mathlib.Core.List.{List, [], ◌∷◌, ◌++◌, append_assoc}
use native.Mathlib.Omega.{arith}
use lib.ListN.{length, get_or, take, drop, set, length-append, length-drop, take-append-drop, drop_of_length-le}
use lib.Seq.{take-suc, drop-cons, drop-append-le, get_or-append-add, set_at, set_split, get_or-drop, take-take, take_at, length-take-le}
use Rattle.names.specs.Names.{name_limit, no_held, held_in, put_at, without, holding, put, taken_out}
use Rattle.names.specs.declared.Held.{Held}
use Rattle.names.specs.declared.Names.{Names}

-- the held ones past m, then those past all held, are those past m
rest_held : (n m : ℕ) (l : List Held) → m ≤ n → n ≤ length l → drop m (take n l) ++ drop n l ≡ drop m l
rest_held n m l h k =
    sym (drop-append-le m (take n l) (drop n l) (rw (length-take-le n l k) h)) ∙ ap (drop m) (take-append-drop n l)

-- the entries after a slot, up to n
between : (slot n : ℕ) (l : List Held) → slot < n → n ≤ length l → take (n - 1 - slot) (drop (suc slot) l) ≡ drop (suc slot) (take n l)
between slot n l h k =
    let size : length (drop (suc slot) (take n l)) ≡ n - 1 - slot = length-drop (suc slot) (take n l) ∙ rw (length-take-le n l k) (omega arith) in
    rw (← (rest_held n (suc slot) l h k)) (take_at (drop (suc slot) (take n l)) (drop n l) (n - 1 - slot) size)

-- names whose held ones are these, and whose other entries are those
abbrev pub held_then : (count : ℕ) → List Held → Names
held_then count entries = record { count = count; entries = entries }

-- as many held as before
same_count : (n : ℕ) (l hs : List Held) → length hs ≡ n → holding (held_then n l) hs ≡ held_then n (hs ++ drop n l)
unfolding holding
same_count n l hs e =
    let none : n - length hs ≡ 0 = omega (arith, e) in
    let all : length hs + 0 ≡ n = omega (arith, e) in
    rw (none, all, e)

-- one more
more_count : (n : ℕ) (l hs : List Held) → length hs ≡ n + 1 → holding (held_then n l) hs ≡ held_then (n + 1) (hs ++ drop (n + 1) l)
unfolding holding
more_count n l hs e =
    let none : n - length hs ≡ 0 = omega (arith, e) in
    let all : length hs + 0 ≡ n + 1 = omega (arith, e) in
    rw (none, all, e)

-- one less
less_count : (n : ℕ) (l hs : List Held) → 0 < n → length hs ≡ n - 1 → holding (held_then n l) hs ≡ held_then (n - 1) (hs ++ (no_held ∷ drop n l))
unfolding holding
less_count n l hs p e =
    let one : n - length hs ≡ 1 = omega (arith, e) in
    let all : length hs + 1 ≡ n = omega (arith, e) in
    rw (one, all, e)

module _ (names : Names) (long : length names.entries ≡ name_limit) (few : names.count ≤ name_limit) where
  within : names.count ≤ length names.entries
  within = rw long few

  held_long : length (held_in names) ≡ names.count
  held_long = length-take-le names.count names.entries within

  front_long : (slot : ℕ) → slot ≤ names.count → length (take slot names.entries) ≡ slot
  front_long slot h = length-take-le slot names.entries (omega (arith, within, h))

  past_long : (slot : ℕ) → length (drop (suc slot) (held_in names)) ≡ names.count - suc slot
  past_long slot = length-drop (suc slot) (held_in names) ∙ ap (λ x. x - suc slot) held_long

  -- an entry replaced
  pub put_same : (slot : ℕ) (h : Held) → slot < names.count → held_then names.count (set names.entries slot h) ≡ put names slot h
  unfolding put_at
  put_same slot h s =
      let n : ℕ = names.count in
      let before = take-take slot n names.entries (omega (arith, s)) in
      let front = front_long slot (omega (arith, s)) in
      let hs : List Held = take slot names.entries ++ (h ∷ drop (suc slot) (held_in names)) in
      let size : length hs ≡ n =
      length-append (take slot names.entries) (h ∷ drop (suc slot) (held_in names)) ∙ rw (front, past_long slot) (omega (arith, s)) in
      let past : drop (suc slot) (held_in names) ++ drop n names.entries ≡ drop (suc slot) names.entries = rest_held n (suc slot) names.entries s within in
      let stored : hs ++ drop n names.entries ≡ set names.entries slot h =
      append_assoc (take slot names.entries) (h ∷ drop (suc slot) (held_in names)) (drop n names.entries)
      ∙ ap (λ (x : List Held). take slot names.entries ++ (h ∷ x)) past
      ∙ sym (set_split names.entries slot h (omega (arith, s, within))) in
      rw before (sym (same_count n names.entries hs size ∙ ap (held_then n) stored))

  -- an entry after the last one
  pub put_new : (slot : ℕ) (h : Held) → slot ≡ names.count → slot < name_limit → held_then (names.count + 1) (set names.entries slot h) ≡ put names slot h
  unfolding put_at
  put_new slot h s room =
      let n : ℕ = names.count in
      let before = take-take slot n names.entries (omega (arith, s)) in
      let front = front_long slot (omega (arith, s)) in
      let none = drop_of_length-le (held_in names) {i = suc slot} (omega (arith, held_long, s)) in
      let hs : List Held = take slot names.entries ++ (h ∷ []) in
      let size : length hs ≡ n + 1 = length-append (take slot names.entries) (h ∷ []) ∙ rw front (omega (arith, s)) in
      let next : n + 1 ≡ suc slot = omega (arith, s) in
      let stored : hs ++ drop (n + 1) names.entries ≡ set names.entries slot h =
      append_assoc (take slot names.entries) (h ∷ []) (drop (n + 1) names.entries)
      ∙ ap (λ x. take slot names.entries ++ (h ∷ drop x names.entries)) next
      ∙ sym (set_split names.entries slot h (omega (arith, long, room))) in
      rw (before, none) (sym (more_count n names.entries hs size ∙ ap (held_then (n + 1)) stored))

  -- an entry taken out
  pub take_out_is : (slot : ℕ) → slot < names.count
      → held_then (names.count - 1) (take slot names.entries ++ (drop (suc slot) (held_in names) ++ (no_held ∷ drop names.count names.entries))) ≡ taken_out names slot
  unfolding without
  take_out_is slot s =
      let n : ℕ = names.count in
      let before = take-take slot n names.entries (omega (arith, s)) in
      let hs : List Held = take slot names.entries ++ drop (suc slot) (held_in names) in
      let size : length hs ≡ n - 1 =
      length-append (take slot names.entries) (drop (suc slot) (held_in names)) ∙ rw (front_long slot (omega (arith, s)), past_long slot) (omega (arith, s)) in
      rw before
      (sym (less_count n names.entries hs (omega (arith, s)) size
      ∙ ap (held_then (n - 1)) (append_assoc (take slot names.entries) (drop (suc slot) (held_in names)) (no_held ∷ drop n names.entries))))

-- The loop's invariant: from a slot on, the entries before j are those after it, one up.
pub record MovedUp (l : List Held) (slot last : ℕ) (entries : List Held) (j : ℕ) : Type 0 where
  pub from : slot ≤ j
  pub to : j ≤ last
  pub are : entries ≡ take slot l ++ (take (j - slot) (drop (suc slot) l) ++ drop j l)

module _ (l : List Held) (slot last : ℕ) (room : last < length l) where
  -- the entries before j
  up : (j : ℕ) → List Held
  up j = take slot l ++ take (j - slot) (drop (suc slot) l)

  up_long : (j : ℕ) → slot ≤ j → j ≤ last → length (up j) ≡ j
  unfolding up
  up_long j h k =
      length-append (take slot l) (take (j - slot) (drop (suc slot) l))
      ∙ rw (
        length-take-le slot l (omega (arith, room)),
        length-take-le (j - slot) (drop (suc slot) l) (rw (length-drop (suc slot) l) (omega (arith, room))),
      ) (omega arith)

  up_then : (j : ℕ) (rest : List Held) → take slot l ++ (take (j - slot) (drop (suc slot) l) ++ rest) ≡ up j ++ rest
  unfolding up
  up_then j rest = sym (append_assoc (take slot l) (take (j - slot) (drop (suc slot) l)) rest)

  up_more : (j : ℕ) → slot ≤ j → j < last → up (j + 1) ≡ up j ++ (get_or l (j + 1) no_held ∷ [])
  unfolding up
  up_more j h k =
      let size : j + 1 - slot ≡ suc (j - slot) = omega arith in
      let at : suc slot + (j - slot) ≡ j + 1 = omega arith in
      let one = take-suc (drop (suc slot) l) (j - slot) no_held (rw (length-drop (suc slot) l) (omega (arith, room))) in
      let read : get_or (drop (suc slot) l) (j - slot) no_held ≡ get_or l (j + 1) no_held = get_or-drop (suc slot) l (j - slot) no_held ∙ ap (λ x. get_or l x no_held) at in
      rw (size, one, read) (sym (append_assoc (take slot l) (take (j - slot) (drop (suc slot) l)) (get_or l (j + 1) no_held ∷ [])))

  pub moved_none : slot ≤ last → MovedUp l slot last l slot
  moved_none h =
      let none : slot - slot ≡ 0 = omega arith in
      record { from = omega arith; to = h; are = rw none (sym (take-append-drop slot l)) }

  -- what stands one further
  pub moved_next : (entries : List Held) (j : ℕ) → MovedUp l slot last entries j → get_or entries (j + 1) no_held ≡ get_or l (j + 1) no_held
  moved_next entries j m =
      let size = up_long j m.from m.to in
      let at : length (up j) + 1 ≡ j + 1 = omega (arith, size) in
      rw (m.are, up_then j (drop j l))
      (ap (λ x. get_or (up j ++ drop j l) x no_held) (sym at) ∙ get_or-append-add (up j) (drop j l) 1 no_held ∙ get_or-drop j l 1 no_held)

  pub moved_more : (entries : List Held) (j : ℕ) → MovedUp l slot last entries j → j < last
      → MovedUp l slot last (set entries j (get_or entries (j + 1) no_held)) (j + 1)
  moved_more entries j m k =
      let x : Held = get_or l (j + 1) no_held in
      let rest = drop-cons l j no_held (omega (arith, room)) in
      let next : suc j ≡ j + 1 = omega arith in
      let stored : set (up j ++ drop j l) j x ≡ up j ++ (x ∷ drop (suc j) l) =
      rw rest (set_at (up j) (get_or l j no_held) (drop (suc j) l) x j (up_long j m.from m.to)) in
      let more : up j ++ (x ∷ drop (suc j) l) ≡ up (j + 1) ++ drop (j + 1) l =
      sym (append_assoc (up j) (x ∷ []) (drop (suc j) l)) ∙ ap (λ (z : List Held). z ++ drop (suc j) l) (sym (up_more j m.from k)) ∙ ap (λ z. up (j + 1) ++ drop z l) next in
      record {
        from = omega (arith, m.from);
        to = omega (arith, k);
        are =
            rw (moved_next entries j m) (ap (λ (e : List Held). set e j x) (m.are ∙ up_then j (drop j l)) ∙ stored ∙ more ∙ sym (up_then (j + 1) (drop (j + 1) l)));
      }

  -- all moved up, and the last one free
  pub moved_all : (entries : List Held) (j : ℕ) → MovedUp l slot last entries j → last ≤ j
      → set entries last no_held ≡ take slot l ++ (drop (suc slot) (take (last + 1) l) ++ (no_held ∷ drop (last + 1) l))
  moved_all entries j m k =
      let all : j ≡ last = omega (arith, m.to) in
      let rest = drop-cons l last no_held room in
      let next : suc last ≡ last + 1 = omega arith in
      let size : last + 1 - 1 - slot ≡ last - slot = omega arith in
      let mine : take (last - slot) (drop (suc slot) l) ≡ drop (suc slot) (take (last + 1) l) =
      rw (← size) (between slot (last + 1) l (omega (arith, m.from)) (omega (arith, room))) in
      rw (m.are, all, up_then last (drop last l), rest)
      (set_at (up last) (get_or l last no_held) (drop (suc last) l) no_held last (up_long last (rw (← all) m.from) (omega arith))
      ∙ sym (up_then last (no_held ∷ drop (suc last) l))
      ∙ rw (mine, next) refl)

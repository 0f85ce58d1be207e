-- Entries of a fresh run. What is copied to the front of a list of one value are the first entries; where the tasks, the list or the room end, so do those.
-- Assumes nothing.
use Prim.Native.Nat.{ℕ, ◌+◌, ◌-◌, ◌≤◌, ◌<◌}
use mathlib.Core.Path.{◌≡◌, sym, ◌∙◌}
use mathlib.Core.Bool.{cond}
use mathlib.Core.List.{List, ◌++◌}
use mathlib.Core.Logic.{◌⊎◌, inl, inr}
use native.Mathlib.Decide.{dec_lt}
use native.Mathlib.Omega.{arith}
use borrow.Author.Tests.{lt-ltb, le-ltb}
use lib.Dec.{ltb}
use lib.ListN.{length, get_or, take, drop, replicate, length-append, length-drop, length-replicate, get_or-append, get_or-replicate, get_or-eq_default}
use lib.Seq.{ext_get_or, get_or-take, get_or-drop, get_or-append_right, length-take-le}
use Rattle.lists.specs.Lists.{tabulate}
use Rattle.lists.proofs.Lists.{length_tabulate, get_d_tabulate}
use Rattle.units.specs.Limits.{task_limit}
use Rattle.job.specs.declared.Job.{Job}
use Rattle.state.specs.State.{cleared, fresh, ZeroPast}
use Rattle.state.specs.Working.Entries.{Entries, First}

-- an entry that is taken, and one that is not
entry : List ℕ → ℕ → ℕ → ℕ
entry l n i = cond (ltb i n) (get_or l i 0) 0

taken_entry : (l : List ℕ) (n i : ℕ) → i < n → entry l n i ≡ get_or l i 0
unfolding entry
taken_entry l n i h = rw (lt-ltb i n h)

left_entry : (l : List ℕ) (n i : ℕ) → n ≤ i → entry l n i ≡ 0
unfolding entry
left_entry l n i h = rw (le-ltb i n h)

-- entries copied to the front of a list of one value
module _ {A : Type 0} (l : List A) (n most : ℕ) (zero : A) (some : Entries n (length l) most) where
  abbrev rest : List A
  rest = drop most (replicate task_limit zero)

  front : length (take most l) ≡ most
  front = length-take-le most l some.list

  same : (k : ℕ) → get_or (replicate task_limit zero) k zero ≡ zero
  same k = go (dec_lt k task_limit)
    where
      go : Dec (k < task_limit) → get_or (replicate task_limit zero) k zero ≡ zero
      go (yes h) = get_or-replicate task_limit k zero zero h
      go (no h) = get_or-eq_default (replicate task_limit zero) zero {n = k} (omega (arith, length-replicate task_limit zero))

  in_front : (i : ℕ) → i < most → get_or (take most l ++ rest) i zero ≡ get_or l i zero
  in_front i h = get_or-append (take most l) rest zero i (omega (arith, front)) ∙ get_or-take most l i zero h

  behind : (i : ℕ) → most ≤ i → get_or (take most l ++ rest) i zero ≡ zero
  behind i h =
      get_or-append_right (take most l) rest i zero (omega (arith, front))
      ∙ get_or-drop most (replicate task_limit zero) (i - length (take most l)) zero
      ∙ same (most + (i - length (take most l)))

  pub first_copied : First n zero l (take most l ++ rest)
  first_copied =
      record {
        room =
            omega
            (arith, some.room, front, length-append (take most l) rest, length-drop most (replicate task_limit zero), length-replicate task_limit zero);
        taken = taken;
        past = λ i h. behind i (omega (arith, some.tasks));
      }
    where
      past : (i : ℕ) → i < n → i < task_limit → most ≤ i → (task_limit ≤ most) ⊎ ((n ≤ most) ⊎ (length l ≤ most)) → get_or l i zero ≡ zero
      past i h k m (inl x) = absurd (omega arith)
      past i h k m (inr (inl x)) = absurd (omega arith)
      past i h k m (inr (inr x)) = get_or-eq_default l zero (omega arith)

      taken : (i : ℕ) → i < n → i < task_limit → get_or (take most l ++ rest) i zero ≡ get_or l i zero
      taken i h k = go (dec_lt i most)
        where
          go : Dec (i < most) → get_or (take most l ++ rest) i zero ≡ get_or l i zero
          go (yes m) = in_front i m
          go (no m) = behind i (omega arith) ∙ sym (past i h k (omega arith) some.all)

-- an entry of a cleared list
pub cleared_first : (n : ℕ) (l : List ℕ) (i : ℕ) → i < n → i < task_limit → get_or (cleared n l) i 0 ≡ get_or l i 0
unfolding cleared entry
cleared_first n l i h k = get_d_tabulate task_limit (entry l n) i k ∙ taken_entry l n i h

pub cleared_past : (n : ℕ) (l : List ℕ) (i : ℕ) → n ≤ i → get_or (cleared n l) i 0 ≡ 0
unfolding cleared entry
cleared_past n l i h = go (dec_lt i task_limit)
  where
    go : Dec (i < task_limit) → get_or (tabulate task_limit (entry l n)) i 0 ≡ 0
    go (yes k) = get_d_tabulate task_limit (entry l n) i k ∙ left_entry l n i h
    go (no k) = get_or-eq_default (tabulate task_limit (entry l n)) 0 (rw (length_tabulate task_limit (entry l n)) (omega arith))

-- where the other value is 0, they are the entries of a state
pub first_cleared : (n : ℕ) (l held : List ℕ) → First n 0 l held → held ≡ cleared n l
unfolding cleared entry
first_cleared n l held first = ext_get_or 0 held (cleared n l) (first.room ∙ sym (length_tabulate task_limit (entry l n))) same_entry
  where
    same_entry : (i : ℕ) → i < length held → get_or held i 0 ≡ get_or (cleared n l) i 0
    same_entry i h = go (dec_lt i n)
      where
        go : Dec (i < n) → get_or held i 0 ≡ get_or (cleared n l) i 0
        go (yes k) = first.taken i k (omega (arith, h, first.room)) ∙ sym (cleared_first n l i k (omega (arith, h, first.room)))
        go (no k) = first.past i (omega arith) ∙ sym (cleared_past n l i (omega arith))

-- a list of n entries within the room is there in full
module _ (n : ℕ) (l : List ℕ) (long : length l ≡ n) (few : n ≤ task_limit) where
  pub cleared_same : (i : ℕ) → get_or (cleared n l) i 0 ≡ get_or l i 0
  cleared_same i = go (dec_lt i n)
    where
      go : Dec (i < n) → get_or (cleared n l) i 0 ≡ get_or l i 0
      go (yes h) = cleared_first n l i h (omega arith)
      go (no h) = cleared_past n l i (omega arith) ∙ sym (get_or-eq_default l 0 (omega (arith, long)))

  pub cleared_taken : take n (cleared n l) ≡ l
  unfolding cleared entry
  cleared_taken =
      let room : length (cleared n l) ≡ task_limit = length_tabulate task_limit (entry l n) in
      let taken : length (take n (cleared n l)) ≡ n = length-take-le n (cleared n l) (omega (arith, room)) in
      ext_get_or 0 (take n (cleared n l)) l (taken ∙ sym long)
      (λ i h. get_or-take n (cleared n l) i 0 (omega (arith, taken)) ∙ cleared_same i)

-- 'Entries of a state past task n are 0 in a fresh run'
pub fresh_past_n : (job : Job) (marks : List ℕ) → ZeroPast (fresh job marks)
unfolding fresh
fresh_past_n job marks =
    record { weights = λ j h. cleared_past job.tasks job.weights j h; marks = λ j h. cleared_past job.tasks marks j h }

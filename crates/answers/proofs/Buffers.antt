-- A buffer whose first marks have been written: one mark more, and what stands in it at the end. Assumes nothing.
use Prim.Native.Nat.{ℕ, suc, ◌+◌, ◌≤◌, ◌<◌}
use mathlib.Core.Path.{◌≡◌, sym, ◌∙◌}
use mathlib.Core.List.{List, ◌++◌}
use native.Mathlib.Numerals.{add-one}
use native.Mathlib.Omega.{arith}
use lib.ListN.{length, get_or, take, drop, set, length-append, length-drop}
use lib.Seq.{drop-cons, take-suc, set_at, take_at, drop_at, length-take-le, append_snoc}

module _ (l b : List ℕ) where
  pub written_more : (j : ℕ) → j < length l → j < length b → set (take j l ++ drop j b) j (get_or l j 0) ≡ take (j + 1) l ++ drop (j + 1) b
  written_more j h k =
      rw (drop-cons b j 0 k, add-one j)
      (set_at (take j l) (get_or b j 0) (drop (suc j) b) (get_or l j 0) j (length-take-le j l (omega arith))
      ∙ rw (take-suc l j 0 h) (sym (append_snoc (take j l) (get_or l j 0) (drop (suc j) b))))

  module _ (n : ℕ) (h : n ≤ length l) (k : n ≤ length b) where
    pub written_front : take n (take n l ++ drop n b) ≡ take n l
    written_front = take_at (take n l) (drop n b) n (length-take-le n l h)

    pub written_rest : drop n (take n l ++ drop n b) ≡ drop n b
    written_rest = drop_at (take n l) (drop n b) n (length-take-le n l h)

    pub written_length : length (take n l ++ drop n b) ≡ length b
    written_length = omega (arith, length-append (take n l) (drop n b), length-take-le n l h, length-drop n b)

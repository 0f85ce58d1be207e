-- Sections one after the other: where each starts and ends, and that the pairs say so. Assumes nothing.
use Prim.Native.Nat.{ℕ, zero, suc, ◌+◌, ◌*◌, ◌≤◌, ◌<◌}
use mathlib.Core.Path.{◌≡◌, refl}
use mathlib.Core.List.{List, [], ◌∷◌, ◌++◌, append_assoc}
use native.Mathlib.Nat.{le_refl}
use native.Mathlib.Decide.{dec_le}
use native.Mathlib.Omega.{arith}
use lib.ListN.{length, get_or, take, drop, length-append}
use lib.Seq.{take-append_seam, drop-append_seam}
use Rattle.writing.specs.Form.{pairs, lengths, together}
use Rattle.writing.specs.Working.Starts.{start_in}

pub length_lengths : (xs : List (List ℕ)) → length (lengths xs) ≡ length xs
unfolding lengths
length_lengths [] = refl
length_lengths (x ∷ xs) = rw (length_lengths xs) refl

pub length_pairs : (b : ℕ) (zs : List ℕ) → length (pairs b zs) ≡ 2 * length zs
unfolding pairs
length_pairs b [] = refl
length_pairs b (z ∷ zs) = omega (arith, length_pairs (b + z) zs)

pub start_first : (b : ℕ) (zs : List ℕ) → start_in b zs 0 ≡ b
unfolding start_in
start_first b [] = refl
start_first b (z ∷ zs) = refl

-- each section starts where the one before ends
pub start_next : (b : ℕ) (zs : List ℕ) (i : ℕ) → i < length zs → start_in b zs (suc i) ≡ start_in b zs i + get_or zs i 0
unfolding start_in
start_next b [] i h = absurd (omega arith)
start_next b (z ∷ []) zero h = refl
start_next b (z ∷ (y ∷ zs)) zero h = refl
start_next b (z ∷ zs) (suc i) h = start_next (b + z) zs i (omega arith)

pub start_mono : (b : ℕ) (zs : List ℕ) (i j : ℕ) → i ≤ j → j ≤ length zs → start_in b zs i ≤ start_in b zs j
start_mono b zs i zero h l = let e : i ≡ 0 = omega arith in rw e (le_refl (start_in b zs 0))
start_mono b zs i (suc j) h l = go (dec_le i j) (start_mono b zs i j)
  where
    go : Dec (i ≤ j) → (i ≤ j → j ≤ length zs → start_in b zs i ≤ start_in b zs j) → start_in b zs i ≤ start_in b zs (suc j)
    go (yes q) before = omega (arith, before q (omega arith), start_next b zs j (omega arith))
    go (no q) before = let e : i ≡ suc j = omega arith in rw e (le_refl (start_in b zs (suc j)))

-- the pairs say where each starts, and its size
pub pair_start : (b : ℕ) (zs : List ℕ) (i : ℕ) → i < length zs → get_or (pairs b zs) (2 * i) 0 ≡ start_in b zs i
unfolding pairs start_in
pair_start b [] i h = absurd (omega arith)
pair_start b (z ∷ zs) zero h = refl
pair_start b (z ∷ zs) (suc i) h = let e : 2 * suc i ≡ suc (suc (2 * i)) = omega arith in rw e (pair_start (b + z) zs i (omega arith))

pub pair_size : (b : ℕ) (zs : List ℕ) (i : ℕ) → i < length zs → get_or (pairs b zs) (2 * i + 1) 0 ≡ get_or zs i 0
unfolding pairs
pair_size b [] i h = absurd (omega arith)
pair_size b (z ∷ zs) zero h = refl
pair_size b (z ∷ zs) (suc i) h = let e : 2 * suc i + 1 ≡ suc (suc (2 * i + 1)) = omega arith in rw e (pair_size (b + z) zs i (omega arith))

-- the sections lie there
pub section_there : (front : List ℕ) (xs : List (List ℕ)) (i : ℕ) → i < length xs
    → take (get_or (lengths xs) i 0) (drop (start_in (length front) (lengths xs) i) (front ++ together xs)) ≡ get_or xs i []
unfolding lengths together start_in
section_there front [] i h = absurd (omega arith)
section_there front (x ∷ xs) zero h = rw (drop-append_seam front (x ++ together xs)) (take-append_seam x (together xs))
section_there front (x ∷ xs) (suc i) h =
    rw (← (length-append front x), ← (append_assoc front x (together xs))) (section_there (front ++ x) xs i (omega arith))

pub together_end : (b : ℕ) (xs : List (List ℕ)) → b + length (together xs) ≡ start_in b (lengths xs) (length xs)
unfolding lengths together start_in
together_end b [] = omega arith
together_end b (x ∷ xs) = rw (length-append x (together xs)) (omega (arith, together_end (b + length x) xs))

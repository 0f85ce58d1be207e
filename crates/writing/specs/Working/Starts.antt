-- Where section i of sections of these sizes starts, the first at byte `start`; past the last, where it ends.
use Rattle.std.specs.Prelude.{ℕ, zero, suc, ◌+◌, List, [], ◌∷◌}

unfoldable pub start_in : (start : ℕ) → (sizes : List ℕ) → ℕ → ℕ
start_in start sizes zero = start
start_in start [] (suc i) = start
start_in start (z ∷ sizes) (suc i) = start_in (start + z) sizes i

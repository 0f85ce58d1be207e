-- What the contracts of reads cite.
use Rattle.std.specs.Prelude.{ℕ, ◌≤◌, ◌≡◌, List, length, take, Result, Ok, Err}
use Rattle.console.specs.declared.Broken.{Broken}

-- n bytes at the front of a buffer: no more than it has
abbrev pub IsPrefixLen : ℕ → List ℕ → Type 0
IsPrefixLen n xs = (n ≤ length xs) × (n ≡ length (take n xs))

-- how many bytes a read put at the start of its buffer, whether it failed or not
abbrev pub count_read : Result ℕ Broken → ℕ
count_read (Ok n) = n
count_read (Err broken) = broken.n

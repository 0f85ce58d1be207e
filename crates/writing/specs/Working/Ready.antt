-- What the functions of this crate ask of their callers.
use Rattle.std.specs.Prelude.{ℕ, ◌+◌, ◌*◌, ◌≤◌, ◌<◌, ◌^◌, List, length}
use Rattle.units.specs.Limits.{task_limit}
use Rattle.header.specs.Header.{pairs_start, pair_length}
use Rattle.kinds.specs.Kinds.{weights_length}
use Rattle.writing.specs.Form.{weights_start}
use Rattle.writing.specs.Working.Starts.{start_in}

-- sizes of sections whose places are fields, and room for their pairs
pub record ReadyForPairs (sizes buffer : List ℕ) : Type 0 where
  pub short : (i : ℕ) → i ≤ length sizes → start_in (pairs_start + pair_length * length sizes) sizes i < 2 ^ 32
  pub room : pairs_start + pair_length * length sizes ≤ length buffer

-- a task count and a number of sections that a byte holds each
pub record ReadyForHeader (n : ℕ) (sizes buffer : List ℕ) : Type 0 where
  pub few : n ≤ task_limit
  pub some_sections : length sizes < 2 ^ 8
  pub pairs : ReadyForPairs sizes buffer

-- weights of at most 64 tasks together, and a buffer that holds their sheet
pub record ReadyForSheet (early late buffer : List ℕ) : Type 0 where
  pub few : length early + length late ≤ task_limit
  pub room : weights_start + weights_length (length early + length late) ≤ length buffer

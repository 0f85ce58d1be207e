-- `writing::put_pairs` meets its contract. The loop's invariant: the pairs passed are stored, and the next section starts where the last of them ends. Assumes
-- nothing.
use Prim.Native.Nat.{ℕ, ◌+◌, ◌-◌, ◌*◌, ◌≤◌}
use mathlib.Core.Path.{◌≡◌}
use mathlib.Core.List.{List}
use lib.ListN.{length, take}
use lib.Seq.{sets}
use Rattle.fields.specs.Written.{fields}
use Rattle.header.specs.Header.{pairs_start, pair_length}
use Rattle.writing.specs.Form.{pairs}
use Rattle.writing.specs.Working.Starts.{start_in}
use Rattle.writing.proofs.put_pairs.Given as goal

abbrev pub base : List ℕ → ℕ
base sizes = pairs_start + pair_length * length sizes

pub record Paired (before sizes buffer : List ℕ) (start i : ℕ) : Type 0 where
  pub within : i ≤ length sizes
  pub next : start ≡ start_in (base sizes) sizes i
  pub stored : buffer ≡ sets before pairs_start (fields (take (2 * i) (pairs (base sizes) sizes)))

abbrev pub invariant-loop-i : goal.invariant-loop-i
invariant-loop-i l = Paired l.initial.buffer l.sizes l.buffer l.start l.i

-- `fields::put_fields` meets its contract. The loop's invariant: the fields of the values passed are stored. Assumes nothing.
use Prim.Native.Nat.{ℕ, ◌-◌, ◌≤◌}
use mathlib.Core.Path.{◌≡◌}
use mathlib.Core.List.{List}
use lib.ListN.{length, take}
use lib.Seq.{sets}
use Rattle.fields.specs.Written.{fields}
use Rattle.fields.proofs.put_fields.Given as goal

pub record Stored (before : List ℕ) (at : ℕ) (values buffer : List ℕ) (j : ℕ) : Type 0 where
  pub within : j ≤ length values
  pub stored : buffer ≡ sets before at (fields (take j values))

abbrev pub invariant-loop-j : goal.invariant-loop-j
invariant-loop-j l = Stored l.initial.buffer l.at l.values l.buffer l.j

-- Held places that keep 21's rules, one after another. Assumes nothing.
use Prim.Native.Nat.{ℕ, suc, ◌+◌, ◌≤◌, ◌<◌}
use mathlib.Core.Path.{◌≡◌, refl, sym, ◌∙◌}
use mathlib.Core.Bool.{true, false}
use mathlib.Core.List.{List}
use native.Mathlib.Omega.{arith}
use lib.ListN.{length, get_or, drop, drop_of_length-le}
use lib.Seq.{drop-cons}
use Rattle.chain.specs.Time.{Marks}
use Rattle.job.specs.declared.Job.{Job}
use Rattle.rules.specs.Rules.{broken_place}
use Rattle.names.specs.Names.{no_held}
use Rattle.names.specs.declared.Held.{Held}
use Rattle.named.specs.Named.{some_place_broken}

-- The loop's invariant: the first j places keep the rules.
pub record Kept (job : Job) (f : Marks) (hs : List Held) (j : ℕ) : Type 0 where
  pub to : j ≤ length hs
  pub rest : some_place_broken job f hs ≡ some_place_broken job f (drop j hs)

module _ (job : Job) (f : Marks) (hs : List Held) where
  pub kept_none : Kept job f hs 0
  kept_none = record { to = omega arith; rest = refl }

  pub kept_breaks : (j : ℕ) → Kept job f hs j → j < length hs → broken_place job f (get_or hs j no_held).place ≡ true → true ≡ some_place_broken job f hs
  unfolding some_place_broken
  kept_breaks j k h e = sym (k.rest ∙ rw (drop-cons hs j no_held h, e))

  pub kept_more : (j : ℕ) → Kept job f hs j → j < length hs → broken_place job f (get_or hs j no_held).place ≡ false → Kept job f hs (j + 1)
  unfolding some_place_broken
  kept_more j k h e =
      let next : j + 1 ≡ suc j = omega arith in
      rw next (record { to = h; rest = k.rest ∙ rw (drop-cons hs j no_held h, e) })

  pub kept_all : (j : ℕ) → Kept job f hs j → length hs ≤ j → false ≡ some_place_broken job f hs
  unfolding some_place_broken
  kept_all j k h = sym (k.rest ∙ rw (drop_of_length-le hs {i = j} h))

-- `rules::over_total` meets its contract: a total that passes 64 bits passes the limit too. Assumes nothing.
use Prim.Native.Nat.{ℕ, ◌≤◌, ◌<◌}
use mathlib.Core.Path.{◌≡◌, sym, ◌∙◌}
use native.Mathlib.Decide.{dec_le}
use native.Mathlib.Omega.{arith}
use borrow.Author.Tests.{lt-ltb, le-ltb}
use lib.Dec.{ltb}
use Rattle.rules.specs.Rules.{total_limit, total_of, over_total}
use Rattle.rules.proofs.over_total.Goals as goal

-- totals that pass the limit alike
alike : (sum total : ℕ) → (total ≤ total_limit → sum ≤ total_limit) → (total_limit < total → total_limit < sum) → ltb total_limit sum ≡ ltb total_limit total
alike sum total within past = go (dec_le total total_limit)
  where
    go : Dec (total ≤ total_limit) → ltb total_limit sum ≡ ltb total_limit total
    go (yes h) = le-ltb total_limit sum (within h) ∙ sym (le-ltb total_limit total h)
    go (no h) = lt-ltb total_limit sum (past (omega arith)) ∙ sym (lt-ltb total_limit total (omega arith))

pub returns : goal.returns
unfolding over_total total_of
returns c =
    alike c.saturating_add-total.result _
    (λ h. omega (arith, h, c.saturating_add.ensures, c.saturating_add-2.ensures, c.saturating_add-3.ensures, c.saturating_add-total.ensures))
    (λ h. omega (arith, h, c.saturating_add.ensures, c.saturating_add-2.ensures, c.saturating_add-3.ensures, c.saturating_add-total.ensures))

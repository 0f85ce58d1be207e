-- 'The first condition that holds decides, and a number is given under no other': `first` gives a condition's number where it holds and
-- none before it does, and 0 only where none holds. Assumes nothing.
use Prim.Native.Nat.{ℕ, zero, suc, ◌<◌}
use mathlib.Core.Path.{◌≡◌, refl, sym, ◌∙◌}
use mathlib.Core.Bool.{Bool, true, false, cond, not, false≢true}
use mathlib.Core.List.{List, [], ◌∷◌, ◌++◌}
use mathlib.Core.Logic.{◌⊎◌, inl, inr, ◌≢◌}
use native.Mathlib.Nat.{eq-zero-or-pos}
use native.Mathlib.Omega.{arith}
use borrow.Author.Tests.{eqb-false}
use lib.Dec.{eqb}
use Rattle.lists.proofs.Lists.{and_holds, or_fails}
use Rattle.refusals.specs.Refusals.{Condition, refusal, first, has, distinct, Numbered, holds_at, number_at, Decides}

-- the first number is not 0, and the rest are numbered
numbered_first : (c : Condition) (cs : List Condition) → Numbered (c ∷ cs) → (0 < c.number) × Numbered cs
unfolding distinct
numbered_first c cs e =
    let parts = and_holds (not (eqb c.number 0)) _ e in
    let rest = and_holds (not (has c.number cs)) _ parts.1 in
    (positive c.number parts.0, rest.1)
  where
    positive : (k : ℕ) → not (eqb k 0) ≡ true → 0 < k
    positive k h = go (eqb k 0) refl h
      where
        go : (b : Bool) → eqb k 0 ≡ b → not b ≡ true → 0 < k
        go true q z = absurd (false≢true z)
        go false q z = omega (arith, eqb-false k 0 q)

-- the number 0 is given only where no condition of the list holds
pub first_clear : (cs : List Condition) → Numbered cs → first cs ≡ 0 → (i : ℕ) → holds_at cs i ≡ false
unfolding first
first_clear [] n e = λ i. refl
first_clear (c ∷ cs) n e = go c.holds refl e (first_clear cs (numbered_first c cs n).1)
  where
    go : (b : Bool) → c.holds ≡ b → cond b c.number (first cs) ≡ 0 → (first cs ≡ 0 → (i : ℕ) → holds_at cs i ≡ false) → (i : ℕ) → holds_at (c ∷ cs) i ≡ false
    go true h z ih i = absurd (omega (arith, (numbered_first c cs n).0))
    go false h z ih zero = h
    go false h z ih (suc i) = ih z i

-- a number among the first conditions stands whatever comes after
pub first_stands : (cs ds : List Condition) → 0 < first cs → first (cs ++ ds) ≡ first cs
unfolding first
first_stands [] ds p = absurd (omega arith)
first_stands (c ∷ cs) ds p = go c.holds p (first_stands cs ds)
  where
    go : (b : Bool) → 0 < cond b c.number (first cs) → (0 < first cs → first (cs ++ ds) ≡ first cs) → cond b c.number (first (cs ++ ds)) ≡ cond b c.number (first cs)
    go true q ih = refl
    go false q ih = ih q

-- where none of the first conditions holds, those after them decide
pub first_goes_on : (cs ds : List Condition) → Numbered cs → first cs ≡ 0 → first (cs ++ ds) ≡ first ds
unfolding first
first_goes_on cs ds n e = go cs (first_clear cs n e)
  where
    go : (cs : List Condition) → ((i : ℕ) → holds_at cs i ≡ false) → first (cs ++ ds) ≡ first ds
    go [] h = refl
    go (c ∷ cs) h = rw (h 0) (go cs (λ i. h (suc i)))

-- lists that give the same number give the same behind the same conditions
pub first_after : (front cs ds : List Condition) → first cs ≡ first ds → first (front ++ cs) ≡ first (front ++ ds)
unfolding first
first_after [] cs ds e = e
first_after (c ∷ front) cs ds e = rw (first_after front cs ds e) refl

-- where no condition of two lists holds, none of the first list does
pub first_none : (cs ds : List Condition) → first (cs ++ ds) ≡ 0 → first cs ≡ 0
first_none cs ds e = go (eq-zero-or-pos (first cs))
  where
    go : (first cs ≡ 0) ⊎ (0 < first cs) → first cs ≡ 0
    go (inl z) = z
    go (inr p) = absurd (omega (arith, first_stands cs ds p))

-- nor does a condition that is listed last
pub last_clear : (cs : List Condition) (k : ℕ) (b : Bool) → 0 < k → Numbered cs → first (cs ++ (refusal k b ∷ [])) ≡ 0 → b ≡ false
unfolding first
last_clear cs k b h n e = go b (sym (first_goes_on cs (refusal k b ∷ []) n (first_none cs _ e)) ∙ e)
  where
    go : (b : Bool) → cond b k 0 ≡ 0 → b ≡ false
    go true z = absurd (omega arith)
    go false z = refl

-- a number that no condition has is never given
pub first_other : (k : ℕ) (cs : List Condition) → 0 < k → has k cs ≡ false → first cs ≢ k
unfolding first has
first_other k [] p h e = omega arith
first_other k (c ∷ cs) p h e = go c.holds e (first_other k cs p (or_fails (eqb k c.number) (has k cs) h).1)
  where
    go : (b : Bool) → cond b c.number (first cs) ≡ k → first cs ≢ k → ⊥
    go true z rest = eqb-false k c.number (or_fails (eqb k c.number) (has k cs) h).0 (sym z)
    go false z rest = rest z

-- The tests of a list in their order, each with the result that its code gave: the condition holds, or those after it decide.
pub refused_here : (k : ℕ) {r b : Bool} (cs : List Condition) → r ≡ b → r ≡ true → k ≡ first (refusal k b ∷ cs)
unfolding first
refused_here k cs e h = rw (← e, h)

pub refused_later : (k : ℕ) {n : ℕ} {r b : Bool} (cs : List Condition) → r ≡ b → r ≡ false → n ≡ first cs → n ≡ first (refusal k b ∷ cs)
unfolding first
refused_later k cs e h q = rw (← e, h) q

pub refused_none : 0 ≡ first []
unfolding first
refused_none = refl

module _ (k : ℕ) where
  -- a number that is given is that of such a condition
  pub first_decides : (cs : List Condition) → 0 < k → first cs ≡ k → Decides cs k
  unfolding first
  first_decides [] h e = absurd (omega arith)
  first_decides (c ∷ cs) h e = go c.holds refl e (first_decides cs h)
    where
      go : (b : Bool) → c.holds ≡ b → cond b c.number (first cs) ≡ k → (first cs ≡ k → Decides cs k) → Decides (c ∷ cs) k
      go true q z ih = record { at = 0; number = z; holds = q; none_before = λ j l. absurd (omega arith) }
      go false q z ih = later (ih z)
        where
          later : Decides cs k → Decides (c ∷ cs) k
          later d = record { at = suc d.at; number = d.number; holds = d.holds; none_before = before }
            where
              before : (j : ℕ) → j < suc d.at → holds_at (c ∷ cs) j ≡ false
              before zero l = q
              before (suc j) l = d.none_before j (omega arith)

  -- and the number of such a condition is given
  pub decides_first : (cs : List Condition) → Decides cs k → first cs ≡ k
  unfolding first
  decides_first [] d = absurd (false≢true d.holds)
  decides_first (c ∷ cs) d = go d.at d.number d.holds d.none_before (decides_first cs)
    where
      go : (i : ℕ) → number_at (c ∷ cs) i ≡ k → holds_at (c ∷ cs) i ≡ true → ((j : ℕ) → j < i → holds_at (c ∷ cs) j ≡ false)
          → (Decides cs k → first cs ≡ k) → cond c.holds c.number (first cs) ≡ k
      go zero n h b ih = rw h n
      go (suc i) n h b ih =
          rw (b 0 (omega arith)) (ih (record { at = i; number = n; holds = h; none_before = λ j l. b (suc j) (omega arith) }))

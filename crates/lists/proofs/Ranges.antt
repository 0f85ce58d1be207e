-- What `any` and `all` answer over the numbers below a bound and over the elements of a slice, where the closure computes a test. Assumes nothing.
use Prim.Native.Nat.{ℕ, zero, suc, ◌+◌, ◌≤◌}
use mathlib.Core.Path.{◌≡◌, refl, sym, ◌∙◌, ap}
use mathlib.Core.Bool.{Bool, true, false, not, ◌||◌, ◌&&◌}
use mathlib.Core.List.{List, [], ◌∷◌}
use native.Mathlib.Omega.{arith}
use lib.Dec.{eqb}
use lib.ListN.{length, get_or}
use lib.Pointwise.{pointwise}
use denote.Param.Members.{Mut, Called}
use Rattle.std.specs.Option.{MatchOption}
use Rattle.std.specs.declared.option.Option.{Option}
use Rattle.std.specs.declared.ops.Range.{Range}
use Rattle.std.specs.Iterator.{YieldsThen}
use Rattle.std.proofs.iter.Yields.{nat_range_steps}
use Rattle.std.specs.List.{FoldsTo, list_any, list_all, range_with_len}
use Rattle.std.proofs.lemmas.Iterator.Search.{any_from_yields_List, all_from_yields_List}
use Rattle.std.proofs.lemmas.Iterator.{YieldsList-from_range}
use Rattle.lists.specs.Lists.{some}

-- tests that agree are passed alike
some_same : (n : ℕ) (p q : ℕ → Bool) → ((i : ℕ) → p i ≡ q i) → some n p ≡ some n q
unfolding some
some_same zero p q e = refl
some_same (suc n) p q e = rw (some_same n p q e, e n) refl

-- the first number apart from the others
pub some_front : (n : ℕ) (p : ℕ → Bool) → some (suc n) p ≡ (p 0 || some n (λ i. p (suc i)))
unfolding some
some_front zero p = last (p 0)
  where
    last : (b : Bool) → b ≡ (b || false)
    last true = refl
    last false = refl
some_front (suc n) p = ap (λ b. b || p (suc n)) (some_front n p) ∙ apart (p 0) (some n (λ i. p (suc i))) (p (suc n))
  where
    apart : (a b c : Bool) → ((a || b) || c) ≡ (a || (b || c))
    apart true b c = refl
    apart false b c = refl

pub any_range : (p : ℕ → Bool) (a n : ℕ) → list_any p (range_with_len a n) ≡ some n (λ i. p (a + i))
unfolding some
any_range p a zero = refl
any_range p a (suc n) =
    let first : a ≡ a + 0 = omega arith in
    let later : some n (λ i. p (a + 1 + i)) ≡ some n (λ i. p (a + suc i)) = some_same n _ _ (λ i. let e : a + 1 + i ≡ a + suc i = omega arith in ap p e) in
    rw (any_range p (a + 1) n, later) (ap (λ k. p k || some n (λ i. p (a + suc i))) first ∙ sym (some_front n (λ i. p (a + i))))

-- all pass where none fails
all_not : (p : ℕ → Bool) (l : List ℕ) → list_all p l ≡ not (list_any (λ i. not (p i)) l)
all_not p [] = refl
all_not p (x ∷ l) = rw (all_not p l) (apart (p x) (list_any (λ i. not (p i)) l))
  where
    apart : (a b : Bool) → (a && not b) ≡ not (not a || b)
    apart true b = refl
    apart false b = refl

pub all_range : (p : ℕ → Bool) (a n : ℕ) → list_all p (range_with_len a n) ≡ not (some n (λ i. not (p (a + i))))
all_range p a n = all_not p (range_with_len a n) ∙ ap not (any_range (λ i. not (p i)) a n)

module _ {F : Type 0} {g : Mut F (ℕ × Unit {0}) Bool} (test : ℕ → Bool) (n : ℕ) (u : Range ℕ) (f : F) (r : Bool)
    (calls : (i : ℕ) (b : Bool) (q : F) → Called g f (i, tt) b q → (q ≡ f) × (b ≡ test i)) where
  -- `any` over 0..n: some number below n passes the test
  pub any_some : (xs : List ℕ) × (o : Option ℕ) × (j : F) × YieldsThen nat_range_steps (record { start = 0; end = n }) xs o u × FoldsTo (λ p x q. Called g p (x, tt) false q) f xs j
      × MatchOption o (r ≡ false) (λ x. (r ≡ true) × ((h : F) × Called g j (x, tt) true h)) → r ≡ some n test
  any_some ran = any_from_yields_List test u f r ran (YieldsList-from_range 0 n n refl (omega arith)) calls ∙ (any_range test 0 n ∙ some_same n _ test (λ i. let e : 0 + i ≡ i = omega arith in ap test e))

  -- `all` over 0..n: no number below n fails it
  pub all_some : (xs : List ℕ) × (o : Option ℕ) × (j : F) × YieldsThen nat_range_steps (record { start = 0; end = n }) xs o u × FoldsTo (λ p x q. Called g p (x, tt) true q) f xs j
      × MatchOption o (r ≡ true) (λ x. (r ≡ false) × ((h : F) × Called g j (x, tt) false h)) → r ≡ not (some n (λ i. not (test i)))
  all_some ran = all_from_yields_List test u f r ran (YieldsList-from_range 0 n n refl (omega arith)) calls ∙ (all_range test 0 n ∙ ap not (some_same n _ (λ i. not (test i)) (λ i. let e : 0 + i ≡ i = omega arith in ap (λ k. not (test k)) e)))

-- over the elements of a list
pub any_in : (p : ℕ → Bool) (l : List ℕ) → list_any p l ≡ some (length l) (λ k. p (get_or l k 0))
unfolding some
any_in p [] = refl
any_in p (x ∷ l) = rw (any_in p l) (sym (some_front (length l) (λ k. p (get_or (x ∷ l) k 0))))

pub all_in : (p : ℕ → Bool) (l : List ℕ) → list_all p l ≡ not (some (length l) (λ k. not (p (get_or l k 0))))
all_in p l = all_not p l ∙ ap not (any_in (λ i. not (p i)) l)

-- lists of one length that agree place by place: no place differs
pub pointwise_in : (l m : List ℕ) → length l ≡ length m → pointwise eqb l m ≡ not (some (length l) (λ k. not (eqb (get_or l k 0) (get_or m k 0))))
unfolding some
pointwise_in [] [] e = refl
pointwise_in [] (y ∷ m) e = absurd (omega arith)
pointwise_in (x ∷ l) [] e = absurd (omega arith)
pointwise_in (x ∷ l) (y ∷ m) e =
    rw (pointwise_in l m (omega arith), some_front (length l) (λ k. not (eqb (get_or (x ∷ l) k 0) (get_or (y ∷ m) k 0)))) (apart (eqb x y) (some (length l) (λ k. not (eqb (get_or l k 0) (get_or m k 0)))))
  where
    apart : (a b : Bool) → (a && not b) ≡ not (not a || b)
    apart true b = refl
    apart false b = refl

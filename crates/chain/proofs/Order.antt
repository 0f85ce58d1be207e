-- 01's order of settings. The list of the positions with a mark of k or more goes from each of them to the last one before it, so two lists are compared step
-- by step,
-- and equal lists mean equal last positions. The order is strict: two settings of which each wins over the other, or is equal, have the same lists.
-- Assumes nothing.
use Prim.Native.Nat.{ℕ, zero, suc, ◌≤◌, ◌<◌}
use mathlib.Core.Path.{◌≡◌, refl, ◌∙◌, sym, ap}
use mathlib.Core.Logic.{◌≢◌, ◌⊎◌, inl, inr}
use mathlib.Core.List.{List, [], ◌∷◌}
use native.Mathlib.Decide.{dec_le, dec_lt, ℕ_discrete}
use native.Mathlib.Omega.{arith}
use borrow.Author.Tests.{le-leb, lt-leb}
use Rattle.chain.specs.Time.{Marks, verification, memory, disk, last}
use Rattle.chain.proofs.Equations.{last_here, last_past, last_lt, last_first}
use Rattle.chain.specs.Plan.{listed, Earlier, Wins}
use Rattle.chain.proofs.Last.{last_marked, last_between, last_is}

module _ (k : ℕ) (f : Marks) where
  listed_marked : (v : ℕ) → k ≤ f (suc v) → listed k f (suc v) ≡ suc v ∷ listed k f v
  unfolding listed
  listed_marked v h = rw (le-leb _ _ h)

  listed_skips : (v : ℕ) → f (suc v) < k → listed k f (suc v) ≡ listed k f v
  unfolding listed
  listed_skips v h = rw (lt-leb _ _ h)

  -- a list begins at the last position that it holds
  listed_last : (v : ℕ) → listed k f v ≡ listed k f (last k f (suc v))
  unfolding listed
  listed_last zero = rw (last_first k f)
  listed_last (suc v) = go (dec_le k (f (suc v))) (listed_last v)
    where
      go : Dec (k ≤ f (suc v)) → listed k f v ≡ listed k f (last k f (suc v)) → listed k f (suc v) ≡ listed k f (last k f (suc (suc v)))
      go (yes h) e = ap (listed k f) (sym (last_here k f (suc v) h))
      go (no h) e = listed_skips v (omega arith) ∙ e ∙ ap (listed k f) (sym (last_past k f (suc v) (omega arith)))

  listed_here : (v : ℕ) → 0 < v → k ≤ f v → listed k f v ≡ v ∷ listed k f (last k f v)
  listed_here zero h l = absurd (omega arith)
  listed_here (suc v) h l = listed_marked v l ∙ ap (λ (t : List ℕ). suc v ∷ t) (listed_last v)

  listed_head : (a : ℕ) → (a ≢ 0 → k ≤ f a) → (t : List ℕ) × (listed k f a ≡ a ∷ t)
  unfolding listed
  listed_head zero h = ([], refl)
  listed_head (suc a) h = (listed k f a, listed_marked a (h (omega arith)))

  listed_bound : (v : ℕ) → (a : ℕ) × (t : List ℕ) × (a ≤ v) × (listed k f v ≡ a ∷ t)
  listed_bound v =
      let a : ℕ = last k f (suc v) in
      let r : (t : List ℕ) × (listed k f a ≡ a ∷ t) = listed_head a (last_marked k f (suc v)) in
      (a, r.0, omega (arith, last_lt k f (suc v) (omega arith)), listed_last v ∙ r.1)

module _ (k : ℕ) (f g : Marks) where
  -- lists that are equal hold the same positions
  listed_same : (n : ℕ) → listed k f n ≡ listed k g n → (v : ℕ) → 0 < v → v ≤ n → k ≤ f v → k ≤ g v
  listed_same zero e v h l m = absurd (omega arith)
  listed_same (suc n) e v h l m = go (dec_le k (f (suc n))) (dec_le k (g (suc n))) (ℕ_discrete v (suc n)) (λ x. listed_same n x v h)
    where
      go : Dec (k ≤ f (suc n)) → Dec (k ≤ g (suc n)) → Dec (v ≡ suc n) → (listed k f n ≡ listed k g n → v ≤ n → k ≤ f v → k ≤ g v) → k ≤ g v
      go (yes a) (yes b) (yes i) ih = rw i b
      go (yes a) (yes b) (no i) ih =
          let x : suc n ∷ listed k f n ≡ suc n ∷ listed k g n = sym (listed_marked k f n a) ∙ e ∙ listed_marked k g n b in
          ih (cc) (omega arith) m
      go (yes a) (no b) i ih =
          let r = listed_bound k g n in
          let x : suc n ∷ listed k f n ≡ r.0 ∷ r.1 = sym (listed_marked k f n a) ∙ e ∙ listed_skips k g n (omega arith) ∙ r.3 in
          let y : suc n ≡ r.0 = cc in
          absurd (omega (arith, r.2))
      go (no a) (yes b) i ih =
          let r = listed_bound k f n in
          let x : suc n ∷ listed k g n ≡ r.0 ∷ r.1 = sym (listed_marked k g n b) ∙ sym e ∙ listed_skips k f n (omega arith) ∙ r.3 in
          let y : suc n ≡ r.0 = cc in
          absurd (omega (arith, r.2))
      go (no a) (no b) (yes i) ih = absurd (a (rw i at m))
      go (no a) (no b) (no i) ih = ih (sym (listed_skips k f n (omega arith)) ∙ e ∙ listed_skips k g n (omega arith)) (omega arith) m

-- so their last positions are the same
pub last_same : (k n : ℕ) (f g : Marks) → listed k f n ≡ listed k g n → (v : ℕ) → 0 < v → v ≤ n → last k f v ≡ last k g v
last_same k n f g e v h l =
    last_is k f v (last k g v) (last_lt k g v h)
    (λ i. listed_same k g f n (sym e) (last k g v) (omega arith) (omega (arith, last_lt k g v h)) (last_marked k g v i))
    (λ w a b. go w a b (dec_le k (f w)))
  where
    go : (w : ℕ) → last k g v < w → w < v → Dec (k ≤ f w) → f w < k
    go w a b (yes i) =
        absurd (omega (arith, listed_same k f g n e w (omega arith) (omega arith) i, last_between k g v w a b))
    go w a b (no i) = omega arith

-- marks whose last positions are nowhere later come first, or have the same list
module _ (k : ℕ) (f g : Marks) (n : ℕ) (earlier : (v : ℕ) → 0 < v → v ≤ n → k ≤ f v → k ≤ g v → last k f v ≤ last k g v) where
  pub listed_compare : 0 < n → k ≤ f n → k ≤ g n → Earlier (listed k f n) (listed k g n) ⊎ (listed k f n ≡ listed k g n)
  unfolding Earlier listed
  listed_compare h a b = below (suc n) n (omega arith) (omega arith) h a b
    where
      Compared : ℕ → ℕ → Type 0
      Compared v w = Earlier (listed k f v) (listed k g w) ⊎ (listed k f v ≡ listed k g w)

      longer : (v : ℕ) (s t : List ℕ) → Earlier s t ⊎ (s ≡ t) → Earlier (v ∷ s) (v ∷ t) ⊎ (◌≡◌ {A = List ℕ} (v ∷ s) (v ∷ t))
      longer v s t (inl x) = inl (inr (refl, x))
      longer v s t (inr x) = inr (ap (λ (l : List ℕ). v ∷ l) x)

      next : (a b : ℕ) → (a ≢ 0 → k ≤ f a) → (b ≢ 0 → k ≤ g b) → a ≤ b → (a ≢ 0 → k ≤ f a → k ≤ g a → Compared a a)
          → Dec (a < b) → Dec (a ≡ 0) → Compared a b
      next a b x y l ih (yes i) _ = rw ((listed_head k f a x).1, (listed_head k g b y).1) (inl (inl i))
      next a b x y l ih (no i) (yes z) = let e : b ≡ 0 = omega arith in rw (z, e) (inr refl)
      next a b x y l ih (no i) (no z) = let e : b ≡ a = omega arith in rw e (ih z (x z) (rw e at (y (omega arith))))

      below : (b v : ℕ) → v < b → v ≤ n → 0 < v → k ≤ f v → k ≤ g v → Compared v v
      below zero v i l h x y = absurd (omega arith)
      below (suc b) v i l h x y =
          rw (listed_here k f v h x, listed_here k g v h y)
          (longer v (listed k f (last k f v)) (listed k g (last k g v))
          (next (last k f v) (last k g v) (last_marked k f v) (last_marked k g v) (earlier v h l x y)
          (λ z. below b (last k f v) (omega (arith, last_lt k f v h)) (omega (arith, last_lt k f v h)) (omega arith))
          (dec_lt (last k f v) (last k g v)) (ℕ_discrete (last k f v) 0)))

-- the order of lists is strict
before_asym : (s t : List ℕ) → Earlier s t → Earlier t s → ⊥
unfolding Earlier
before_asym [] t x y = x
before_asym (a ∷ s) [] x y = x
before_asym (a ∷ s) (b ∷ t) x y = go x y (before_asym s t)
  where
    go : (a < b) ⊎ ((a ≡ b) × Earlier s t) → (b < a) ⊎ ((b ≡ a) × Earlier t s) → (Earlier s t → Earlier t s → ⊥) → ⊥
    go (inl i) (inl j) ih = omega arith
    go (inl i) (inr j) ih = omega (arith, j.0)
    go (inr i) (inl j) ih = omega (arith, i.0)
    go (inr i) (inr j) ih = ih i.1 j.1

-- so of two lists that are equal or come first, each, both are equal
before_tie : (s t : List ℕ) {P R : Type 0} → (P → s ≡ t) → (R → t ≡ s) → Earlier s t ⊎ P → Earlier t s ⊎ R → P × R
before_tie s t p r (inl x) (inl y) = absurd (before_asym s t x y)
before_tie s t p r (inl x) (inr y) = let z : Earlier s s = rw (r y) at x in absurd (before_asym s s z z)
before_tie s t p r (inr x) (inl y) = let z : Earlier t t = rw (p x) at y in absurd (before_asym t t z z)
before_tie s t p r (inr x) (inr y) = (x, y)

-- two settings of which each wins or is equal have the same marks
module _ (n : ℕ) (f g : Marks) (fg : Wins n f g) (gf : Wins n g f) where
  wins_listed : (k : ℕ) → verification ≤ k → k ≤ disk → listed k f n ≡ listed k g n
  wins_listed k a b =
      let d = before_tie (listed disk f n) (listed disk g n) (λ x. x.0) (λ x. x.0) fg gf in
      let m = before_tie (listed memory f n) (listed memory g n) (λ x. x.0) (λ x. x.0) d.0.1 d.1.1 in
      let v = before_tie (listed verification f n) (listed verification g n) (λ x. x) (λ x. x) m.0.1 m.1.1 in
      go v.0 m.0.0 d.0.0 (ℕ_discrete k verification) (ℕ_discrete k memory)
    where
      Same : ℕ → Type 0
      Same i = listed i f n ≡ listed i g n

      go : Same verification → Same memory → Same disk → Dec (k ≡ verification) → Dec (k ≡ memory) → Same k
      go v m d (yes e) _ = rw e v
      go v m d (no e) (yes i) = rw i m
      go v m d (no e) (no i) = let j : k ≡ disk = omega arith in rw j d

  pub wins_same : (v : ℕ) → 0 < v → v ≤ n → f v ≤ disk → g v ≤ disk → f v ≡ g v
  wins_same v h l a b =
      omega (arith, at_most f g (f v) wins_listed a (omega arith), at_most g f (g v) (λ k i j. sym (wins_listed k i j)) b (omega arith))
    where
      at_most : (f g : Marks) (k : ℕ) → ((i : ℕ) → verification ≤ i → i ≤ disk → listed i f n ≡ listed i g n) → k ≤ disk → k ≤ f v → k ≤ g v
      at_most f g zero e i j = omega arith
      at_most f g (suc k) e i j = listed_same (suc k) f g n (e (suc k) (omega arith) i) v h l j

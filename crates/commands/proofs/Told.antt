-- Entries by name: each name held with the place that it has. Naming, dropping and returning on these entries are what the list of commands tells. Assumes nothing.
use Prim.Native.Nat.{ℕ}
use mathlib.Core.Path.{◌≡◌, refl, sym, ◌∙◌, ap, ap₂}
use mathlib.Core.Bool.{Bool, true, false, cond, ◌||◌, true≢false, false≢true}
use mathlib.Core.List.{List, [], ◌∷◌, ◌++◌, map, append_assoc, append-nil}
use native.Mathlib.Decide.{ℕ_discrete}
use borrow.Author.Tests.{eq-eqb, ne_eqb}
use lib.Dec.{eqb}
use Rattle.lists.proofs.Lists.{or_fails}
use Rattle.events.specs.declared.Event.{Event}
use Rattle.state.specs.declared.Place.{Place}
use Rattle.names.specs.Names.{held, is_held, naming, dropping, place_under}
use Rattle.names.specs.declared.Held.{Held}
use Rattle.named.specs.Named.{name_twice}
use Rattle.commands.specs.Commands.{Told, among, besides, tells, tells_from}
use Rattle.commands.specs.Commands.Command.{happen}
use Rattle.commands.proofs.Naming.{naming_none, naming_first, naming_other, dropping_none, dropping_first, dropping_other, under_first, under_other, once_head, once_tail}

-- the entries of these names, by the place of each
abbrev pub entries : (ℕ → Place) → List ℕ → List Held
entries g names = map (λ k. held k (g k)) names

pub held_among : (g : ℕ → Place) (k : ℕ) (names : List ℕ) → is_held k (entries g names) ≡ among k names
unfolding is_held among
held_among g k [] = refl
held_among g k (j ∷ js) = ap (λ b. eqb j k || b) (held_among g k js)

among_first : (k j : ℕ) (js : List ℕ) → j ≡ k → among k (j ∷ js) ≡ true
unfolding among
among_first k j js e = rw (eq-eqb j k e)

pub among_other : (k j : ℕ) (js : List ℕ) → (j ≡ k → ⊥) → among k (j ∷ js) ≡ among k js
unfolding among
among_other k j js e = rw (ne_eqb j k e)

-- names with the same places
entries_same : (g h : ℕ → Place) (k : ℕ) (names : List ℕ) → ((j : ℕ) → (j ≡ k → ⊥) → h j ≡ g j) → among k names ≡ false → entries h names ≡ entries g names
unfolding among
entries_same g h k [] same none = refl
entries_same g h k (j ∷ js) same none =
    let other : j ≡ k → ⊥ = λ e. true≢false (sym (among_first k j js e) ∙ none) in
    rw (same j other) (ap (λ (xs : List Held). held j (g j) ∷ xs) (entries_same g h k js same (or_fails (eqb j k) (among k js) none).1))

not_after : (g : ℕ → Place) (k j : ℕ) (js : List ℕ) → name_twice (entries g (j ∷ js)) ≡ false → j ≡ k → among k js ≡ false
not_after g k j js once e = rw (← e) (sym (held_among g j js) ∙ once_head (held j (g j)) (entries g js) once)

-- naming k: a new name comes last, and one that is held keeps its turn
module _ (g h : ℕ → Place) (k : ℕ) (own : Place) (here : h k ≡ own) (same : (j : ℕ) → (j ≡ k → ⊥) → h j ≡ g j) where
  cond_more : (j : ℕ) (js : List ℕ) (b : Bool) → cond b (j ∷ js) (j ∷ (js ++ (k ∷ []))) ≡ j ∷ cond b js (js ++ (k ∷ []))
  cond_more j js true = refl
  cond_more j js false = refl

  pub entries_naming : (names : List ℕ) → name_twice (entries g names) ≡ false → naming k own (entries g names) ≡ entries h (cond (among k names) names (names ++ (k ∷ [])))
  unfolding among
  entries_naming [] once = naming_none k own ∙ rw (sym here)
  entries_naming (j ∷ js) once = go (ℕ_discrete j k) (entries_naming js (once_tail (held j (g j)) (entries g js) once))
    where
      go : Dec (j ≡ k) → naming k own (entries g js) ≡ entries h (cond (among k js) js (js ++ (k ∷ [])))
          → naming k own (entries g (j ∷ js)) ≡ entries h (cond (among k (j ∷ js)) (j ∷ js) (j ∷ (js ++ (k ∷ []))))
      go (yes z) ih =
          let rest : entries h js ≡ entries g js = entries_same g h k js same (not_after g k j js once z) in
          let first : held j (h j) ≡ held k own = rw z (ap (held k) here) in
          rw (among_first k j js z) (naming_first k own (held j (g j)) (entries g js) z ∙ sym (ap₂ (λ (x : Held) (xs : List Held). x ∷ xs) first rest))
      go (no z) ih =
          rw (among_other k j js z, cond_more j js (among k js))
          (naming_other k own (held j (g j)) (entries g js) z ∙ ap₂ (λ (x : Place) (xs : List Held). held j x ∷ xs) (sym (same j z)) ih)

-- dropping k
module _ (g : ℕ → Place) (k : ℕ) where
  besides_none : (js : List ℕ) → among k js ≡ false → besides k js ≡ js
  unfolding among besides
  besides_none [] none = refl
  besides_none (j ∷ js) none =
      let parts = or_fails (eqb j k) (among k js) none in
      rw parts.0 (ap (λ (xs : List ℕ). j ∷ xs) (besides_none js parts.1))

  pub entries_dropping : (names : List ℕ) → name_twice (entries g names) ≡ false → dropping k (entries g names) ≡ entries g (besides k names)
  unfolding besides
  entries_dropping [] once = dropping_none k
  entries_dropping (j ∷ js) once = go (ℕ_discrete j k) (entries_dropping js (once_tail (held j (g j)) (entries g js) once))
    where
      go : Dec (j ≡ k) → dropping k (entries g js) ≡ entries g (besides k js) → dropping k (entries g (j ∷ js)) ≡ entries g (besides k (j ∷ js))
      go (yes z) ih =
          rw (eq-eqb j k z, besides_none js (not_after g k j js once z)) (dropping_first k (held j (g j)) (entries g js) z)
      go (no z) ih = rw (ne_eqb j k z) (dropping_other k (held j (g j)) (entries g js) z ∙ ap (λ (xs : List Held). held j (g j) ∷ xs) ih)

  -- returning to k
  pub entries_under : (names : List ℕ) → among k names ≡ true → place_under k (entries g names) ≡ g k
  unfolding among
  entries_under [] e = absurd (false≢true e)
  entries_under (j ∷ js) e = go (ℕ_discrete j k) (entries_under js)
    where
      go : Dec (j ≡ k) → (among k js ≡ true → place_under k (entries g js) ≡ g k) → place_under k (entries g (j ∷ js)) ≡ g k
      go (yes z) ih = under_first k (held j (g j)) (entries g js) z ∙ ap g z
      go (no z) ih = under_other k (held j (g j)) (entries g js) z ∙ ih (sym (among_other k j js z) ∙ e)

  -- what is left after k is dropped was there before
  pub among_besides : (j : ℕ) (names : List ℕ) → among j (besides k names) ≡ true → among j names ≡ true
  unfolding besides
  among_besides j [] e = e
  among_besides j (x ∷ xs) e = go (ℕ_discrete x k) (ℕ_discrete x j) (among_besides j xs)
    where
      go : Dec (x ≡ k) → Dec (x ≡ j) → (among j (besides k xs) ≡ true → among j xs ≡ true) → among j (x ∷ xs) ≡ true
      go p (yes q) ih = among_first j x xs q
      go (yes p) (no q) ih = among_other j x xs q ∙ ih (rw (eq-eqb x k p) at e)
      go (no p) (no q) ih = among_other j x xs q ∙ ih (sym (among_other j x (besides k xs) q) ∙ (rw (ne_eqb x k p) at e))

-- after k is named, each name held is k or was held before
among_last : (j k : ℕ) (xs : List ℕ) → (k ≡ j → ⊥) → among j (xs ++ (k ∷ [])) ≡ true → among j xs ≡ true
among_last j k [] other e = sym (among_other j k [] other) ∙ e
among_last j k (x ∷ xs) other e = more (ℕ_discrete x j) (among_last j k xs other)
  where
    more : Dec (x ≡ j) → (among j (xs ++ (k ∷ [])) ≡ true → among j xs ≡ true) → among j (x ∷ xs) ≡ true
    more (yes q) ih = among_first j x xs q
    more (no q) ih = among_other j x xs q ∙ ih (sym (among_other j x (xs ++ (k ∷ [])) q) ∙ e)

pub among_named : (j k : ℕ) (names : List ℕ) → (k ≡ j → ⊥) → among j (cond (among k names) names (names ++ (k ∷ []))) ≡ true → among j names ≡ true
among_named j k names other = go (among k names)
  where
    go : (b : Bool) → among j (cond b names (names ++ (k ∷ []))) ≡ true → among j names ≡ true
    go true e = e
    go false e = among_last j k names other e

-- the events of a log extend the present history
pub tells_events : (t : Told) (es : List Event) → tells_from t (map happen es) ≡ record { present = t.present ++ es; names = t.names; remembered = t.remembered }
unfolding tells_from tells
tells_events t [] = rw (append-nil t.present)
tells_events t (e ∷ es) = tells_events (tells t (happen e)) es ∙ rw (append_assoc t.present (e ∷ []) es)

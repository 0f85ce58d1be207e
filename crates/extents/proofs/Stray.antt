-- Stray bytes: that the definition is the request's words, and that the test whether sections follow one another finds them in every sheet that passes 5: where
-- a section, or the sheet, does not end what stands before it, the first byte after that is in no section. Assumes nothing.
use Prim.Native.Nat.{ℕ, zero, suc, ◌+◌, ◌≤◌, ◌<◌}
use mathlib.Core.Path.{◌≡◌, refl, sym, ◌∙◌}
use mathlib.Core.Bool.{Bool, true, false, not, ◌&&◌, and-false}
use mathlib.Core.List.{List}
use mathlib.Core.Logic.{◌≢◌}
use native.Mathlib.Decide.{ℕ_discrete, dec_lt}
use native.Mathlib.Omega.{arith}
use borrow.Author.Tests.{lt-ltb, le-ltb, le-leb, lt-leb, leb-true, eq-eqb, ne_eqb, eqb-true, eqb-false, not-true, not-false}
use lib.Dec.{leb, eqb}
use lib.ListN.{length}
use Rattle.lists.specs.Lists.{some}
use Rattle.lists.proofs.Lists.{and_holds, some_holds, some_found, some_fails, some_none}
use Rattle.header.specs.Header.{sections, least_offset, offset, size}
use Rattle.header.proofs.Header.{two_sections}
use Rattle.extents.specs.Extents.{end_before, bad_extents, in_section, covered, stray_byte, apart, contiguous}
use Rattle.extents.specs.Stray.{IsStray, HasStray}
use Rattle.extents.proofs.Extents.{placed, first_start_lem, next_start, end_mono, end_from, end_within}

module _ (s : List ℕ) where
  -- where a byte is in a section, and where not
  in_place : (k i : ℕ) → offset s k ≤ i → i < offset s k + size s k → in_section s k i ≡ true
  unfolding in_section
  in_place k i h l = rw (le-leb (offset s k) i h) (lt-ltb i (offset s k + size s k) l)

  before_it : (k i : ℕ) → i < offset s k → in_section s k i ≡ false
  unfolding in_section
  before_it k i h = rw (lt-leb (offset s k) i h) refl

  after_it : (k i : ℕ) → offset s k + size s k ≤ i → in_section s k i ≡ false
  unfolding in_section
  after_it k i h = rw (le-leb (offset s k) i (omega arith)) (le-ltb i (offset s k + size s k) h)

  -- 28 holds exactly where a byte is stray
  pub stray_holds : (i : ℕ) → IsStray s i → stray_byte s ≡ true
  unfolding stray_byte covered
  stray_holds i stray =
      some_holds (length s) _ i stray.before
      (rw (le-leb (least_offset s) i stray.from, some_none (sections s) (λ k. in_section s k i) stray.in_none) refl)

  pub stray_found : stray_byte s ≡ true → HasStray s
  unfolding stray_byte covered
  stray_found e =
      let found = some_found (length s) _ e in
      let parts = and_holds (leb (least_offset s) found.at) _ found.passes in
      let in_none = some_fails (sections s) (λ k. in_section s k found.at) (not-true _ parts.1) in
      record { at = found.at; stray = record { from = leb-true _ _ parts.0; before = found.below; in_none = in_none } }

  -- one section apart is enough
  pub not_contiguous : {start end : ℕ} (i : ℕ) → i < sections s → start ≡ offset s i → end ≡ end_before s i → start ≢ end → false ≡ contiguous s
  unfolding contiguous apart
  not_contiguous i h p q differ = rw (some_holds (sections s) (apart s) i h (rw (← p, ← q, ne_eqb _ _ differ) refl)) refl

  -- sections that follow one another
  abbrev pub EndToEnd : Type 0
  EndToEnd = (i : ℕ) → i < sections s → offset s i ≡ end_before s i

  module _ (follow : EndToEnd) where
    -- leave no byte out up to the end of each
    reached : (m i : ℕ) → m ≤ sections s → least_offset s ≤ i → i < end_before s m → covered s i ≡ true
    unfolding covered
    reached zero i l from h = absurd (omega (arith, first_start_lem s))
    reached (suc m) i l from h = go (dec_lt i (end_before s m)) (reached m i (omega arith) from)
      where
        go : Dec (i < end_before s m) → (i < end_before s m → some (sections s) (λ k. in_section s k i) ≡ true) → some (sections s) (λ k. in_section s k i) ≡ true
        go (yes q) earlier = earlier q
        go (no q) earlier =
            some_holds (sections s) _ m (omega arith)
            (in_place m i (omega (arith, follow m (omega arith))) (omega (arith, next_start s m)))

    none_stray : length s ≡ end_before s (sections s) → stray_byte s ≡ false
    unfolding stray_byte
    none_stray end = some_none (length s) _ (λ i h. go i h (dec_lt i (least_offset s)))
      where
        go : (i : ℕ) → i < length s → Dec (i < least_offset s) → (leb (least_offset s) i && not (covered s i)) ≡ false
        go i h (yes l) = rw (lt-leb (least_offset s) i l) refl
        go i h (no l) = rw (reached (sections s) i (omega arith) (omega arith) (omega (arith, end))) (and-false (leb (least_offset s) i))

  module _ (passed : bad_extents s ≡ false) where
    -- the first byte after what stands before section m, or after the last, where it is in the sheet and no section begins there
    gap : (m : ℕ) → m ≤ sections s → end_before s m < length s → (m < sections s → end_before s m < offset s m) → stray_byte s ≡ true
    gap m l within later = stray_holds (end_before s m) (record { from = end_from s passed m l; before = within; in_none = λ k h. outside k h (dec_lt k m) })
      where
        outside : (k : ℕ) → k < sections s → Dec (k < m) → in_section s k (end_before s m) ≡ false
        outside k h (yes q) = after_it k (end_before s m) (omega (arith, next_start s k, end_mono s passed (suc k) m (omega arith) l))
        outside k h (no q) =
            before_it k (end_before s m) (go (ℕ_discrete k m))
          where
            go : Dec (k ≡ m) → end_before s m < offset s k
            go (yes e) = rw e (later (omega arith))
            go (no e) =
                omega (
                  arith,
                  later (omega arith),
                  next_start s m,
                  end_mono s passed (suc m) k (omega arith) (omega arith),
                  (placed s passed k h).sorted,
                )

    -- of a sheet that passes 5, a byte is stray just where a section, or the sheet's end, does not follow on what stands before it
    pub stray_contiguous : stray_byte s ≡ not (contiguous s)
    unfolding contiguous apart
    stray_contiguous = go (some (sections s) (apart s)) refl (ℕ_discrete (length s) (end_before s (sections s)))
      where
        at_end : end_before s (sections s) ≤ length s
        at_end = last (sections s) refl
          where
            last : (m : ℕ) → m ≡ sections s → end_before s (sections s) ≤ length s
            last zero e = absurd (omega (arith, two_sections s))
            last (suc m) e = rw (← e) (end_within s passed m (omega arith))

        follow : some (sections s) (apart s) ≡ false → EndToEnd
        follow none i h = eqb-true _ _ (not-false (eqb (offset s i) (end_before s i)) (some_fails (sections s) (apart s) none i h))

        go : (b : Bool) → some (sections s) (apart s) ≡ b → Dec (length s ≡ end_before s (sections s))
            → stray_byte s ≡ not (not (some (sections s) (apart s)) && eqb (length s) (end_before s (sections s)))
        go true e d =
            let found = some_found (sections s) (apart s) e in
            let i : ℕ = found.at in
            let place = placed s passed i found.below in
            let differ = eqb-false (offset s i) (end_before s i) (not-true _ found.passes) in
            let before : end_before s i < offset s i = omega (arith, place.sorted, differ) in
            rw e (gap i (omega (arith, found.below)) (omega (arith, place.within)) (λ h. before))
        go false e (yes end) = rw (e, eq-eqb _ _ end) (none_stray (follow e) end)
        go false e (no h) = rw (e, ne_eqb _ _ h) (gap (sections s) (omega arith) (omega (arith, at_end, h)) (λ q. absurd (omega arith)))

    -- past 28 they do follow
    pub end_to_end : stray_byte s ≡ false → EndToEnd
    unfolding contiguous apart
    end_to_end none i h =
        let all = not-false (contiguous s) (sym stray_contiguous ∙ none) in
        let follow = (and_holds (not (some (sections s) (apart s))) _ all).0 in
        eqb-true _ _ (not-false (eqb (offset s i) (end_before s i)) (some_fails (sections s) (apart s) (not-true _ follow) i h))

    pub last_end : stray_byte s ≡ false → length s ≡ end_before s (sections s)
    unfolding contiguous
    last_end none =
        let all = not-false (contiguous s) (sym stray_contiguous ∙ none) in
        eqb-true _ _ (and_holds (not (some (sections s) (apart s))) _ all).1

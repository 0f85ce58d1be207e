-- Runs of stores: one pair more of a list of pairs, and the parts of a sheet, which are the sheet. Assumes nothing.
use Prim.Native.Nat.{ℕ, zero, suc, ◌+◌, ◌*◌, ◌^◌, ◌≤◌, ◌<◌}
use mathlib.Core.Path.{◌≡◌, refl}
use mathlib.Core.List.{List, [], ◌∷◌, ◌++◌, append-nil, append_assoc}
use native.Mathlib.Nat.{zero-add}
use native.Mathlib.Omega.{arith}
use lib.Dec.{lit<}
use lib.ListN.{length, get_or, take, length-append}
use lib.Seq.{sets, sets-eq, take-suc, length-take-le}
use Rattle.units.specs.Limits.{task_limit}
use Rattle.job.specs.declared.Platform.{Platform}
use Rattle.fields.specs.Bytes.{field_length}
use Rattle.fields.specs.Written.{field_bytes, fields}
use Rattle.fields.proofs.Written.{length_fields, fields_append}
use Rattle.fields.proofs.Stores.{sets_append}
use Rattle.header.specs.Header.{pair_length}
use Rattle.kinds.specs.Kinds.{platform_length, weights_length}
use Rattle.writing.specs.Form.{pairs, header, platform_start, weights_start, platform_fields, platform_section, weights_section, form_one, lengths, together, form_of, written}
use Rattle.writing.specs.Working.Ready.{ReadyForHeader}
use Rattle.writing.specs.Working.Starts.{start_in}
use Rattle.writing.proofs.Forms.{form_length}

-- one pair more
pub pairs_more : (ps b : List ℕ) (at i : ℕ) → 2 * i + 1 < length ps
    → sets (sets b at (fields (take (2 * i) ps))) (at + pair_length * i) (fields (get_or ps (2 * i) 0 ∷ get_or ps (2 * i + 1) 0 ∷ []))
    ≡ sets b at (fields (take (2 * (i + 1)) ps))
pairs_more ps b at i h =
    let one : 2 * i + 1 ≡ suc (2 * i) = omega arith in
    let two : 2 * (i + 1) ≡ suc (suc (2 * i)) = omega arith in
    rw (
      sets_append (fields (take (2 * i) ps)) (fields (get_or ps (2 * i) 0 ∷ get_or ps (2 * i + 1) 0 ∷ [])) b at (at + pair_length * i)
          (omega (arith, length_fields (take (2 * i) ps), length-take-le (2 * i) ps (omega arith))),
      ← (fields_append (take (2 * i) ps) (get_or ps (2 * i) 0 ∷ get_or ps (2 * i + 1) 0 ∷ [])),
      two,
      take-suc ps (suc (2 * i)) 0 (omega arith),
      take-suc ps (2 * i) 0 (omega arith),
      one,
      append_assoc (take (2 * i) ps) (get_or ps (2 * i) 0 ∷ []) (get_or ps (suc (2 * i)) 0 ∷ []),
    ) refl

-- a platform and weights of few tasks have their places
pub header_ready : (n : ℕ) {size : ℕ} (b : List ℕ) → n ≤ task_limit → size ≡ weights_length n → weights_start + weights_length n ≤ length b
    → ReadyForHeader n (platform_length ∷ size ∷ []) b
unfolding start_in
header_ready n {size} b few e room =
    record { few = few; some_sections = lit< tt; pairs = record { short = short; room = omega arith } }
  where
    short : (i : ℕ) → i ≤ 2 → start_in platform_start (platform_length ∷ size ∷ []) i < 2 ^ 32
    short zero h = lit< tt
    short (suc zero) h = lit< tt
    short (suc (suc zero)) h = omega arith
    short (suc (suc (suc i))) h = absurd (omega arith)

-- the parts of form 1
module _ (p : Platform) (w : List ℕ) where
  abbrev front : List ℕ
  front = header (length w) (platform_length ∷ weights_length (length w) ∷ [])

  sizes_are : lengths (platform_section p ∷ weights_section w ∷ []) ≡ platform_length ∷ weights_length (length w) ∷ []
  unfolding lengths field_bytes fields
  sizes_are = let e : length (weights_section w) ≡ weights_length (length w) = omega (arith, length_fields w) in rw e refl

  parts_are : form_one p w ≡ front ++ (platform_section p ++ weights_section w)
  unfolding form_one form_of together
  parts_are = rw (sizes_are, append-nil (fields w)) refl

  front_long : platform_start ≡ 0 + length front
  unfolding fields field_bytes pairs
  front_long = refl

  -- at the front of a buffer that holds them
  form_stored : (b : List ℕ) → length (form_one p w) ≤ length b
      → sets (sets (sets b 0 front) platform_start (platform_section p)) weights_start (weights_section w) ≡ written (form_one p w) b
  form_stored b h =
      rw (
        sets_append front (platform_section p) b 0 platform_start front_long,
        sets_append (front ++ platform_section p) (weights_section w) b 0 weights_start
            (omega (arith, length-append front (platform_section p), front_long, length_fields (platform_fields p))),
        append_assoc front (platform_section p) (weights_section w),
        ← parts_are,
      )
      (rw (zero-add) at (sets-eq (form_one p w) b 0 (omega arith)))

-- the weights being two lists, one after the other
pub sheet_stored : (p : Platform) (early late b : List ℕ) → weights_start + weights_length (length early + length late) ≤ length b
    → sets
    (sets
    (sets (sets b 0 (header (length early + length late) (platform_length ∷ weights_length (length early + length late) ∷ []))) platform_start (platform_section p))
    weights_start (weights_section early))
    (weights_start + 1 + field_length * length early) (fields late)
    ≡ written (form_one p (early ++ late)) b
sheet_stored p early late b h =
    rw (
      sets_append (weights_section early) (fields late) _ weights_start (weights_start + 1 + field_length * length early) (omega (arith, length_fields early)),
      ← (fields_append early late),
      ← (length-append early late),
    )
    (form_stored p (early ++ late) b (omega (arith, form_length p (early ++ late), length-append early late)))

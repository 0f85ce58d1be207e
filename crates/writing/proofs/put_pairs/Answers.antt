use Prim.Native.Nat.{ℕ, suc, ◌+◌, ◌-◌, ◌*◌, ◌≤◌, ◌<◌, ◌^◌}
use mathlib.Core.Path.{◌≡◌, refl, sym, ◌∙◌}
use mathlib.Core.List.{List, [], ◌∷◌}
use native.Mathlib.Numerals.{add-one}
use native.Mathlib.Omega.{arith}
use lib.ListN.{length, get_or, take}
use lib.Seq.{sets, length-sets, take_all}
use Rattle.fields.specs.Written.{fields}
use Rattle.header.specs.Header.{pairs_start, pair_length}
use Rattle.writing.specs.Form.{pairs}
use Rattle.writing.specs.Working.Ready.{ReadyForPairs}
use Rattle.writing.specs.Working.Starts.{start_in}
use Rattle.writing.proofs.Starts.{length_pairs, start_first, start_next, pair_start, pair_size}
use Rattle.writing.proofs.Stores.{pairs_more}
use Rattle.writing.proofs.put_pairs.Invariants.{base, Paired}
use Rattle.writing.proofs.put_pairs.Goals as goal

-- one pair more, of the start and the size that were read
paired_more : (before sizes : List ℕ) {buffer after : List ℕ} {start i : ℕ} → i < length sizes → Paired before sizes buffer start i
    → after ≡ sets buffer (pairs_start + pair_length * i) (fields (start ∷ get_or sizes i 0 ∷ [])) → Paired before sizes after (start + get_or sizes i 0) (i + 1)
paired_more before sizes {buffer} {after} {start} {i} h now e =
    let more = pairs_more (pairs (base sizes) sizes) before pairs_start i (omega (arith, length_pairs (base sizes) sizes)) in
    let pair = rw (pair_start (base sizes) sizes i h, pair_size (base sizes) sizes i h) at more in
    record {
      within = omega arith;
      next = rw (now.next, add-one i) (sym (start_next (base sizes) sizes i h));
      stored = e ∙ rw (now.stored, now.next) pair;
    }

-- where a section starts and ends is a field
ends_short : (sizes buffer : List ℕ) → ReadyForPairs sizes buffer → {start i : ℕ} → i < length sizes → start ≡ start_in (base sizes) sizes i
    → start + get_or sizes i 0 < 2 ^ 32
ends_short sizes buffer ready {start} {i} h e = rw (e, ← (start_next (base sizes) sizes i h)) (ready.short (suc i) h)

pub overflow_mul-start : goal.overflow_mul-start
overflow_mul-start c = omega (arith, c.requires.room)

pub overflow_add-start : goal.overflow_add-start
overflow_add-start c = omega (arith, c.requires.room)

pub loop-i-init : goal.loop-i-init
unfolding fields
loop-i-init c = record { within = omega arith; next = sym (start_first _ _); stored = refl }

pub overflow_cast-pair : goal.overflow_cast-pair
overflow_cast-pair c =
    omega (arith, ends_short _ _ c.requires (omega arith) c.loop-i.invariant.next)

pub overflow_cast-pair-in-loop-i : goal.overflow_cast-pair-in-loop-i
overflow_cast-pair-in-loop-i c =
    omega (arith, ends_short _ _ c.requires (omega arith) c.loop-i.invariant.next)

pub overflow_mul-i : goal.overflow_mul-i
overflow_mul-i c = omega arith

pub overflow_add-i : goal.overflow_add-i
overflow_add-i c = omega arith

pub slice_bounds-put_fields-end : goal.slice_bounds-put_fields-end
slice_bounds-put_fields-end c = omega arith

pub put_fields-requires : goal.put_fields-requires
put_fields-requires c =
    let pairs-passed = fields (take (2 * c.loop-i.i) (pairs (base c.args.sizes.now) c.args.sizes.now)) in
    rw (c.loop-i.invariant.stored, length-sets c.args.buffer.now pairs_start pairs-passed) (omega (arith, c.requires.room))

pub overflow_add-start-in-loop-i : goal.overflow_add-start-in-loop-i
overflow_add-start-in-loop-i c =
    omega (arith, ends_short _ _ c.requires (omega arith) c.loop-i.invariant.next)

pub loop-i-preserved : goal.loop-i-preserved
loop-i-preserved c =
    paired_more c.args.buffer.now c.args.sizes.now (omega arith) c.loop-i.invariant c.put_fields.ensures

pub shape_of-buffer : goal.shape_of-buffer
shape_of-buffer c =
    let pairs-passed = fields (take (2 * c.loop-i.i) (pairs (base c.args.sizes.now) c.args.sizes.now)) in
    rw c.loop-i.invariant.stored (length-sets c.args.buffer.now pairs_start pairs-passed)

pub returns : goal.returns
returns c =
    let sizes = c.args.sizes.now in
    let loop = c.loop-i in
    let all : length (pairs (base sizes) sizes) ≤ 2 * loop.i = omega (arith, length_pairs (base sizes) sizes) in
    rw (take_all (2 * loop.i) (pairs (base sizes) sizes) all) at loop.invariant.stored

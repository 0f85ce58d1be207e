-- `sheet::lookup::lookup` meets its contract. The stretch found lies within the sheet, so the part is the caller's own; a refused one is empty at byte 0.
-- Assumes nothing.
use mathlib.Core.Path.{refl, ap}
use native.Mathlib.Omega.{arith}
use Rattle.sheet.specs.Lookup.{found_of}
use Rattle.sheet.specs.declared.Found.{Found}
use Rattle.sheet.proofs.Lookups.{part_is, lookup_within}
use mathlib.Core.Path.{refl}
use Rattle.sheet.proofs.lookup.lookup.Goals as goal

pub overflow_add-end : goal.overflow_add-end
overflow_add-end c =
    let find = c.find-found in
    let args = c.args in
    rw find.ensures (omega (arith, lookup_within args.s.now args.k))

pub slice_bounds-result-end : goal.slice_bounds-result-end
slice_bounds-result-end c =
    let find = c.find-found in
    let args = c.args in
    rw find.ensures (omega (arith, lookup_within args.s.now args.k))

pub returns : goal.returns
returns c =
    let find = c.find-found in
    let args = c.args in
    let start = ap (λ (f : Found). f.start) find.ensures in
    let size = ap (λ (f : Found). f.size) find.ensures in
    record { bytes = part_is _ (found_of args.s.now args.k).size start (rw size); block = refl; byte = omega arith }

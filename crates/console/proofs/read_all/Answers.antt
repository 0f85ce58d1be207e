-- What was read stands after what stood there, and the reader gave both.
use Rattle.std.proofs.Common.{◌≡◌, ℕ, ◌+◌, ◌-◌, ◌≤◌, List, ◌++◌, rules, length, take, drop, sym, ap, ◌∙◌, subst, le_refl, drop_at, length-take-le}
use Rattle.std.proofs.lemmas.Slice.{take-put_mid_below}
use Rattle.std.specs.Io.KnownBytes.{Consumes}
use Rattle.std.proofs.KnownBytes.{Consumes-trans}
use borrow.Rule.Slice.PartMut.{put_mid, post_of}
use lib.Seq.{take-add, take-append-le}
use Rattle.console.proofs.read_all.Goals as goal

-- a part written from a on, and its first m elements behind those before it
filled : (a k m : ℕ) (xs ys : List ℕ) → a ≤ length xs → m ≤ length ys → take (a + m) (put_mid a k xs ys) ≡ take a xs ++ take m ys
filled a k m xs ys within fits =
    let new = put_mid a k xs ys in
    let after = post_of a k xs in
    take-add a m new
    ∙ ap (λ l. l ++ take m (drop a new)) (take-put_mid_below a k xs ys a (le_refl _) within)
    ∙ ap (λ l. take a xs ++ l) (ap (take m) (drop_at (take a xs) (ys ++ after) a (length-take-le a xs within)) ∙ take-append-le m ys after fits)

pub loop-n-preserved : goal.loop-n-preserved
loop-n-preserved g c = record {
  within = search rules;
  long = search rules;
  bytes =
      subst
      (Consumes _ _)
      (sym (filled c.loop-n.n (length c.loop-n.buf - c.loop-n.n) c.in-Ok.more c.loop-n.buf c.read.new.buf c.loop-n.invariant.within c.in-Ok.ensures.bound.0))
      (Consumes-trans _ _ _ _ _ c.loop-n.invariant.bytes c.in-Ok.ensures.bytes.0);
}

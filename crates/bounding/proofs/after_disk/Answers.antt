-- `bounding::after_disk` meets its contract. At the end nothing comes after; before it, the least over what lies ahead. Assumes nothing.
use native.Mathlib.Omega.{arith}
use Rattle.bounding.proofs.Bounds.{after_ready, since_ready, after_candidate}
use Rattle.bounding.proofs.after_disk.Goals as goal

pub since-requires : goal.since-requires
since-requires c =
    let pre = c.requires in
    since_ready _ _ _ _ _ _ _ pre (omega arith)

pub least_after-requires : goal.least_after-requires
least_after-requires c =
    let pre = c.requires in
    let since = c.since in
    after_ready _ _ _ _ _ _ _ _ pre (omega arith) since.ensures.cap

pub returns : goal.returns
returns c =
    let least-after = c.least_after in
    let since = c.since in
    let pre = c.requires in
    let if1 = c.if-u-n in
    record {
      range = least-after.ensures.range;
      least = λ v h k. rw (← (since.ensures.value _)) (after_candidate _ _ _ _ _ _ _ _ _ pre.looked least-after.ensures v h k);
      end = λ e. absurd (if1.false e);
    }

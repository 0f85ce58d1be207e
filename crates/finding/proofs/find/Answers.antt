-- `finding::find` meets its contract. What is found within the limit is the least; and no plan below none is past the longest time. Assumes nothing.
use native.Mathlib.Omega.{arith}
use Rattle.finding.proofs.Found.{found_within, found_last}
use Rattle.finding.proofs.find.Goals as goal

pub returns-then-time-n : goal.returns-then-time-n
returns-then-time-n c =
    let pre = c.requires in
    let first-limit = c.first_limit-limit in
    let disks-within = c.disks_within-first in
    let if1 = c.if-time-n in
    found_within _ _ _ _ pre.bounds.ends first-limit.ensures _ _ disks-within.ensures if1.true

pub returns-then-limit-ge-NONE : goal.returns-then-limit-ge-NONE
returns-then-limit-ge-NONE c =
    let pre = c.requires in
    let first-limit = c.first_limit-limit in
    let disks-within = c.disks_within-first in
    let if2 = c.if-limit-ge-NONE in
    found_last _ _ _ _ pre.bounds.ends first-limit.ensures _ _ disks-within.ensures if2.true

pub returns : goal.returns
returns c =
    let pre = c.requires in
    let disks-within2 = c.disks_within in
    found_last _ _ _ _ pre.bounds.ends (omega arith) _ _ disks-within2.ensures (omega arith)

use mathlib.Core.Path.{◌≡◌, ◌∙◌, refl}
use native.Mathlib.Omega.{arith}
use Prim.Native.Nat.{min, ◌+◌}
use Rattle.bounding.proofs.Bounds.{column_next, looked_kept, kept_put, since_ready, after_other, after_here, column_first, after_ready}
use Rattle.table.specs.Working.Table.{cd_start, column}
use Rattle.bounds.specs.Working.Bounds.{bounds_in}
use Rattle.bounding.proofs.fill_column.Goals as goal

pub loop-d-init : goal.loop-d-init
loop-d-init c =
    let pre = c.requires in
    let args = c.args in
    let after_disk = c.after_disk-own in
    let put-square = c.put_square in
    let kept = kept_put args.n args.b.now args.u args.u after_disk.result (omega arith) pre.start pre.bounded.few in
    rw put-square.ensures
    (record {
      column = column_first _ _ _ pre.start pre.bounded.few args.b.now _ pre.stage after_disk.ensures;
      looked = looked_kept _ _ _ args.b.now _ kept pre.bounded.few _ _ pre.looked;
      own_is = after_here args.n args.b.now args.u args.u _ (omega arith) pre.start pre.bounded.few pre.stage.filled.parts.long;
      same_long = refl;
    })

pub since-requires : goal.since-requires
since-requires c =
    let args = c.args in
    let pre = c.requires in
    let loop = c.loop-d in
    since_ready args.ahead.now _ _ _ _ _ _ (record { bounded = pre.bounded; start = pre.start; stage = loop.invariant.column.stage; looked = loop.invariant.looked }) (omega arith)

pub least_after-next-requires : goal.least_after-next-requires
least_after-next-requires c =
    let pre = c.requires in
    let loop = c.loop-d in
    let since = c.since in
    after_ready _ _ _ _ _ _ _ _ (record { bounded = pre.bounded; start = pre.start; stage = loop.invariant.column.stage; looked = loop.invariant.looked }) (omega arith) since.ensures.cap

pub loop-d-preserved : goal.loop-d-preserved
loop-d-preserved c =
    let loop-test = c.loop-d-test in
    let loop = c.loop-d in
    let lesser = c.min in
    let args = c.args in
    let least-after = c.least_after-next in
    let column-at = c.column_at in
    let since = c.since in
    let put-square2 = c.put_square-in-loop-d in
    let pre = c.requires in
    let own = loop.invariant.own_is in
    let x : lesser.result ≡ min (column cd_start args.t.now args.u + (bounds_in args.n loop.b).after args.u args.u) least-after.result = lesser.ensures ∙ rw (column-at.ensures, own) in
    let least = rw (since.ensures.value args.n) at least-after.ensures in
    let kept = kept_put args.n loop.b loop.d args.u lesser.result (omega arith) pre.start pre.bounded.few in
    let column-is =
    rw (← x) at (column_next _ _ _ pre.start pre.bounded.few args.ahead.now loop.b args.end loop.d least-after.result loop-test.true loop.invariant.column loop.invariant.looked least) in
    rw put-square2.ensures
    (record {
      column = column-is;
      looked = looked_kept _ _ _ loop.b _ kept pre.bounded.few _ _ loop.invariant.looked;
      own_is = after_other args.n loop.b loop.d args.u _ (omega arith) pre.start pre.bounded.few args.u (λ e. omega (arith, loop-test.true)) ∙ own;
      same_long = kept.long ∙ loop.invariant.same_long;
    })

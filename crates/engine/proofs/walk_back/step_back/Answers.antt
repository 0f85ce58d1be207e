-- `engine::walk_back::step_back` meets its contract. The branches are the theory's: back to a verification, to a memory copy, to a disk copy, or to the start.
-- Assumes nothing.
use mathlib.Core.Path.{refl, sym, ◌∙◌}
use native.Mathlib.Omega.{arith}
use Rattle.chain.proofs.Placing.{before_mark, before_memory, before_disk, before_start}
use Rattle.equations.proofs.Minima.{memory_back_lem, verification_back_lem}
use Rattle.engine.proofs.walk_back.step_back.Goals as goal

pub e_mem-mem-requires : goal.e_mem-mem-requires
e_mem-mem-requires c =
    let pre = c.requires in
    record { sound = pre.sound; start = pre.on_way.d_m; end = omega (arith, pre.on_way.m_v, pre.end) }

pub e_verif-u-requires : goal.e_verif-u-requires
e_verif-u-requires c =
    let pre = c.requires in
    let on = pre.on_way in
    record { sound = pre.sound; copies = on.d_m; start = omega (arith, on.m_v); end = pre.end; time = c.e_mem-mem.ensures.cap }

pub returns-then-u-m : goal.returns-then-u-m
returns-then-u-m c =
    let on = c.requires.on_way in
    let e-mem = c.e_mem-mem in
    let e-verif = c.e_verif-u in
    let at = verification_back_lem _ _ _ _ _ _ _ on.m_v on.verified (rw e-mem.ensures.value at e-verif.ensures) in
    before_mark _ _ _ on _ at c.if-u-m.true

pub returns-then-m-d : goal.returns-then-m-d
returns-then-m-d c =
    let on = c.requires.on_way in
    let e-mem = c.e_mem-mem in
    let e-verif = c.e_verif-u in
    let at = verification_back_lem _ _ _ _ _ _ _ on.m_v on.verified (rw e-mem.ensures.value at e-verif.ensures) in
    let copy = memory_back_lem _ _ _ _ _ _ (omega (arith, on.d_m, c.if-m-d.true)) on.in_memory e-mem.ensures in
    rw copy (before_memory _ _ _ on (sym at ∙ c.if-u-m.false) c.if-m-d.true)

pub at_disk-requires : goal.at_disk-requires
at_disk-requires c =
    let pre = c.requires in
    let on = pre.on_way in
    record {
      sound = pre.sound;
      some_task = omega (arith, c.if-d-ne0.true);
      end = omega (arith, on.d_m, on.m_v, pre.end);
      in_time = on.on_disk;
    }

pub returns-then-d-ne0 : goal.returns-then-d-ne0
returns-then-d-ne0 c =
    let on = c.requires.on_way in
    let e-mem = c.e_mem-mem in
    let e-verif = c.e_verif-u in
    let at = verification_back_lem _ _ _ _ _ _ _ on.m_v on.verified (rw e-mem.ensures.value at e-verif.ensures) in
    rw c.at_disk.ensures (before_disk _ _ _ on (sym at ∙ c.if-u-m.false) c.if-m-d.false c.if-d-ne0.true)

pub returns : goal.returns
returns c =
    let on = c.requires.on_way in
    let e-mem = c.e_mem-mem in
    let e-verif = c.e_verif-u in
    let at = verification_back_lem _ _ _ _ _ _ _ on.m_v on.verified (rw e-mem.ensures.value at e-verif.ensures) in
    before_start _ _ _ on (sym at ∙ c.if-u-m.false) c.if-m-d.false c.if-d-ne0.false _ refl

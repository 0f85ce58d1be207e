-- Copies over an event: Done saves none, a passed mark saves those of its kind, Failed goes back to the last memory copy and leaves both, and Stopped goes
-- back to the last disk copy, which is the last memory copy from then on. Assumes nothing.
use Prim.Native.Nat.{ℕ, zero, suc, ◌+◌, ◌≤◌, ◌<◌}
use mathlib.Core.Path.{◌≡◌, refl, sym, ◌∙◌}
use mathlib.Core.Bool.{Bool, true, false, not, cond}
use mathlib.Core.List.{List}
use native.Mathlib.Decide.{dec_le, ℕ_discrete}
use native.Mathlib.Omega.{arith}
use borrow.Author.Tests.{le-leb, lt-leb, eq-eqb, ne_eqb}
use lib.Dec.{leb, eqb}
use Rattle.units.specs.Limits.{task_limit}
use Rattle.chain.specs.Time.{Marks, memory, disk, last}
use Rattle.chain.proofs.Equations.{last_here, last_past, last_lt, last_first}
use Rattle.chain.proofs.Last.{last_marked, last_between, last_over}
use Rattle.job.specs.Job.{total}
use Rattle.rules.specs.Rules.{awaits, passed_before}
use Rattle.state.specs.declared.Place.{Place}
use Rattle.state.specs.declared.Run.{Run}
use Rattle.carried.specs.declared.Saved.{Saved}
use Rattle.carried.specs.declared.Carried.{Carried}
use Rattle.carried.specs.Working.Carried.{SavedBefore, Carries}

-- the marks passed at a position in range
pub passed_range : (place : Place) → place.position ≤ task_limit → passed_before place ≤ task_limit + 1
passed_range place h = go (awaits place)
  where
    go : (b : Bool) → cond b place.position (suc place.position) ≤ task_limit + 1
    go true = omega arith
    go false = omega arith

-- seen from a last position, it is the last position still, at its own level and at a lower one
pub last_saved : (k j : ℕ) (f : Marks) (v : ℕ) → k ≤ j → last k f (suc (last j f v)) ≡ last j f v
last_saved k j f v h = go (ℕ_discrete (last j f v) 0)
  where
    go : Dec (last j f v ≡ 0) → last k f (suc (last j f v)) ≡ last j f v
    go (yes z) = rw z (last_first k f)
    go (no z) = last_here k f (last j f v) (omega (arith, last_marked j f v z))

-- from a position back to the memory copy before it no disk copy is passed
pub disk_kept : (f : Marks) (v : ℕ) → last disk f v ≡ last disk f (suc (last memory f v))
unfolding last
disk_kept f zero = sym (last_first disk f)
disk_kept f (suc v) =
    last_over disk f (last memory f (suc v)) (suc v) (last_lt memory f (suc v) (omega arith))
    (λ w a b. omega (arith, last_between memory f (suc v) w a b))

-- a task done without a mark saves nothing; with one, its verification is awaited
pub done_copy : (k : ℕ) (f : Marks) (p : ℕ) → 1 < k → last k f (cond (not (eqb (cond (eqb (f (suc p)) 0) 0 1) 0)) (suc p) (suc (suc p))) ≡ last k f (suc p)
done_copy k f p l = go (ℕ_discrete (f (suc p)) 0)
  where
    go : Dec (f (suc p) ≡ 0) → last k f (cond (not (eqb (cond (eqb (f (suc p)) 0) 0 1) 0)) (suc p) (suc (suc p))) ≡ last k f (suc p)
    go (yes z) = rw (eq-eqb _ _ z) (last_past k f (suc p) (omega arith))
    go (no z) = rw (ne_eqb _ _ z)

module _ (w : List ℕ) (f : Marks) where
  -- a copy stays the last one where the last position is the same
  pub saved_stays : {k j v u : ℕ} {s : Saved} → SavedBefore w f k v s → last j f u ≡ last k f v → SavedBefore w f j u s
  saved_stays saved e = record { position = saved.position ∙ sym e; kept = saved.kept }

  -- over a mark
  pub saved_over : (k v : ℕ) (here s : Saved) → here.position ≡ v → here.kept ≡ total w v → SavedBefore w f k v s
      → SavedBefore w f k (suc v) (cond (leb k (f v)) here s)
  saved_over k v here s at kept saved = go (dec_le k (f v))
    where
      go : Dec (k ≤ f v) → SavedBefore w f k (suc v) (cond (leb k (f v)) here s)
      go (yes h) = rw (le-leb _ _ h) (record { position = at ∙ sym (last_here k f v h); kept = rw at kept })
      go (no h) = let l : f v < k = omega arith in rw (lt-leb _ _ l) (saved_stays saved (last_past k f v l))

  -- back at the last memory copy
  pub saved_failed : (p : ℕ) (m d : Saved) → SavedBefore w f memory p m → SavedBefore w f disk p d
      → SavedBefore w f disk (suc m.position) d
  saved_failed p m d in_memory on_disk = saved_stays on_disk (rw in_memory.position (sym (disk_kept f p)))

  -- back at a copy: it is the last one of its kind and of a lower one
  pub saved_back : (k j v : ℕ) (s : Saved) → k ≤ j → SavedBefore w f j v s → SavedBefore w f k (suc s.position) s
  saved_back k j v s h saved = saved_stays saved (rw saved.position (last_saved k j f v h))

-- a run carries what its state at the place carried does
pub carries_own : {run : Run} {c : Carried} → Carries run c → Carries (record { job = run.job; marks = run.marks; place = c.place }) c
carries_own carries = record { place = refl; memory_copy = rw carries.place carries.memory_copy; disk_copy = rw carries.place carries.disk_copy }

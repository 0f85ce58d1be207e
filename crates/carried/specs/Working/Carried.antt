-- What a run carries: its place, and its last copies with the weight up to each.
use Rattle.std.specs.Prelude.{ℕ, ◌≡◌, cond, List, leb}
use Rattle.chain.specs.Time.{Marks, memory, disk, last}
use Rattle.job.specs.Job.{total}
use Rattle.rules.specs.Rules.{marks_in, passed_before}
use Rattle.state.specs.declared.Place.{Place}
use Rattle.state.specs.declared.Run.{Run}
use Rattle.carried.specs.declared.Saved.{Saved}
use Rattle.carried.specs.declared.Carried.{Carried}

-- the last position before v with a mark of k or more, and the weight of the tasks up to it
pub record SavedBefore (w : List ℕ) (f : Marks) (k v : ℕ) (s : Saved) : Type 0 where
  pub position : s.position ≡ last k f v
  pub kept : s.kept ≡ total w s.position

-- the place of a run, and the copies that its passed marks have saved
pub record Carries (run : Run) (c : Carried) : Type 0 where
  pub place : c.place ≡ run.place
  pub memory_copy : SavedBefore run.job.weights (marks_in run) memory (passed_before run.place) c.memory
  pub disk_copy : SavedBefore run.job.weights (marks_in run) disk (passed_before run.place) c.disk

-- the copies after a mark has passed at a place
unfoldable pub over_mark : (mark : ℕ) → Carried → Place → Carried
over_mark mark before place =
    let here : Saved = record { position = place.position; kept = place.sums.kept } in
    record {
      place = place;
      memory = cond (leb memory mark) here before.memory;
      disk = cond (leb disk mark) here before.disk;
    }

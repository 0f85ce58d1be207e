-- Where a run stands, from its marks and its list of events alone. The copies are kept explicitly: the position last saved in memory, and the one last saved
-- on disk. No definition of the step of a run is used.
use Rattle.std.specs.Prelude.{ℕ, suc, Bool, false, not, cond, List, [], ◌∷◌, leb, eqb}
use Rattle.chain.specs.Time.{Marks, memory, disk}
use Rattle.events.specs.declared.Event.{Event}
use Rattle.events.specs.declared.Event.TheVariants.{Done, Passed, Failed, Stopped}

pub record History : Type 0 where
  pub position : ℕ
  pub awaiting : Bool
  -- the position of the memory copy
  pub in_memory : ℕ
  -- the position of the disk copy
  pub on_disk : ℕ

-- before task 1; position 0 counts as saved on disk and in memory
abbrev pub at_start : History
at_start = record { position = 0; awaiting = false; in_memory = 0; on_disk = 0 }

-- Done: if the task's mark is not 0, its verification is awaited. Passed: a mark of 2 or 3 saves in memory, of 3 on disk. Failed: the run stands at the memory
-- copy. Stopped: the memory copy is lost, and the run stands at the disk copy, which is then in memory too
unfoldable pub happened : Marks → History → Event → History
happened f h Done =
    record { position = suc h.position; awaiting = not (eqb (f (suc h.position)) 0); in_memory = h.in_memory; on_disk = h.on_disk }
happened f h Passed =
    record {
      position = h.position;
      awaiting = false;
      in_memory = cond (leb memory (f h.position)) h.position h.in_memory;
      on_disk = cond (leb disk (f h.position)) h.position h.on_disk;
    }
happened f h Failed = record { position = h.in_memory; awaiting = false; in_memory = h.in_memory; on_disk = h.on_disk }
happened f h (Stopped lost) = record { position = h.on_disk; awaiting = false; in_memory = h.on_disk; on_disk = h.on_disk }

unfoldable pub history_from : Marks → History → List Event → History
history_from f h [] = h
history_from f h (e ∷ es) = history_from f (happened f h e) es

-- the history of a run's events
unfoldable pub history : Marks → List Event → History
history f events = history_from f at_start events

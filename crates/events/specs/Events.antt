-- The four events of a run: where it stands after each, and its sums there.
use Rattle.std.specs.Prelude.{ℕ, suc, ◌+◌, ◌-◌, cond, eqb}
use Rattle.chain.specs.Time.{Marks, memory, disk, last}
use Rattle.job.specs.Job.{weight_at, between}
use Rattle.job.specs.declared.Job.{Job}
use Rattle.costs.specs.Costs.{v_at, rd_at, rm_at, verify_paid, saves_paid}
use Rattle.state.specs.declared.Sums.{Sums}
use Rattle.state.specs.declared.Place.{Place}
use Rattle.events.specs.declared.Event.{Event}
use Rattle.events.specs.declared.Event.TheVariants.{Done, Passed, Failed, Stopped}

-- t ticks join one of the sums
abbrev pub join_kept : ℕ → Sums → Sums
join_kept t s = record { kept = s.kept + t; redone = s.redone; verify = s.verify; saves = s.saves; recovery = s.recovery }

abbrev pub join_redone : ℕ → Sums → Sums
join_redone t s = record { kept = s.kept; redone = s.redone + t; verify = s.verify; saves = s.saves; recovery = s.recovery }

abbrev pub join_verify : ℕ → Sums → Sums
join_verify t s = record { kept = s.kept; redone = s.redone; verify = s.verify + t; saves = s.saves; recovery = s.recovery }

abbrev pub join_saves : ℕ → Sums → Sums
join_saves t s = record { kept = s.kept; redone = s.redone; verify = s.verify; saves = s.saves + t; recovery = s.recovery }

abbrev pub join_recovery : ℕ → Sums → Sums
join_recovery t s = record { kept = s.kept; redone = s.redone; verify = s.verify; saves = s.saves; recovery = s.recovery + t }

-- t ticks move from kept to redone
abbrev pub move : ℕ → Sums → Sums
move t s = record { kept = s.kept - t; redone = s.redone + t; verify = s.verify; saves = s.saves; recovery = s.recovery }

-- Done: the running task's weight joins kept. If its mark is not 0, its verification is awaited.
unfoldable pub after_done : Job → Marks → Place → Place
after_done job f place =
    record {
      position = suc place.position;
      awaiting = cond (eqb (f (suc place.position)) 0) 0 1;
      sums = join_kept (weight_at job.weights place.position) place.sums;
    }

-- Passed: the mark's payments join verify (V) and saves (C_M, C_D).
unfoldable pub after_passed : Job → Marks → Place → Place
after_passed job f place =
    let v : ℕ = place.position in
    record {
      position = v;
      awaiting = 0;
      sums = join_saves (saves_paid job (f v) v) (join_verify (verify_paid job (f v) v) place.sums);
    }

-- the last memory copy while a verification is awaited at position p, and the last disk copy while the task after p runs
abbrev pub last_memory : Marks → ℕ → ℕ
last_memory f p = last memory f p

abbrev pub last_disk : Marks → ℕ → ℕ
last_disk f p = last disk f (suc p)

-- Failed: V joins verify, R_M' joins recovery, the run stands at the last memory copy m, and the weights after it move from kept to redone.
unfoldable pub back_to_memory : Job → Place → ℕ → Place
back_to_memory job place m =
    record {
      position = m;
      awaiting = 0;
      sums = move (between job.weights m place.position) (join_recovery (rm_at job m) (join_verify (v_at job place.position) place.sums));
    }

-- Stopped: the lost ticks join redone, R_D' joins recovery, the run stands at the last disk copy d, and the weights after it move from kept to redone.
unfoldable pub back_to_disk : Job → Place → ℕ → ℕ → Place
back_to_disk job place d lost =
    record {
      position = d;
      awaiting = 0;
      sums = move (between job.weights d place.position) (join_recovery (rd_at job d) (join_redone lost place.sums));
    }

-- where a run stands after an event, and its sums there
unfoldable pub place_after : Job → Marks → Place → Event → Place
place_after job f place Done = after_done job f place
place_after job f place Passed = after_passed job f place
place_after job f place Failed = back_to_memory job place (last_memory f place.position)
place_after job f place (Stopped lost) = back_to_disk job place (last_disk f place.position) lost

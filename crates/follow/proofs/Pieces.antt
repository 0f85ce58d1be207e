-- A log that is followed piece by piece leads where the whole log leads: where the pieces so far were accepted, any bytes after them have the same answer from the
-- state reached and as one log from the first state (`two_logs`), but for the state that a refusal hands back. Assumes nothing.
use Prim.Native.Nat.{ℕ}
use mathlib.Core.Path.{◌≡◌, refl, sym, ◌∙◌, ap}
use mathlib.Core.Bool.{Bool, true, false, cond}
use mathlib.Core.List.{List, [], ◌++◌, append_assoc}
use lib.Dec.{eqb}
use lib.ListN.{length}
use borrow.Author.Tests.{eq-eqb, ne_eqb}
use Rattle.refusals.specs.Numbers
use Rattle.named.specs.Named.{broken_named}
use Rattle.named.specs.declared.NamedRun.{NamedRun}
use Rattle.logs.specs.Log.{record_count}
use Rattle.naming.specs.Calls.{answered}
use Rattle.naming.specs.Log.{log_of, empty_log, applied, or_before}
use Rattle.naming.specs.declared.NamedStepped.{NamedStepped}
use Rattle.commands.proofs.Logs.{two_logs}
use Rattle.output.specs.Texts.{refused_text, standing_text, Text}
use Rattle.follow.specs.Prints.{named_text, Leads, LogLeads}
use Rattle.std.specs.Prelude.{Result, Ok, Err}

pub text_refused : (s : NamedStepped) → (s.number ≡ Numbers.accepted → ⊥) → named_text s ≡ refused_text s.number
unfolding named_text
text_refused s h = rw (ne_eqb s.number Numbers.accepted h) refl

pub text_accepted : (s : NamedStepped) → s.number ≡ Numbers.accepted → named_text s ≡ standing_text s.state.run.place s.state.names
unfolding named_text
text_accepted s e = rw (eq-eqb s.number Numbers.accepted e) refl

-- the state from before is handed back by a refusal alone
before_accepted : (state : NamedRun) (s : NamedStepped) → s.number ≡ 0 → or_before state s ≡ s
unfolding or_before
before_accepted state s e = rw (eq-eqb s.number 0 e) refl

-- a refusal has its text, whatever state it hands back
before_text : (state : NamedRun) (s : NamedStepped) → named_text (or_before state s) ≡ named_text s
unfolding named_text or_before
before_text state s = go (eqb s.number 0) refl
  where
    go : (b : Bool) → eqb s.number 0 ≡ b → named_text (cond b s (answered s.number state)) ≡ named_text s
    go true e = refl
    go false e = rw e refl

-- the first state of all
before_before : (first state : NamedRun) (s : NamedStepped) → or_before first (or_before state s) ≡ or_before first s
unfolding or_before
before_before first state s = go (eqb s.number 0) refl
  where
    go : (b : Bool) → eqb s.number 0 ≡ b → or_before first (cond b s (answered s.number state)) ≡ or_before first s
    go true e = refl
    go false e = rw e refl

-- a log hands back its own
before_empty : (state : NamedRun) → or_before state (empty_log state) ≡ empty_log state
unfolding or_before empty_log
before_empty state = go (broken_named state)
  where
    go : (b : Bool) → or_before state (cond b (answered Numbers.broken state) (answered Numbers.accepted state))
        ≡ cond b (answered Numbers.broken state) (answered Numbers.accepted state)
    go true = refl
    go false = refl

before_log : (state : NamedRun) (log : List ℕ) → or_before state (log_of state log) ≡ log_of state log
unfolding log_of
before_log state log = go (eqb (length log) 0)
  where
    go : (b : Bool) → or_before state (cond b (empty_log state) (or_before state (applied state log (record_count log))))
        ≡ cond b (empty_log state) (or_before state (applied state log (record_count log)))
    go true = before_empty state
    go false = before_before state state (applied state log (record_count log))

before_number : (state : NamedRun) (s : NamedStepped) → (or_before state s).number ≡ s.number
unfolding or_before
before_number state s = go (eqb s.number 0)
  where
    go : (b : Bool) → (cond b s (answered s.number state)).number ≡ s.number
    go true = refl
    go false = refl

-- what an answer leads to, whatever state a refusal hands back
lead_before : (r : Result NamedRun Text) (state : NamedRun) (s : NamedStepped) → Leads s r → Leads (or_before state s) r
unfolding Leads
lead_before (Ok next) state s l = rw (before_accepted state s l.0) l
lead_before (Err text) state s l = (λ z. l.0 (sym (before_number state s) ∙ z), rw (before_text state s) l.1)

-- a state reached from another by pieces that were accepted
pub record Reached (first state : NamedRun) : Type 0 where
  pub pieces : List ℕ
  pub same : (b : List ℕ) → log_of first (pieces ++ b) ≡ or_before first (log_of state b)

pub reached_none : (first : NamedRun) → Reached first first
reached_none first = record { pieces = []; same = λ b. sym (before_log first b) }

-- one piece more
pub reached_more : {first state : NamedRun} (piece : List ℕ) → (log_of state piece).number ≡ 0 → Reached first state → Reached first (log_of state piece).state
reached_more {first} {state} piece e reached =
    record {
      pieces = reached.pieces ++ piece;
      same =
          λ b.
          rw (append_assoc reached.pieces piece b)
          (reached.same (piece ++ b)
          ∙ (ap (or_before first) (two_logs state piece b e) ∙ before_before first state (log_of (log_of state piece).state b)));
    }

-- an answer that leads on
pub lead_goes : (s : NamedStepped) (next : NamedRun) → Leads s (Ok next) → (s.number ≡ 0) × (next ≡ s.state)
unfolding Leads
lead_goes s next l = l

-- the last piece
pub reached_leads : {first state : NamedRun} (r : Result NamedRun Text) (piece : List ℕ) → Reached first state → Leads (log_of state piece) r → LogLeads first r
reached_leads {first} {state} r piece reached l =
    record { log = reached.pieces ++ piece; leads = rw (reached.same piece) (lead_before r first (log_of state piece) l) }

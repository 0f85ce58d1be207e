-- Without words after the log the program prints what it prints for a run that holds no names. Assumes nothing.
use Prim.Native.Nat.{ℕ, ◌*◌, ◌<◌}
use mathlib.Core.Path.{◌≡◌, refl, ◌∙◌, ap}
use mathlib.Core.Bool.{cond}
use mathlib.Core.List.{List, [], ◌∷◌, append-nil}
use mathlib.Core.Logic.{◌⊎◌, inl, inr}
use native.Mathlib.Omega.{arith}
use lib.Dec.{eqb}
use lib.ListN.{length}
use Rattle.refusals.specs.Numbers
use Rattle.state.specs.declared.Run.{Run}
use Rattle.following.specs.declared.Stepped.{Stepped}
use Rattle.logs.specs.Log as plain
use Rattle.names.specs.Names.{no_names}
use Rattle.named.specs.Named.{name_twice, some_place_broken, bad_names}
use Rattle.naming.specs.Log.{log_of, beside}
use Rattle.naming.specs.Turns.{Call, call_of, in_turn}
use Rattle.naming.specs.Turns.Call.{logged}
use Rattle.naming.proofs.Once.{log_beside}
use Rattle.output.specs.Texts.{refused_text, run_text, held_text, standing_text, Text}
use Rattle.follow.specs.Prints.{named_text, unnamed, Unread, RunPrints, CallPrints}
use Rattle.follow.specs.Plain.{followed_text, PlainText, PlainPrints}
use Rattle.follow.proofs.Turns.{one_call}

-- no name has no line
none_text : (s : Stepped) → named_text (beside no_names s) ≡ followed_text s
unfolding named_text followed_text standing_text held_text no_names
none_text s = ap (λ (l : List ℕ). cond (eqb s.number Numbers.accepted) l (refused_text s.number)) (append-nil (run_text s.run.place))

-- a log of a run that holds no name is that of the run
none_log : (run : Run) (log : List ℕ) → log_of (unnamed run) log ≡ beside no_names (plain.log_of run log)
unfolding bad_names name_twice some_place_broken no_names
none_log run log = log_beside no_names run log refl

log_text : (run : Run) (log : List ℕ) (calls : List Call) → 2 * length calls < 2
    → named_text (in_turn (unnamed run) (logged log ∷ calls)) ≡ followed_text (plain.log_of run log)
unfolding call_of
log_text run log [] h = ap named_text (one_call (unnamed run) (logged log) ∙ none_log run log) ∙ none_text (plain.log_of run log)
log_text run log (c ∷ cs) h = absurd (omega arith)

run_plain : (run : Run) (path : List ℕ) (words : ℕ) (r : Text) → words < 2 → RunPrints (unnamed run) path words r → PlainText run r ⊎ Unread path r
run_plain run path words r h (inl t) =
    let same = log_text run t.log t.calls (omega (arith, t.few)) in
    inl (record { log = t.log; text = rw same at t.text })
run_plain run path words r h (inr (inl t)) = inr t
run_plain run path words r h (inr (inr t)) = absurd (omega (arith, t.asked))

-- without such words nothing changes
pub call_plain : (s marks path : List ℕ) (words : ℕ) (r : Text) → words < 2 → CallPrints s marks path words r → PlainPrints s marks path r
call_plain s marks path words r h (inl t) = inl t
call_plain s marks path words r h (inr t) = inr (record { refused = t.refused; followed = λ e. run_plain _ path words r h (t.followed e) })

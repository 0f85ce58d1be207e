-- Each piece that is accepted leads on; the last, and one that is refused, leads where the log does.
use Rattle.std.proofs.Common.{◌≡◌, Ok, refl, inl, inr, rules}
use Rattle.follow.specs.Prints.{Lost}
use Rattle.follow.proofs.Pieces.{reached_none, reached_more, reached_leads, lead_goes}
use Rattle.follow.proofs.follow_log.Goals as goal

pub loop-i-init : goal.loop-i-init
loop-i-init c = record { long = refl; reached = reached_none _ }

pub returns-in-Err : goal.returns-in-Err
unfolding Lost
returns-in-Err c = inr (inl c.unreadable.ensures)

pub returns-in_err-state : goal.returns-in_err-state
returns-in_err-state c =
    let same : c.from_residual.result ≡ c.lead.result = search rules in
    let leads = rw (c.follow.ensures, ← same) at c.lead.ensures in
    inl (reached_leads _ _ c.loop-i.invariant.reached leads)

pub returns-then-n-lt-PIECE_LENGTH : goal.returns-then-n-lt-PIECE_LENGTH
returns-then-n-lt-PIECE_LENGTH c =
    let is : c.lead.result ≡ Ok c.in_ok-state.state = search rules in
    let leads = rw (c.follow.ensures, is) at c.lead.ensures in
    inl (reached_leads _ _ c.loop-i.invariant.reached leads)

pub loop-i-preserved : goal.loop-i-preserved
loop-i-preserved c =
    let is : c.lead.result ≡ Ok c.in_ok-state.state = search rules in
    let leads = lead_goes _ _ (rw (c.follow.ensures, is) at c.lead.ensures) in
    record { long = search rules; reached = rw leads.1 (reached_more _ leads.0 c.loop-i.invariant.reached) }

pub returns : goal.returns
unfolding Lost
returns c = inr (inr c.endless.ensures)

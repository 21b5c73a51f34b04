-- `turns::body_turn` meets its contract. Assumes nothing.
use Rattle.std.proofs.Common.{sym, ◌∙◌}
use Rattle.turns.specs.Turns.{body_turn}
use Rattle.turns.proofs.Turning.{plan-fits, stop_taken, bad_turn}
use Rattle.turns.proofs.body_turn.Goals as goal

-- a call
pub call_turn-requires : goal.call_turn-requires
call_turn-requires c = plan-fits _ _ (sym c.decode.ensures ∙ c.in-Ok.is)

pub returns-in-Ok : goal.returns-in-Ok
unfolding body_turn
returns-in-Ok c = rw (sym c.decode.ensures ∙ c.in-Ok.is) c.call_turn.ensures

-- a fault
pub returns-in-Err : goal.returns-in-Err
returns-in-Err c =
    let e = c.in-Err.bad in
    rw (sym c.decode.ensures ∙ c.in-Err.is, bad_turn _ _ _ _ _ e) (stop_taken (rw c.from.ensures at c.stop.ensures))

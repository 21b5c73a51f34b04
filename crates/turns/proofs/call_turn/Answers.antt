-- `turns::call_turn` meets its contract. Assumes nothing.
use Rattle.turns.proofs.Turning.{call_taken}
use Rattle.turns.proofs.call_turn.Goals as goal

pub returns : goal.returns
returns c = call_taken _ _ _ _ _ c.perform-a.ensures c.say.ensures c.records_after.ensures

-- `clock::fresh` meets its contract. Assumes nothing.
use Rattle.clock.specs.Word.{distance_span, fresh, packed, fresh_at}
use Rattle.clock.proofs.fresh.Goals as goal

pub returns : goal.returns
unfolding distance_span fresh packed fresh_at
returns c = c.pack.ensures

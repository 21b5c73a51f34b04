-- `flow::start` meets its contract. Assumes nothing.
use Rattle.std.proofs.Common.{refl}
use Rattle.tape.specs.Lines.{opening}
use Rattle.flow.proofs.start.Goals as goal

pub returns : goal.returns
unfolding opening
returns c = refl

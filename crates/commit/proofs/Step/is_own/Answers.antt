-- `commit::Step::is_own` meets its contract. Assumes nothing.
use Rattle.std.proofs.Common.{◌∙◌, arith}
use Rattle.seats.specs.Outcomes.{write_is_found}
use Rattle.commit.proofs.Step.is_own.Goals as goal

pub returns : goal.returns
returns c = c.is_some.ensures ∙ write_is_found c.row_of.ensures _ c.requires.head.writes_is (omega arith) c.write_of.ensures

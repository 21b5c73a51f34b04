-- `work::Noting::number` meets its contract. Assumes nothing.
use Rattle.seats.specs.Outcomes.{entry_at}
use Rattle.std.proofs.Common.{sym}
use Rattle.work.proofs.Noting.number.Goals as goal

pub returns : goal.returns
returns c = sym (entry_at c.row_of.ensures _ c.at.ensures)

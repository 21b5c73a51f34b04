-- `seats::row_of` meets its contract. Assumes nothing.
use Rattle.seats.specs.RowPart.{row-part}
use Rattle.seats.proofs.row_of.Goals as goal

pub returns : goal.returns
returns c = row-part _ _ c.row_from-from.ensures c.min-to.ensures

-- `seats::free_row` meets its contract. Assumes nothing.
use Rattle.seats.specs.RowPart.{freed-part}
use Rattle.seats.proofs.free_row.Goals as goal

pub returns : goal.returns
returns c = freed-part _ _ c.row_from-from.ensures c.min-to.ensures c.fill.ensures

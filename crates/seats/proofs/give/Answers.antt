-- `seats::give` meets its contract. Assumes nothing.
use Rattle.std.proofs.Common.{sym, arith}
use Rattle.seats.specs.RowPart.{put_at, put_past}
use Rattle.seats.proofs.give.Goals as goal

pub returns-then-field-n : goal.returns-then-field-n
returns-then-field-n c =
    put_at _ _ _ _ c.row_from-from.ensures c.if-field-n.true c.store.ensures

pub returns-else-field-n : goal.returns-else-field-n
returns-else-field-n c = sym (put_past _ _ _ _ (omega arith))

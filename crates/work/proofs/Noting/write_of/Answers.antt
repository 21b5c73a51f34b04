-- `work::Noting::write_of` meets its contract. Assumes nothing.
use Rattle.work.proofs.Noting.write_of.Goals as goal

pub returns : goal.returns
returns c = rw c.row_of.ensures at c.write_of.ensures

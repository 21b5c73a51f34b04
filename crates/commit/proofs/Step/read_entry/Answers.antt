-- `commit::Step::read_entry` meets its contract. Assumes nothing.
use Rattle.seats.specs.Entries.{is_read_of}
use Rattle.commit.proofs.Step.read_entry.Goals as goal

pub returns : goal.returns
returns c = is_read_of _ c.row_of.ensures c.of.ensures

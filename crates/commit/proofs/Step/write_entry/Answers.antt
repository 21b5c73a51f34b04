-- `commit::Step::write_entry` meets its contract. Assumes nothing.
use Rattle.seats.specs.Entries.{is_write_of}
use Rattle.commit.proofs.Step.write_entry.Goals as goal

pub returns : goal.returns
returns c = is_write_of _ c.row_of.ensures c.of.ensures

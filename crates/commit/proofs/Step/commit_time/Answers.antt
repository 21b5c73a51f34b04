-- `commit::Step::commit_time` meets its contract. Assumes nothing.
use Rattle.std.proofs.Common.{sym}
use Rattle.commit.proofs.Entries.{commit_is}
use Rattle.commit.proofs.Step.commit_time.Goals as goal

pub returns : goal.returns
returns c =
    let head = c.requires.head in
    sym (commit_is c.row_of-row.ensures _ head.reads_is head.writes_is c.seen_time-seen.ensures c.due_time.ensures)

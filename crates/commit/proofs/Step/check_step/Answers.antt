-- `commit::Step::check_step` meets its contract. Assumes nothing.
use Rattle.std.proofs.Common.{arith}
use Rattle.commit.proofs.Checks.{check_passes, judged_covered}
use Rattle.commit.proofs.Steps.{takes_as}
use Rattle.commit.proofs.Step.check_step.Goals as goal

-- the kept read time covers the time; where it does not, the word decides
pub returns-then-self-entry : goal.returns-then-self-entry
returns-then-self-entry c =
    let head = c.requires.in_use.head in
    let entry = c.read_entry-entry.ensures in
    takes_as c.pass.ensures (λ t. check_passes _ _ head entry.item_is (judged_covered _ _ head (omega (arith, entry.kept_read_is))))

pub check_word-requires : goal.check_word-requires
check_word-requires c =
    let asked = c.requires in
    let entry = c.read_entry-entry.ensures in
    record { in_use = asked.in_use; phase_is = asked.phase_is; below = asked.below; entry_is = entry; uncovered = omega arith }

-- `commit::Step::release` meets its contract. Assumes nothing.
use Rattle.std.proofs.Common.{◌≡◌, ap, arith}
use Rattle.seats.specs.Entries.{is_write}
use Rattle.commit.specs.Steps.{with_lent_words}
use Rattle.commit.proofs.Folds.{released_more, released-none}
use Rattle.commit.proofs.Step.release.Goals as goal

pub loop-i-init : goal.loop-i-init
loop-i-init c = released-none _ _

pub loop-i-preserved : goal.loop-i-preserved
loop-i-preserved c =
    let item = (is_write c.row_of-row.result.now c.loop-i.i c.of-item.ensures).item_is in
    released_more _ _ _ c.loop-i.invariant item c.at-word.ensures c.unlock.ensures c.store.ensures

-- the row that was taken is the step's, and all its n entries are done
pub returns : goal.returns
returns c =
    let all : c.loop-i.i ≡ c.args.n = omega arith in
    ap (with_lent_words c.args.self.now) (rw (c.row_of-row.ensures, all) at c.loop-i.invariant)

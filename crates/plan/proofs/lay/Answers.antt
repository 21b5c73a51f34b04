-- `plan::lay` meets its contract. Assumes nothing.
use Rattle.plan.proofs.Plans.{laid_more, laid_none}
use Rattle.plan.proofs.lay.Goals as goal

pub loop-i-init : goal.loop-i-init
loop-i-init c = laid_none _ _

pub loop-i-preserved : goal.loop-i-preserved
loop-i-preserved c = laid_more _ _ _ c.loop-i.invariant c.at.ensures c.store.ensures

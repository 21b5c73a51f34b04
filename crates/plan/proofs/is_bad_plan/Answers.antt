-- `plan::is_bad_plan` meets its contract. Assumes nothing.
use Rattle.std.proofs.Common.{sym, arith}
use Rattle.rows.specs.Search.{passed_more, passed_none}
use Rattle.plan.proofs.Plans.{bad_at, bad_by_sum, share_bad, share_good, sum_more, sum_none}
use Rattle.plan.proofs.is_bad_plan.Goals as goal

-- a share above its limit, or a limit above the number of seats
pub returns-then-limit-share : goal.returns-then-limit-share
returns-then-limit-share c =
    sym (bad_at _ _ c.loop-o.invariant.0 c.loop-o-test.true (share_bad _ _ c.at-share.ensures c.at-limit.ensures c.then-limit-share.either))

pub loop-o-preserved : goal.loop-o-preserved
loop-o-preserved c =
    let so_far = c.loop-o.invariant in
    let good = share_good _ _ c.at-share.ensures c.at-limit.ensures c.if-limit-share.false c.if-limit-gt-SEATS.false in
    (passed_more _ _ _ so_far.0 c.loop-o-test.true good, sum_more _ _ so_far.1 c.at-share.ensures, omega arith)

pub loop-o-init : goal.loop-o-init
loop-o-init c = (passed_none _ _, sum_none _, omega arith)

pub returns : goal.returns
returns c = sym (bad_by_sum _ _ c.loop-o.invariant.0 (omega arith) c.loop-o.invariant.1)

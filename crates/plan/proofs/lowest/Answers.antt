-- `plan::lowest` meets its contract. Assumes nothing.
use Rattle.std.proofs.Common.{eq-eqb, ne_eqb}
use Rattle.rules.specs.Plan.{is_free}
use Rattle.plan.proofs.Counted.{lowest_here, lowest_past}
use Rattle.plan.proofs.lowest.Goals as goal

pub returns-then-phase-ne-FREE : goal.returns-then-phase-ne-FREE
unfolding is_free
returns-then-phase-ne-FREE c = λ l e h. lowest_past l _ _ h c.requires (simp (← e, ne_eqb _ _ c.if-phase-ne-FREE.true))

pub returns : goal.returns
unfolding is_free
returns c = λ l e h. rw c.or.ensures (lowest_here l _ _ h c.requires (simp (← e, eq-eqb _ _ c.if-phase-ne-FREE.false)))

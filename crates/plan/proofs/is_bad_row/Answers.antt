-- `plan::is_bad_row` meets its contract. Assumes nothing.
use Rattle.std.proofs.Common.{eq-eqb, le-ltb, lt-ltb, ne_eqb}
use Rattle.rules.specs.Tests.{one_of}
use Rattle.rules.specs.Plan.{bad_row}
use Rattle.plan.proofs.is_bad_row.Goals as goal

pub returns-then-phase-gt-STORING : goal.returns-then-phase-gt-STORING
unfolding bad_row one_of
returns-then-phase-gt-STORING c = λ l s q. simp (← q.phase_is, lt-ltb _ _ c.if-phase-gt-STORING.true)

pub returns-then-phase-ne-FREE : goal.returns-then-phase-ne-FREE
unfolding bad_row one_of
returns-then-phase-ne-FREE c = λ l s q. simp (← q.phase_is, ← q.owner_is, le-ltb _ _ c.if-phase-gt-STORING.false, ne_eqb _ _ c.if-phase-ne-FREE.true)

pub returns-else-phase-ne-FREE : goal.returns-else-phase-ne-FREE
unfolding bad_row one_of
returns-else-phase-ne-FREE c = λ l s q. simp (← q.phase_is, le-ltb _ _ c.if-phase-gt-STORING.false, eq-eqb _ _ c.if-phase-ne-FREE.false)

-- `plan::count` meets its contract. Assumes nothing.
use Rattle.std.proofs.Common.{◌∙◌}
use Rattle.plan.proofs.Counted.{counts_free, counts_taken}
use Rattle.plan.proofs.count.Goals as goal

pub returns-then-phase-eq-FREE : goal.returns-then-phase-eq-FREE
returns-then-phase-eq-FREE c = λ l s q h. counts_free l s h q c.if-phase-eq-FREE.true

pub returns : goal.returns
returns c = λ l s q h.
    counts_taken l s h q c.if-phase-eq-FREE.false (c.store.ensures ∙ rw c.at-n.ensures)

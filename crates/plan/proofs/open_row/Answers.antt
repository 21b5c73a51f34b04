-- `plan::open_row` meets its contract. Assumes nothing.
use Rattle.std.proofs.Common.{refl}
use Rattle.rules.specs.Plan.{opened}
use Rattle.seats.specs.Outcomes.{next}
use Rattle.plan.proofs.open_row.Goals as goal

pub returns : goal.returns
unfolding opened
returns c =
    let in-phase = next _ _ _ c.give.ensures c.free_row.ensures refl in
    next _ _ _ c.give-2.ensures in-phase refl

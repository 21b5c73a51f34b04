-- `commit::Step::move_to` meets its contract. Assumes nothing.
use Rattle.std.proofs.Common.{refl, ap}
use Rattle.rules.specs.Advance.{moved}
use Rattle.seats.specs.Outcomes.{next}
use Rattle.commit.specs.Steps.{with_lent_seats}
use Rattle.commit.proofs.Step.move_to.Goals as goal

pub returns : goal.returns
unfolding moved
returns c = ap (with_lent_seats c.args.self.now) (next _ _ _ c.give-2.ensures c.give.ensures refl)

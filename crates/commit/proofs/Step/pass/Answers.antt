-- `commit::Step::pass` meets its contract. Assumes nothing.
use Rattle.std.proofs.Common.{refl}
use Rattle.rules.specs.Advance.{passed_to}
use Rattle.seats.specs.Outcomes.{same}
use Rattle.commit.proofs.Step.pass.Goals as goal

pub returns : goal.returns
unfolding passed_to
returns c = record { same_tables = (refl, refl); outcome = λ t. same refl refl refl c.give.ensures }

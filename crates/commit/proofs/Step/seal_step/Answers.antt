-- `commit::Step::seal_step` meets its contract. Assumes nothing.
use Rattle.std.proofs.Common.{refl}
use Rattle.rules.specs.Advance.{seal_step}
use Rattle.commit.proofs.Step.seal_step.Goals as goal

pub returns : goal.returns
unfolding seal_step
returns c = rw c.move_to.ensures record { same_tables = (refl, refl); outcome = λ t. simp (← c.requires.in_use.head.time_is) refl }

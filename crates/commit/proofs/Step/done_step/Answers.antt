-- `commit::Step::done_step` meets its contract. Assumes nothing.
use Rattle.std.proofs.Common.{refl}
use Rattle.rules.specs.Advance.{done_step}
use Rattle.seats.specs.Outcomes.{same}
use Rattle.commit.proofs.Step.done_step.Goals as goal

pub returns : goal.returns
unfolding done_step
returns c = record { same_tables = (refl, refl); outcome = λ t. simp (← c.requires.in_use.head.time_is) (same refl refl refl c.free_row.ensures) }

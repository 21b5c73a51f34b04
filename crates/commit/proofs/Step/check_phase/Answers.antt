-- `commit::Step::check_phase` meets its contract. Assumes nothing.
use Rattle.std.proofs.Common.{refl, le-ltb, lt-ltb}
use Rattle.rules.specs.Advance.{check_phase}
use Rattle.commit.proofs.Steps.{takes_as}
use Rattle.commit.proofs.Step.check_phase.Goals as goal

pub returns-then-self : goal.returns-then-self
unfolding check_phase
returns-then-self c =
    let head = c.requires.in_use.head in
    takes_as c.check_step.ensures (λ t. simp (← head.position_is, ← head.reads_is, lt-ltb _ _ c.if-self.true) refl)

pub returns : goal.returns
unfolding check_phase
returns c =
    let head = c.requires.in_use.head in
    takes_as c.seal_step.ensures (λ t. simp (← head.position_is, ← head.reads_is, le-ltb _ _ c.if-self.false) refl)

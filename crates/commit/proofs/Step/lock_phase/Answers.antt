-- `commit::Step::lock_phase` meets its contract. Assumes nothing.
use Rattle.std.proofs.Common.{arith, refl, le-ltb, lt-ltb}
use Rattle.rules.specs.Advance.{lock_phase}
use Rattle.commit.proofs.Steps.{takes_as}
use Rattle.commit.proofs.Step.lock_phase.Goals as goal

pub returns-then-held-self : goal.returns-then-held-self
unfolding lock_phase
returns-then-held-self c =
    let head = c.requires.in_use.head in
    let h = c.args.self.now.head in
    takes_as c.lock_step.ensures (λ t. simp (← head.position_is, ← head.writes_is, lt-ltb h.position h.writes (omega arith)) refl)

pub returns : goal.returns
unfolding lock_phase
returns c =
    let head = c.requires.in_use.head in
    let h = c.args.self.now.head in
    takes_as c.time_step.ensures (λ t. simp (← head.position_is, ← head.writes_is, le-ltb h.position h.writes (omega arith)) refl)

-- `commit::Step::store_phase` meets its contract. Assumes nothing.
use Rattle.std.proofs.Common.{refl, le-ltb, lt-ltb}
use Rattle.rules.specs.Advance.{store_phase}
use Rattle.commit.proofs.Steps.{takes_all}
use Rattle.commit.proofs.Step.store_phase.Goals as goal

pub returns-then-self : goal.returns-then-self
unfolding store_phase
returns-then-self c =
    let head = c.requires.in_use.head in
    let stored = c.store_step.ensures in
    record {
      same_tables = stored.same_tables;
      outcome = simp (← head.position_is, ← head.writes_is, lt-ltb _ _ c.if-self.true) stored.outcome;
    }

pub returns : goal.returns
unfolding store_phase
returns c =
    let head = c.requires.in_use.head in
    takes_all _ c.done_step.ensures (simp (← head.position_is, ← head.writes_is, le-ltb _ _ c.if-self.false) refl)

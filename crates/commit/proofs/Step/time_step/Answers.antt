-- `commit::Step::time_step` meets its contract. Assumes nothing.
use Rattle.std.proofs.Common.{arith, refl, le-ltb, lt-ltb}
use Rattle.rules.specs.Advance.{time_step}
use Rattle.seats.specs.Outcomes.{same}
use Rattle.commit.proofs.Steps.{takes_as}
use Rattle.commit.proofs.Step.time_step.Goals as goal

pub returns-then-top-time : goal.returns-then-top-time
unfolding time_step
returns-then-top-time c =
    takes_as c.abort.ensures (λ t.
    simp (← c.commit_time-time.ensures, ← c.top.ensures, lt-ltb c.top.result c.commit_time-time.result (omega arith)) refl)

pub returns : goal.returns
unfolding time_step
returns c =
    let timed = rw c.move_to.ensures at c.give.ensures in
    rw c.move_to.ensures
    record {
      same_tables = (refl, refl);
      outcome = λ t.
          simp (← c.commit_time-time.ensures, ← c.top.ensures, le-ltb c.top.result c.commit_time-time.result (omega arith))
          (same refl refl refl timed);
    }

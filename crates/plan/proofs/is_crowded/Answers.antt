-- `plan::is_crowded` meets its contract. Assumes nothing.
use Rattle.std.proofs.Common.{le-leb}
use Rattle.std.proofs.lemmas.Bool.{lt-leb}
use Rattle.rules.specs.Plan.{crowded}
use Rattle.plan.proofs.is_crowded.Goals as goal

pub returns-then-share-mine : goal.returns-then-share-mine
unfolding crowded
returns-then-share-mine c = λ l o share mine claims. simp (← share, ← mine, ← claims, le-leb _ _ c.if-share-mine.true)

pub returns-else-share-mine : goal.returns-else-share-mine
unfolding crowded
returns-else-share-mine c = λ l o share mine claims. simp (← share, ← mine, lt-leb _ _ c.if-share-mine.false)

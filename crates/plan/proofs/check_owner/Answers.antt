-- `plan::check_owner` meets its contract. Assumes nothing.
use Rattle.std.proofs.Common.{le-leb}
use Rattle.std.proofs.lemmas.Bool.{lt-leb}
use Rattle.rules.specs.Plan.{owner_refusal}
use Rattle.plan.proofs.check_owner.Goals as goal

pub returns-then-limit-mine : goal.returns-then-limit-mine
unfolding owner_refusal
returns-then-limit-mine c = λ l o q. simp (← q.limit_is, ← q.held_is, le-leb _ _ c.if-limit-mine.true)

pub returns-then-is_crowded : goal.returns-then-is_crowded
unfolding owner_refusal
returns-then-is_crowded c = λ l o q.
    let test = c.is_crowded.ensures l o q.share_is q.held_is q.claims_is in
    simp (← test, c.if-is_crowded.true, ← q.limit_is, ← q.held_is, lt-leb _ _ c.if-limit-mine.false)

pub returns : goal.returns
unfolding owner_refusal
returns c = λ l o q.
    let test = c.is_crowded.ensures l o q.share_is q.held_is q.claims_is in
    simp (← test, c.if-is_crowded.false, ← q.limit_is, ← q.held_is, lt-leb _ _ c.if-limit-mine.false)

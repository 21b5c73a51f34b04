-- `commit::is_blocked` meets its contract. Assumes nothing.
use Rattle.rules.specs.Advance.{is_blocked}
use Rattle.commit.proofs.is_blocked.Goals as goal

pub returns-then-locked : goal.returns-then-locked
unfolding is_blocked
returns-then-locked c = λ word l r. simp (← l, ← r, c.if-locked.true)

pub returns-else-locked : goal.returns-else-locked
unfolding is_blocked
returns-else-locked c = λ word l r. simp (← l, c.if-locked.false)

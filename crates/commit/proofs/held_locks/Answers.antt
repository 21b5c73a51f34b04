-- `commit::held_locks` meets its contract. Assumes nothing.
use Rattle.std.proofs.Common.{eq-eqb, ne_eqb}
use Rattle.rules.specs.Advance.{held_locks}
use Rattle.seats.specs.Heads.{head_row}
use Rattle.commit.proofs.held_locks.Goals as goal

pub returns-then-head-eq-CHECKING : goal.returns-then-head-eq-CHECKING
unfolding held_locks head_row
returns-then-head-eq-CHECKING c = simp (eq-eqb _ _ c.if-head-eq-CHECKING.true)

pub returns : goal.returns
unfolding held_locks head_row
returns c = simp (ne_eqb _ _ c.if-head-eq-CHECKING.false)

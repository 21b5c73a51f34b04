-- `seats::Head::is_late` meets its contract. Assumes nothing.
use Rattle.std.proofs.Common.{le-leb}
use Rattle.std.proofs.lemmas.Bool.{lt-leb}
use Rattle.rules.specs.Refusals.{late}
use Rattle.seats.proofs.Head.is_late.Goals as goal

pub returns-then-self-ge-CHECKING : goal.returns-then-self-ge-CHECKING
unfolding late
returns-then-self-ge-CHECKING c = simp (
  ← c.top.ensures,
  le-leb _ _ c.if-self-ge-CHECKING.true,
)

pub returns-else-self-ge-CHECKING : goal.returns-else-self-ge-CHECKING
unfolding late
returns-else-self-ge-CHECKING c = simp (lt-leb _ _ c.if-self-ge-CHECKING.false)

-- `seats::is_misnamed` meets its contract. Assumes nothing.
use Rattle.std.proofs.Common.{le-leb}
use Rattle.std.proofs.lemmas.Bool.{lt-leb}
use Rattle.rules.specs.Refusals.{misnamed}
use Rattle.rules.specs.Tests.{one_of}
use Rattle.seats.proofs.is_misnamed.Goals as goal

pub returns-then-owner-ge-OWNERS : goal.returns-then-owner-ge-OWNERS
unfolding misnamed one_of
returns-then-owner-ge-OWNERS c = simp (le-leb _ _ c.if-owner-ge-OWNERS.true)

pub returns-then-seat-ge-SEATS : goal.returns-then-seat-ge-SEATS
unfolding misnamed one_of
returns-then-seat-ge-SEATS c = simp (
  le-leb _ _ c.if-seat-ge-SEATS.true,
  lt-leb _ _ c.if-owner-ge-OWNERS.false,
)

pub returns : goal.returns
unfolding misnamed one_of
returns c = simp (
  lt-leb _ _ c.if-seat-ge-SEATS.false,
  lt-leb _ _ c.if-owner-ge-OWNERS.false,
)

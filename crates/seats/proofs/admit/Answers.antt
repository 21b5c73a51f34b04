-- `seats::admit` meets its contract. Assumes nothing.
use Rattle.rules.specs.Refusals.{refusal}
use Rattle.seats.specs.Heads.{admission}
use Rattle.seats.proofs.admit.Goals as goal

pub returns-then-is_unsized : goal.returns-then-is_unsized
unfolding refusal admission
returns-then-is_unsized c = simp (← c.is_unsized.ensures, c.if-is_unsized.true)

pub returns-then-is_misnamed : goal.returns-then-is_misnamed
unfolding refusal admission
returns-then-is_misnamed c =
    simp (← c.is_unsized.ensures, c.if-is_unsized.false, ← c.is_misnamed.ensures, c.if-is_misnamed.true)

pub returns : goal.returns
unfolding refusal
returns c =
    simp (
      ← c.is_unsized.ensures,
      c.if-is_unsized.false,
      ← c.is_misnamed.ensures,
      c.if-is_misnamed.false,
      ← c.row_of.ensures,
      ← c.of.ensures,
    )
    c.admit.ensures

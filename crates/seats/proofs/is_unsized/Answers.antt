-- `seats::is_unsized` meets its contract. Assumes nothing.
use Rattle.std.proofs.Common.{eq-eqb, le-ltb, lt-ltb, ne_eqb}
use Rattle.rules.specs.Refusals.{unsized}
use Rattle.rules.specs.Tests.{one_of}
use Rattle.seats.proofs.is_unsized.Goals as goal

pub returns-then-values-words : goal.returns-then-values-words
unfolding unsized one_of
returns-then-values-words c = simp (ne_eqb _ _ c.if-values-words.true)

pub returns-then-words-eq0 : goal.returns-then-words-eq0
unfolding unsized one_of
returns-then-words-eq0 c = simp (
  eq-eqb _ _ c.if-words-eq0.true,
  eq-eqb _ _ c.if-values-words.false,
)

pub returns-then-words-gt-MOST_RECORDS : goal.returns-then-words-gt-MOST_RECORDS
unfolding unsized one_of
returns-then-words-gt-MOST_RECORDS c = simp (
  lt-ltb _ _ c.if-words-gt-MOST_RECORDS.true,
  ne_eqb _ _ c.if-words-eq0.false,
  eq-eqb _ _ c.if-values-words.false,
)

pub returns : goal.returns
unfolding unsized one_of
returns c = simp (
  le-ltb _ _ c.if-words-gt-MOST_RECORDS.false,
  ne_eqb _ _ c.if-words-eq0.false,
  eq-eqb _ _ c.if-values-words.false,
)

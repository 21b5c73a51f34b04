-- `seats::Head::is_misplaced` meets its contract. Assumes nothing.
use Rattle.std.proofs.Common.{eq-eqb, ne_eqb, arith}
use Rattle.rules.specs.Refusals.{misplaced}
use Rattle.seats.proofs.Head.is_misplaced.Goals as goal

pub returns-in-1 : goal.returns-in-1
unfolding misplaced
returns-in-1 c = simp c.in-1.is

pub returns-then-self-eq0 : goal.returns-then-self-eq0
unfolding misplaced
returns-then-self-eq0 c = simp (
  eq-eqb _ _ c.if-self-eq0.true,
  c.in-2.is,
)

pub returns-else-self-eq0 : goal.returns-else-self-eq0
unfolding misplaced
returns-else-self-eq0 c = simp (
  ne_eqb _ _ c.if-self-eq0.false,
  c.in-2.is,
)

pub returns-in-3 : goal.returns-in-3
unfolding misplaced
returns-in-3 c = simp c.in-3.is

pub returns-in_default : goal.returns-in_default
unfolding misplaced
returns-in_default c =
    let phase = c.args.self.phase in
    simp (ne_eqb phase 3 (λ e. omega arith), ne_eqb phase 2 (λ e. omega arith), ne_eqb phase 1 (λ e. omega arith))

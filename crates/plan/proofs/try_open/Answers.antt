-- `plan::try_open` meets its contract. Assumes nothing.
use Rattle.std.proofs.Common.{◌≡◌, ℕ, Option, unwrap_or, ap, ◌∙◌, sym, le-leb}
use Rattle.std.proofs.lemmas.Result.{err_from_is_err_and}
use Rattle.rules.specs.Numbers.{refused_for, not_zero}
use Rattle.rules.specs.Layout.{seat_count}
use Rattle.rules.specs.Tables.{tables}
use Rattle.rules.specs.Plan.{open_refusal, open_seat, free_seat}
use Rattle.rows.specs.Fine.{sized_of}
use Rattle.rows.specs.FreeSeat.{seat_found}
use Rattle.plan.proofs.Counted.{is_found, by-plan, row_refused}
use Rattle.plan.proofs.try_open.Goals as goal
use Rattle.plan.proofs.try_open.Goals.{After-check, In_ok-check}

pub returns-then-is_unsized : goal.returns-then-is_unsized
unfolding open_seat open_refusal
returns-then-is_unsized c = simp (← c.is_unsized.ensures, c.if-is_unsized.true)

pub returns-then-owner-ge-OWNERS : goal.returns-then-owner-ge-OWNERS
unfolding open_seat open_refusal
returns-then-owner-ge-OWNERS c =
    simp (← c.is_unsized.ensures, c.if-is_unsized.false, le-leb _ _ c.if-owner-ge-OWNERS.true)

pub take-requires : goal.take-requires
take-requires c =
    let found = tables c.args.values.now c.args.words.now c.args.seats.now in
    (sized_of found (sym c.is_unsized.ensures ∙ c.if-is_unsized.false)).rows

-- THE OWNER IS ONE: a bad row is refused, and else the plan decides
pub returns-in_err-census : goal.returns-in_err-census
unfolding open_seat
returns-in_err-census c =
    let found = tables c.args.values.now c.args.words.now c.args.seats.now in
    let p = err_from_is_err_and c.from_residual.result c.from_residual.ensures.1 in
    let bad = c.in_err-census.ensures.err in
    rw (p.1, p.2, bad.0)
    (simp (by-plan found _ (sym c.is_unsized.ensures ∙ c.if-is_unsized.false) c.if-owner-ge-OWNERS.false, row_refused _ c.args.owner bad.1))

-- THE OWNER IS ONE: a bad row is refused, and else the plan decides
refusal_is : (c : After-check) → open_refusal (tables c.args.values.now c.args.words.now c.args.seats.now) c.args.owner ≡ refused_for c.check.result
refusal_is c =
    let found = tables c.args.values.now c.args.words.now c.args.seats.now in
    by-plan found _ (sym c.is_unsized.ensures ∙ c.if-is_unsized.false) c.if-owner-ge-OWNERS.false
    ∙ rw (← c.in_ok-census.ensures.ok) (sym c.check.ensures)

-- the plan refuses
pub returns-in_err-check : goal.returns-in_err-check
unfolding open_seat
returns-in_err-check c =
    let due = refusal_is (goal.at.returns-in_err-check c).After-check in
    let p = err_from_is_err_and c.from_residual-in_err-check.result c.from_residual-in_err-check.ensures.1 in
    rw (p.1, p.2) (simp (due, c.in_err-check.was, not_zero))

-- or it does not, and finds a seat
free_is : (c : In_ok-check) → unwrap_or c.in_ok-census.census.free seat_count ≡ free_seat c.args.seats.now
free_is c = c.in_ok-census.census.sound.free_is ∙ ap free_seat c.in_ok-census.ensures.ok

pub unwrap-free-requires : goal.unwrap-free-requires
unwrap-free-requires c =
    let found = tables c.args.values.now c.args.words.now c.args.seats.now in
    let due = refusal_is (goal.at.unwrap-free-requires c).After-check ∙ ap refused_for c.in_ok-check.was in
    let free = free_is (goal.at.unwrap-free-requires c).In_ok-check in
    is_found _ (rw free (seat_found found c.args.owner due))

pub returns : goal.returns
unfolding open_seat
returns c =
    let due = refusal_is (goal.at.returns c).After-check in
    let free = ap (λ (r : Option ℕ). unwrap_or r seat_count) (sym c.unwrap-free.ensures) ∙ free_is (goal.at.returns c).In_ok-check in
    simp (due, c.in_ok-check.was, c.open_row.ensures, ← free)

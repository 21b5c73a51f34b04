-- `plan::try_setup` meets its contract. Assumes nothing.
use Rattle.std.proofs.lemmas.Result.{err_from_is_err_and}
use Rattle.rules.specs.Plan.{setup, setup_refusal}
use Rattle.plan.proofs.Start.{good_start, late-start}
use Rattle.plan.proofs.try_setup.Goals as goal

pub returns-then-is_unsized : goal.returns-then-is_unsized
unfolding setup setup_refusal
returns-then-is_unsized c = simp (← c.is_unsized.ensures, c.if-is_unsized.true)

-- THE LENGTHS ARE RIGHT
pub returns-in_err-word : goal.returns-in_err-word
unfolding setup setup_refusal
returns-in_err-word c =
    let p = err_from_is_err_and c.from_residual.result c.from_residual.ensures.1 in
    let late = late-start _ c.fresh.ensures c.in_err-word.was in
    rw (p.1, p.2) (simp (← c.is_unsized.ensures, c.if-is_unsized.false, late))

-- THE START IS NOT ABOVE T
pub returns-then-is_bad_plan : goal.returns-then-is_bad_plan
unfolding setup setup_refusal
returns-then-is_bad_plan c =
    let started = good_start _ c.fresh.ensures c.in_ok-word.was in
    simp (← c.is_unsized.ensures, c.if-is_unsized.false, started.0, ← c.is_bad_plan.ensures, c.if-is_bad_plan.true)

pub returns : goal.returns
unfolding setup setup_refusal
returns c =
    let started = good_start _ c.fresh.ensures c.in_ok-word.was in
    simp (
      ← c.is_unsized.ensures,
      c.if-is_unsized.false,
      started.0,
      ← c.is_bad_plan.ensures,
      c.if-is_bad_plan.false,
      c.lay.ensures,
      c.fill-2.ensures,
      c.fill.ensures,
      started.1,
    )

-- `flow::step` meets its contract. Assumes nothing.
use Rattle.std.proofs.Common.{arith, sym, ◌∙◌, true≢false}
use Rattle.tape.specs.Room.{fit}
use Rattle.flow.proofs.Fronts.{fit_from, halts, goes_on, opens}
use Rattle.flow.proofs.step.Goals as goal
use Rattle.flow.proofs.step.Goals.{then-unfit-via-then-unfit, then-unfit-via-else-unfit+then-f}

-- unfit, or stopped before
pub returns-then-unfit : goal.returns-then-unfit
returns-then-unfit c =
    halts _ _ _ _ _ (λ ready.
    elim c.then-unfit.branch [
      | then-unfit-via-then-unfit w ↦ absurd (true≢false (sym w.if-unfit.true ∙ c.is_unfit-unfit.ensures ∙ ready))
      | then-unfit-via-else-unfit+then-f w ↦ w.if-f.true
    ])

-- begun
pub take_calls-requires : goal.take_calls-requires
take_calls-requires c = fit_from (fit (sym c.is_unfit-unfit.ensures ∙ c.if-unfit.false)) 0 (omega arith)

pub returns-then-f-2 : goal.returns-then-f-2
returns-then-f-2 c =
    goes_on _ _ _ _ _ (sym c.is_unfit-unfit.ensures ∙ c.if-unfit.false) c.if-f.false c.if-f-2.true c.take_calls.ensures

-- not begun
pub returns : goal.returns
returns c =
    opens _ _ _ _ _ (sym c.is_unfit-unfit.ensures ∙ c.if-unfit.false) c.if-f.false c.if-f-2.false c.open_tape.ensures

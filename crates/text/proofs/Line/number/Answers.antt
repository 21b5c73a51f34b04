-- `Line::number` meets its contract. Assumes nothing.
use Rattle.std.proofs.Common.{arith, refl, ◌∙◌, length-set}
use Rattle.text.specs.Text.{decimal}
use Rattle.text.specs.Puts.{length-decimal}
use Rattle.text.proofs.Laws.{digits_back, digits-none, put_as}
use Rattle.text.proofs.Line.number.Goals as goal

pub loop-i-preserved : goal.loop-i-preserved
loop-i-preserved c =
    let so = c.loop-i.invariant in
    (so.0, so.1, length-set _ _ _ ∙ so.2, rw so.1 (digits_back _ _ _ _ c.loop-i-test.true) ∙ so.3)

pub returns-clause-text : goal.returns-clause-text
unfolding decimal
returns-clause-text c =
    let so = c.loop-i.invariant in
    let k = c.width-k.ensures.is_width in
    put_as (omega (arith, so.1, k, length-decimal c.args.n)) (digits-none _ _ _ _ c.loop-i-test.false ∙ so.3 ∙ rw k refl)

-- `tape::calls` meets its contract. Assumes nothing.
use Rattle.std.proofs.Common.{arith}
use Rattle.tape.specs.Lines.{opening}
use Rattle.tape.proofs.Wholes.{calls_stopped, calls_end}
use Rattle.tape.proofs.calls.Goals as goal

-- stopped by a call
pub returns-then-r : goal.returns-then-r
unfolding opening
returns-then-r c =
    let a = c.args in
    calls_stopped a.part.now a.out.now c.feed-r.result _ (omega (arith, c.well_formed)) c.feed-r.ensures c.if-r.true

-- with a last line
pub returns : goal.returns
unfolding opening
returns c =
    let a = c.args in
    calls_end a.part.now a.out.now c.feed-r.result _ (omega (arith, c.well_formed)) c.feed-r.ensures _ _
    c.if-r.false (omega arith) c.finish.ensures

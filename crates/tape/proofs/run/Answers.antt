-- `tape::run` meets its contract. Assumes nothing.
use Rattle.std.proofs.Common.{arith}
use Rattle.tape.proofs.Wholes.{run_fits}
use Rattle.tape.proofs.run.Goals as goal

pub returns-then-n-out : goal.returns-then-n-out
returns-then-n-out c =
    run_fits c.args.tape.now c.args.out.now _ _ c.lines-n.ensures.end (omega arith) (omega (arith, c.well_formed)) c.lines.ensures.text

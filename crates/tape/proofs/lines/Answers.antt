-- `tape::lines` meets its contract. Assumes nothing.
use Rattle.std.proofs.Common.{arith, sym}
use Rattle.std.specs.Cmp.Lexicographic.{same_text, other_text}
use Rattle.tape.proofs.Wholes.{lines_one, lines_bad, version_here, version_not}
use Rattle.tape.proofs.lines.Goals as goal

-- a version byte 1
pub returns-in-Some : goal.returns-in-Some
returns-in-Some c =
    let t = c.args.tape.now in
    let is = c.in-Some.ensures.cases in
    rw (lines_one t (version_here t (same_text _ _ (sym is.0)))) (rw is.1 at c.calls.ensures)

-- another, or none
pub returns-in-None : goal.returns-in-None
returns-in-None c =
    let t = c.args.tape.now in
    lines_bad t c.args.out.now _ _ (version_not t (other_text _ _ (sym c.in-None.ensures.cases))) (omega (arith, c.stop.type_inv)) c.stop.ensures

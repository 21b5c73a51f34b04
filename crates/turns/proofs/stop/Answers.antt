-- `turns::stop` meets its contract: each fault's word is spelled out in the code. Assumes nothing.
use Rattle.text.specs.Text.{width_in, width_of, digits, decimal}
use Rattle.turns.specs.Faults.{stop_line}
use Rattle.turns.proofs.stop.Goals as goal
use Rattle.turns.proofs.stop.Goals.{in-NoVersion, in-CutShort, in-Misfit, in-Unknown}

pub returns : goal.returns
unfolding stop_line decimal digits width_of width_in
returns c =
    elim c.match-fault.branch [
      | in-NoVersion w ↦ rw w.in-NoVersion.is (rw w.word-is at c.last.ensures)
      | in-CutShort w ↦ rw w.in-CutShort.is (rw w.word-is at c.last.ensures)
      | in-Misfit w ↦ rw w.in-Misfit.is (rw w.word-is at c.last.ensures)
      | in-Unknown w ↦ rw w.in-Unknown.is (rw w.word-is at c.last.ensures)
    ]

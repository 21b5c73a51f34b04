-- `tape::finish` meets its contract. Assumes nothing.
use Rattle.tape.proofs.Wholes.{ends, cut_short_lem}
use Rattle.tape.proofs.finish.Goals as goal
use Rattle.tape.proofs.finish.Goals.{then-whole, else-whole}

pub returns : goal.returns
returns c =
    elim c.if-whole.branch [
      | then-whole w ↦ rw (w.if-whole.true, w.out-is) (ends _ _ w.last-len.ensures (rw w.len-is at c.saturating_add.ensures))
      | else-whole w ↦ rw (w.if-whole.false, w.out-is) (cut_short_lem _ _ w.stop-len.ensures (rw w.len-is at c.saturating_add.ensures))
    ]

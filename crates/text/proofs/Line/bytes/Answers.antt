-- `Line::bytes` meets its contract. Assumes nothing.
use Rattle.std.proofs.Common.{refl}
use Rattle.std.proofs.lemmas.List.{take_more}
use Rattle.text.proofs.Laws.{put_as, put_both}
use Rattle.text.proofs.Line.bytes.Goals as goal

pub loop-b-preserved : goal.loop-b-preserved
loop-b-preserved c =
    let so = c.loop-b.invariant in
    (so.0, rw (take_more c.args.s.now c.loop-b.b-index 0 c.loop-b-test.true) (put_both so.1 (put_as refl refl)))

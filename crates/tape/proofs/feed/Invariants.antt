use Rattle.std.proofs.Common.{length}
use Rattle.tape.proofs.Running.{Stands}
use Rattle.tape.proofs.feed.Given as goal

abbrev pub invariant-loop-n : goal.invariant-loop-n
invariant-loop-n l =
    let i = l.initial in
    Stands l.part i.k i.tables i.out l.k l.tables l.rest l.out l.end

abbrev pub decreases-loop-n : goal.decreases-loop-n
decreases-loop-n l = length l.rest

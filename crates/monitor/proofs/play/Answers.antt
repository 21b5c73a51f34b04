-- `monitor::play` meets its contract: whenever the loop's test is reached, the flow is ready for as many turns as are to come. Assumes nothing.
use Rattle.turns.specs.Laws.{stay_long}
use Rattle.monitor.proofs.Pumping.{first_turn}
use Rattle.monitor.proofs.play.Goals as goal

pub loop-init : goal.loop-init
loop-init c = (first_turn c.start-f.ensures, stay_long)

-- `monitor::pump` meets its contract. Assumes nothing.
use Rattle.monitor.proofs.Pumping.{pumped}
use Rattle.monitor.proofs.pump.Goals as goal

pub returns : goal.returns
returns c =
    pumped c.args.f _ _ _ _ c.requires c.step.ensures

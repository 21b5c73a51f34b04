-- `monitor::close` meets its contract. Assumes nothing.
use Rattle.monitor.proofs.Pumping.{ended}
use Rattle.monitor.proofs.close.Goals as goal

pub returns : goal.returns
returns c =
    ended c.args.f c.requires c.finish.ensures

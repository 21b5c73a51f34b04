-- `work::Noting::give` meets its contract. Assumes nothing.
use Rattle.std.proofs.Common.{ap}
use Rattle.work.specs.Entries.{with_lent_seats}
use Rattle.work.proofs.Noting.give.Goals as goal

pub returns : goal.returns
returns c = ap (with_lent_seats c.args.self.now) c.give.ensures

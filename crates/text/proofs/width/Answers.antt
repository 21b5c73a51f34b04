-- `text::width` meets its contract. Assumes nothing.
use Rattle.std.proofs.Common.{arith, rules}
use Rattle.text.proofs.Laws.{width_least}
use Rattle.text.proofs.width.Goals as goal

pub returns : goal.returns
returns c =
    let log = c.ilog10.ensures in
    record {
      is_width = omega (arith, width_least _ _ _ c.max.ensures log.bound log.power_le log.next_power_gt);
      least = search rules;
      most = search rules;
    }

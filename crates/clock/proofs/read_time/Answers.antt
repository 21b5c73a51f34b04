-- `clock::read_time` meets its contract. Assumes nothing.
use Rattle.clock.proofs.Laws.{read_time-fits}
use Rattle.clock.specs.Word.{read_time}
use Rattle.std.proofs.Common.{arith}
use Rattle.clock.proofs.read_time.Goals as goal

pub overflow_add-result : goal.overflow_add-result
unfolding read_time
overflow_add-result c = omega (arith, read_time-fits c.args.w)

pub returns : goal.returns
unfolding read_time
returns c = cc

-- `clock::with_lock` meets its contract. Assumes nothing.
use Rattle.std.proofs.Common.{arith}
use Rattle.clock.proofs.Laws.{distance_small, write_time_small}
use Rattle.clock.specs.Word.{with_lock}
use Rattle.clock.proofs.with_lock.Goals as goal

pub join-requires : goal.join-requires
join-requires c = omega (arith, distance_small c.args.w, write_time_small c.args.w)

pub returns : goal.returns
unfolding with_lock
returns c = cc

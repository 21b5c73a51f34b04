-- `clock::join` meets its contract: the sum of the parts fits. Assumes nothing.
use Rattle.std.proofs.Common.{arith}
use Rattle.clock.specs.Word.{word_of, distance_span, time_span, lock_bit, top}
use Rattle.clock.proofs.Laws.{bit_small}
use Rattle.clock.proofs.join.Goals as goal

pub overflow_mul-result-2 : goal.overflow_mul-result-2
unfolding distance_span
overflow_mul-result-2 c = omega arith

pub overflow_add-result : goal.overflow_add-result
unfolding distance_span
overflow_add-result c = omega (arith, bit_small c.args.locked)

pub overflow_add-result-2 : goal.overflow_add-result-2
unfolding distance_span time_span top
overflow_add-result-2 c = omega (arith, bit_small c.args.locked)

pub returns : goal.returns
unfolding word_of lock_bit distance_span time_span
returns c = omega arith

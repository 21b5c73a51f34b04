-- `clock::extend` meets its contract. Assumes nothing.
use Rattle.std.proofs.Common.{sym, arith}
use Rattle.clock.proofs.Laws.{extended_to_word, extended_to_early, extended_to-late}
use Rattle.clock.specs.Word.{distance_span, time_span, top, extended}
use Rattle.clock.proofs.extend.Goals as goal

pub returns-then-t-written : goal.returns-then-t-written
returns-then-t-written c = sym (extended_to_early _ _ (omega arith))

pub returns-then-t-ge-TIME_SPAN : goal.returns-then-t-ge-TIME_SPAN
unfolding top time_span
returns-then-t-ge-TIME_SPAN c = sym (extended_to-late _ _ (omega arith))

pub join-requires : goal.join-requires
unfolding distance_span top time_span
join-requires c = omega arith

pub returns : goal.returns
unfolding extended distance_span top time_span
returns c =
    cc (extended_to_word c.args.w c.args.t (omega arith) (omega arith))

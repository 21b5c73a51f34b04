-- `clock::pack` meets its contract. Assumes nothing.
use Rattle.std.specs.Prelude.{Ok}
use Rattle.std.proofs.Common.{ap, sym, ◌∙◌, arith}
use Rattle.clock.proofs.Laws.{packed_word, packed_far, packed-late}
use Rattle.clock.specs.Word.{distance_span, time_span, top}
use Rattle.clock.proofs.pack.Goals as goal

pub returns-then-distance-ge-DISTANCE_SPAN : goal.returns-then-distance-ge-DISTANCE_SPAN
unfolding distance_span
returns-then-distance-ge-DISTANCE_SPAN c = sym (packed_far _ _ _ (omega arith))

pub returns-then-written-ge-TIME_SPAN : goal.returns-then-written-ge-TIME_SPAN
unfolding top time_span
returns-then-written-ge-TIME_SPAN c = sym (packed-late _ _ _ (omega arith))

pub join-requires : goal.join-requires
unfolding distance_span top time_span
join-requires c = omega arith

pub returns : goal.returns
unfolding distance_span top time_span
returns c = ap Ok c.join.ensures ∙ sym (packed_word _ _ _ (omega arith) (omega arith))

-- `clock::distance` meets its contract. Assumes nothing.
use Rattle.std.specs.Prelude.{refl}
use Rattle.clock.specs.Word.{distance, distance_span, time_span}
use Rattle.clock.proofs.distance.Goals as goal

pub returns : goal.returns
unfolding distance distance_span time_span
returns c = refl

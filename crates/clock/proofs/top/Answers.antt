-- `clock::top` meets its contract. Assumes nothing.
use Rattle.std.specs.Prelude.{refl}
use Rattle.clock.specs.Word.{top, time_span}
use Rattle.clock.proofs.top.Goals as goal

pub returns : goal.returns
unfolding top time_span
returns c = refl

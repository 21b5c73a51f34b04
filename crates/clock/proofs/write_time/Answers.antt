-- `clock::write_time` meets its contract. Assumes nothing.
use Rattle.std.specs.Prelude.{refl}
use Rattle.clock.specs.Word.{write_time, time_span}
use Rattle.clock.proofs.write_time.Goals as goal

pub returns : goal.returns
unfolding write_time time_span
returns c = refl

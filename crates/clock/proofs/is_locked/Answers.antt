-- `clock::is_locked` meets its contract. Assumes nothing.
use Rattle.std.specs.Prelude.{refl}
use Rattle.clock.specs.Word.{is_locked, lock_bit, distance_span, time_span}
use Rattle.clock.proofs.is_locked.Goals as goal

pub returns : goal.returns
unfolding is_locked lock_bit distance_span time_span
returns c = refl

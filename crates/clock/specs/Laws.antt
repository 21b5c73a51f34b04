-- All that callers may know of a clock word: `Is w lock write read`. The laws are in proofs/Laws; each way of making a word has its `Is` there.
use Rattle.std.specs.Prelude.{ℕ, ◌^◌, ◌<◌, ◌≡◌, Bool}
use Rattle.clock.specs.Word.{is_locked, write_time, read_time}

-- all that is to be known of a word
pub record Is (w : ℕ) (lock : Bool) (write read : ℕ) : Type 0 where
  pub fits : w < 2 ^ 64
  pub is_locked : is_locked w ≡ lock
  pub is_written : write_time w ≡ write
  pub is_read : read_time w ≡ read

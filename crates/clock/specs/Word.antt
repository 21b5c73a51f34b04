-- The clock word, as document 01 has it: bit 63 is the lock, bits 48 to 62 the distance from write time to read time, bits 0 to 47 the write time.
-- The widths stand here alone, in `distance_bits` and `time_bits`. Crates above use the laws of proofs/Laws and unfold nothing.
use Rattle.std.specs.Prelude.{ℕ, ◌+◌, ◌-◌, ◌*◌, ◌/◌, ◌%◌, ◌^◌, Bool, true, false, ◌&&◌, ltb, leb, eqb, Result, Ok, Err}
use Rattle.clock.specs.declared.Unfit.{Unfit}
use Rattle.clock.specs.declared.Unfit.TheVariants.{OutOfRange}
use Rattle.clock.specs.declared.Parts.{Parts}

-- the widths of the two fields; the lock stands above them
unfoldable pub distance_bits : ℕ
distance_bits = 15

unfoldable pub time_bits : ℕ
time_bits = 48

-- the distances are the numbers below this
unfoldable pub distance_span : ℕ
unfolding distance_bits
distance_span = 2 ^ distance_bits

-- the times are the numbers below this
unfoldable pub time_span : ℕ
unfolding time_bits
time_span = 2 ^ time_bits

-- the greatest time, T
unfoldable pub top : ℕ
top = time_span - 1

-- what the lock adds to a word
unfoldable pub lock_bit : ℕ
lock_bit = distance_span * time_span

-- a word read apart
unfoldable pub is_locked : ℕ → Bool
is_locked w = eqb (w / lock_bit) 1

unfoldable pub distance : ℕ → ℕ
distance w = w / time_span % distance_span

unfoldable pub write_time : ℕ → ℕ
write_time w = w % time_span

unfoldable pub read_time : ℕ → ℕ
read_time w = write_time w + distance w

abbrev pub parts_of : ℕ → Parts
parts_of w = record { locked = is_locked w; distance = distance w; written = write_time w; read = read_time w }

-- the word of these parts, where the distance is below reach and the write time not above T
abbrev pub bit : Bool → ℕ
bit true = 1
bit false = 0

unfoldable pub word_of : Bool → ℕ → ℕ → ℕ
word_of locked d t = bit locked * lock_bit + d * time_span + t

-- the same word, locked or not
unfoldable pub with_lock : Bool → ℕ → ℕ
with_lock locked w = word_of locked (distance w) (write_time w)

-- unlocked, with write and read time t
unfoldable pub fresh : ℕ → ℕ
fresh t = word_of false 0 t

-- to a time not below the write time: d is the time less the write time; its low bits become the distance, the rest is added to the write time
unfoldable pub extended : ℕ → ℕ → ℕ
extended w t =
    let d : ℕ = t - write_time w in
    word_of (is_locked w) (d % distance_span) (write_time w + d / distance_span * distance_span)

-- the answers: a word, or refusal 2
abbrev pub number : Unfit → ℕ
number OutOfRange = 2

abbrev pub word_if : Bool → ℕ → Result ℕ Unfit
word_if true w = Ok w
word_if false w = Err OutOfRange

unfoldable pub packed : Bool → ℕ → ℕ → Result ℕ Unfit
packed locked d t = word_if (ltb d distance_span && leb t top) (word_of locked d t)

unfoldable pub fresh_at : ℕ → Result ℕ Unfit
fresh_at t = word_if (leb t top) (fresh t)

unfoldable pub extended_to : ℕ → ℕ → Result ℕ Unfit
extended_to w t = word_if (leb (write_time w) t && leb t top) (extended w t)

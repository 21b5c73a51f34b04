-- Read and Write, in phase 1.
use Rattle.std.specs.Prelude.{ℕ, zero, suc, ◌+◌, ◌-◌, List, Bool, cond, get_or, eqb, ltb, leb}
use Rattle.clock.specs.Word.{is_locked, write_time, read_time}
use Rattle.rules.specs.Tests.{first}
use Rattle.rules.specs.Layout.{reads_at, writes_at, read_item_at, read_value_at, kept_write_at, kept_read_at, write_item_at, write_value_at}
use Rattle.rules.specs.Layout.{most_reads, most_writes, write_width, working, row, put, cell, reads, writes, read_item, read_value, write_item, write_value}
use Rattle.rules.specs.Tables.{Tables, Outcome, with_seats, answered, unless}
use Rattle.rules.specs.Refusals.{record_refusal}
use Rattle.rules.specs.declared.Answer.TheVariants.{Value, Noted, Refused}

-- whether an entry names the record
unfoldable pub read_names : List ℕ → ℕ → ℕ → Bool
read_names g item i = eqb (read_item g i) item

unfoldable pub write_names : List ℕ → ℕ → ℕ → Bool
write_names g item i = eqb (write_item g i) item

-- the first entry in use that names the record; the number of entries where none does
unfoldable pub read_of : List ℕ → ℕ → ℕ
read_of g item = first (read_names g item) (reads g)

unfoldable pub write_of : List ℕ → ℕ → ℕ
write_of g item = first (write_names g item) (writes g)

-- the row with a new read entry: the record, its value and both times of its word
unfoldable pub read_noted : List ℕ → ℕ → ℕ → ℕ → ℕ → List ℕ
read_noted seats s item value word =
    let n : ℕ = reads (row seats s) in
    let named : List ℕ = put (put seats s (read_item_at n) item) s (read_value_at n) value in
    let timed : List ℕ = put (put named s (kept_write_at n) (write_time word)) s (kept_read_at n) (read_time word) in
    put timed s reads_at (n + 1)

-- READ of a record that the row does not name yet: 8, 10, or a new entry
unfoldable pub first_read : Tables → ℕ → ℕ → Outcome
first_read t s item =
    let value : ℕ = get_or t.values item 0 in
    let word : ℕ = get_or t.words item 0 in
    cond (leb most_reads (reads (row t.seats s))) (answered (Refused 8) t)
    (cond (is_locked word) (answered (Refused 10) t)
    (answered (Value value) (with_seats t (read_noted t.seats s item value word))))

-- the write entry's value, else the value kept in the read entry, else a first read
unfoldable pub read_in : Tables → ℕ → ℕ → Outcome
read_in t s item =
    let g : List ℕ = row t.seats s in
    cond (ltb (write_of g item) (writes g)) (answered (Value (write_value g (write_of g item))) t)
    (cond (ltb (read_of g item) (reads g)) (answered (Value (read_value g (read_of g item))) t)
    (first_read t s item))

unfoldable pub read : Tables → ℕ → ℕ → ℕ → Outcome
read t o s item = unless (record_refusal t o s item working) t (read_in t s item)

-- whether a write entry has a greater record number
unfoldable pub above : List ℕ → ℕ → ℕ → Bool
above g item i = ltb item (write_item g i)

-- where a new write entry is placed: before the first one with a greater record number, or last
unfoldable pub place_of : List ℕ → ℕ → ℕ
place_of g item = first (above g item) (writes g)

-- the last k of the row's numbers below place e, each moved up by w places, the last first
unfoldable pub slid : List ℕ → ℕ → ℕ → ℕ → ℕ → List ℕ
slid seats s e w zero = seats
slid seats s e w (suc k) = put (slid seats s e w k) s (e - suc k + w) (cell seats s (e - suc k))

-- the row with a new write entry at place i: the entries from there on move up by one entry
unfoldable pub placed : List ℕ → ℕ → ℕ → ℕ → ℕ → List ℕ
placed seats s i item value =
    let n : ℕ = writes (row seats s) in
    let made : List ℕ = slid seats s (write_item_at n) write_width (write_item_at n - write_item_at i) in
    put (put (put made s (write_item_at i) item) s (write_value_at i) value) s writes_at (n + 1)

-- an entry for the record takes the new value, else 9, else a new entry; the answer names the record
unfoldable pub write_in : Tables → ℕ → ℕ → ℕ → Outcome
write_in t s item value =
    let g : List ℕ = row t.seats s in
    cond (ltb (write_of g item) (writes g))
    (answered (Noted item) (with_seats t (put t.seats s (write_value_at (write_of g item)) value)))
    (cond (leb most_writes (writes g)) (answered (Refused 9) t)
    (answered (Noted item) (with_seats t (placed t.seats s (place_of g item) item value))))

-- WRITE
unfoldable pub write : Tables → ℕ → ℕ → ℕ → ℕ → Outcome
write t o s item value = unless (record_refusal t o s item working) t (write_in t s item value)

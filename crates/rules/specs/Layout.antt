-- 'What the monitor keeps': the sizes, and the seat table's layout. Each number of the document stands here once.
use Rattle.std.specs.Prelude.{ℕ, ◌+◌, ◌*◌, List, get_or, set, take, drop}

-- the sizes
abbrev pub most_records : ℕ
most_records = 1024

abbrev pub owners : ℕ
owners = 16

abbrev pub seat_count : ℕ
seat_count = 64

abbrev pub most_reads : ℕ
most_reads = 16

abbrev pub most_writes : ℕ
most_writes = 8

-- the seat table: sixteen shares, sixteen limits, then the rows
abbrev pub share_at : ℕ → ℕ
share_at o = o

abbrev pub limit_at : ℕ → ℕ
limit_at o = owners + o

abbrev pub plan_width : ℕ
plan_width = owners + owners

-- the phases of a row
abbrev pub free : ℕ
free = 0

abbrev pub working : ℕ
working = 1

abbrev pub locking : ℕ
locking = 2

abbrev pub checking : ℕ
checking = 3

abbrev pub storing : ℕ
storing = 4

-- a row, `g` wherever one is named. Its head: phase, owner, position, reads, writes, time
abbrev pub phase_at : ℕ
phase_at = 0

abbrev pub owner_at : ℕ
owner_at = 1

abbrev pub position_at : ℕ
position_at = 2

abbrev pub reads_at : ℕ
reads_at = 3

abbrev pub writes_at : ℕ
writes_at = 4

abbrev pub time_at : ℕ
time_at = 5

-- then the read entries: record, value, and the times that are kept, write time and read time
-- (a record's number is `item` in definitions and code: `record` is a word of the language)
abbrev pub reads_from : ℕ
reads_from = 6

abbrev pub read_width : ℕ
read_width = 4

abbrev pub read_item_at : ℕ → ℕ
read_item_at i = reads_from + read_width * i

abbrev pub read_value_at : ℕ → ℕ
read_value_at i = reads_from + 1 + read_width * i

abbrev pub kept_write_at : ℕ → ℕ
kept_write_at i = reads_from + 2 + read_width * i

abbrev pub kept_read_at : ℕ → ℕ
kept_read_at i = reads_from + 3 + read_width * i

-- then the write entries: record, value
abbrev pub writes_from : ℕ
writes_from = reads_from + read_width * most_reads

abbrev pub write_width : ℕ
write_width = 2

abbrev pub write_item_at : ℕ → ℕ
write_item_at i = writes_from + write_width * i

abbrev pub write_value_at : ℕ → ℕ
write_value_at i = writes_from + 1 + write_width * i

abbrev pub row_width : ℕ
row_width = writes_from + write_width * most_writes

-- where a row begins, and the table's length
abbrev pub row_at : ℕ → ℕ
row_at s = plan_width + row_width * s

abbrev pub seats_length : ℕ
seats_length = plan_width + row_width * seat_count

-- the row of a seat, a number of it, and the table with another number there
unfoldable pub row : List ℕ → ℕ → List ℕ
row seats s = take row_width (drop (row_at s) seats)

abbrev pub cell : List ℕ → ℕ → ℕ → ℕ
cell seats s f = get_or (row seats s) f 0

unfoldable pub put : List ℕ → ℕ → ℕ → ℕ → List ℕ
put seats s f v = set seats (row_at s + f) v

-- the numbers of a row by their names
abbrev pub phase : List ℕ → ℕ
phase g = get_or g phase_at 0

abbrev pub owner : List ℕ → ℕ
owner g = get_or g owner_at 0

abbrev pub position : List ℕ → ℕ
position g = get_or g position_at 0

abbrev pub reads : List ℕ → ℕ
reads g = get_or g reads_at 0

abbrev pub writes : List ℕ → ℕ
writes g = get_or g writes_at 0

abbrev pub time : List ℕ → ℕ
time g = get_or g time_at 0

abbrev pub read_item : List ℕ → ℕ → ℕ
read_item g i = get_or g (read_item_at i) 0

abbrev pub read_value : List ℕ → ℕ → ℕ
read_value g i = get_or g (read_value_at i) 0

abbrev pub kept_write : List ℕ → ℕ → ℕ
kept_write g i = get_or g (kept_write_at i) 0

abbrev pub kept_read : List ℕ → ℕ → ℕ
kept_read g i = get_or g (kept_read_at i) 0

abbrev pub write_item : List ℕ → ℕ → ℕ
write_item g i = get_or g (write_item_at i) 0

abbrev pub write_value : List ℕ → ℕ → ℕ
write_value g i = get_or g (write_value_at i) 0

-- the plan's numbers, in a seat table or in Setup's list of sixteen shares and sixteen limits
abbrev pub share : List ℕ → ℕ → ℕ
share plan o = get_or plan (share_at o) 0

abbrev pub limit : List ℕ → ℕ → ℕ
limit plan o = get_or plan (limit_at o) 0

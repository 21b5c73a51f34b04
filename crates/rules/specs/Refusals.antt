-- 'What a caller is told, and in which order': refusals 1 to 5 of a call that names a seat. Open's and Setup's are in Plan.
use Rattle.std.specs.Prelude.{ℕ, List, [], ◌∷◌, Bool, false, cond, not, ◌||◌, ◌&&◌, length, eqb, ltb, leb}
use Rattle.clock.specs.Word.{top}
use Rattle.rules.specs.Tests.{any, one_of, first_of}
use Rattle.rules.specs.Layout.{most_records, owners, seat_count, most_reads, most_writes, seats_length, free, working, locking, checking, storing}
use Rattle.rules.specs.Layout.{row, phase, owner, position, reads, writes, time, read_item, kept_write, write_item}
use Rattle.rules.specs.Tables.{Tables}

-- 1: values and words differ in length, or hold 0 or more than 1024, or the seat table is not 5536 long; the three lengths
unfoldable pub unsized : ℕ → ℕ → ℕ → Bool
unsized values words seats =
    one_of (not (eqb values words) ∷ eqb words 0 ∷ ltb most_records words ∷ not (eqb seats seats_length) ∷ [])

-- 2: owner, seat or record out of range. `unknown`: the call names a record, and that is out of range
unfoldable pub misnamed : ℕ → ℕ → Bool → Bool
misnamed o s unknown = one_of (leb owners o ∷ leb seat_count s ∷ unknown ∷ [])

-- 3: 'Damaged', for a call that names a seat
-- a position that the phase does not have: not 0 in phase 1, not from 1 to writes in phase 2, above reads in phase 3, above writes in phase 4
unfoldable pub misplaced : ℕ → ℕ → ℕ → ℕ → Bool
misplaced ph p r w =
    cond (eqb ph working) (not (eqb p 0))
    (cond (eqb ph locking) (eqb p 0 || ltb w p)
    (cond (eqb ph checking) (ltb r p) (ltb w p)))

-- in phases 3 and 4 a time above T
unfoldable pub late : ℕ → ℕ → Bool
late ph t = leb checking ph && ltb top t

-- a read entry with a record out of range, or, in phases 3 and 4, a write time above the time
unfoldable pub bad_read : List ℕ → ℕ → ℕ → Bool
bad_read g records i = one_of (leb records (read_item g i) ∷ (leb checking (phase g) && ltb (time g) (kept_write g i)) ∷ [])

-- a write entry with a record out of range
unfoldable pub bad_write : List ℕ → ℕ → ℕ → Bool
bad_write g records i = leb records (write_item g i)

-- by the row's head, and by its entries in use
unfoldable pub bad_head : List ℕ → Bool
bad_head g =
    one_of (ltb storing (phase g)
    ∷ leb owners (owner g)
    ∷ ltb most_reads (reads g)
    ∷ ltb most_writes (writes g)
    ∷ misplaced (phase g) (position g) (reads g) (writes g)
    ∷ late (phase g) (time g)
    ∷ [])

unfoldable pub bad_entry : List ℕ → ℕ → Bool
bad_entry g records = one_of (any (bad_read g records) (reads g) ∷ any (bad_write g records) (writes g) ∷ [])

unfoldable pub damaged : List ℕ → ℕ → Bool
damaged g records = cond (eqb (phase g) free) false (one_of (bad_head g ∷ bad_entry g records ∷ []))

-- 4: the seat is free or another owner's
unfoldable pub foreign : List ℕ → ℕ → Bool
foreign g o = one_of (eqb (phase g) free ∷ not (eqb (owner g) o) ∷ [])

-- 3 to 5, by the row. 5: it is past `last`, the last phase that the call is for
unfoldable pub row_refusal : List ℕ → ℕ → ℕ → ℕ → ℕ
row_refusal g records o last = first_of 3 (damaged g records ∷ foreign g o ∷ ltb last (phase g) ∷ [])

-- what a call that names a seat is refused for, lowest number first; 0 where it is not
unfoldable pub refusal : Tables → ℕ → ℕ → Bool → ℕ → ℕ
refusal t o s unknown last =
    cond (unsized (length t.values) (length t.words) (length t.seats)) 1
    (cond (misnamed o s unknown) 2
    (row_refusal (row t.seats s) (length t.words) o last))

-- of a call that names a seat alone, and of one that names a record too
abbrev pub seat_refusal : Tables → ℕ → ℕ → ℕ → ℕ
seat_refusal t o s last = refusal t o s false last

abbrev pub record_refusal : Tables → ℕ → ℕ → ℕ → ℕ → ℕ
record_refusal t o s item last = refusal t o s (leb (length t.words) item) last

-- Statements. What the tables hold at all times from Setup on, each fact by its name.
use Rattle.std.specs.Prelude.{ℕ, ◌<◌, ◌≤◌, ◌≡◌, ◌≢◌, ◌↔◌, true, false, cond, List, map, length, get_or, eqb, leb}
use Rattle.clock.specs.Word.{top, is_locked, write_time, read_time}
use Rattle.rules.specs.Layout.{seat_count, row_width, writes_from, read_item_at, write_item_at, row, cell, phase, position, reads, writes, time, free, storing}
use Rattle.rules.specs.Layout.{checking}
use Rattle.rules.specs.Layout.{locking}
use Rattle.rules.specs.Layout.{read_item, kept_write, kept_read, write_item}
use Rattle.rules.specs.Tables.{Tables}
use Rattle.rules.specs.Refusals.{damaged}
use Rattle.rows.specs.Fine.{Sized}
use Rattle.observer.specs.Observer.{FirstRead}
use Rattle.reach.specs.Reached.{Reached, seen}
use Rattle.reach.specs.Counts.{read_count}

-- LOCKS. A row holds the locks of its write entries from `lock_from` below `lock_to`:
-- in phases 1 and 2 of the first `position`, in phase 3 of all, in phase 4 of those from position on
unfoldable pub lock_from : List ℕ → ℕ
lock_from g = cond (eqb (phase g) storing) (position g) 0

unfoldable pub lock_to : List ℕ → ℕ
lock_to g = cond (leb checking (phase g)) (writes g) (position g)

-- entry i is among those from lo below hi, and names the record; items gives each entry's record
pub record Names (items : ℕ → ℕ) (lo hi item i : ℕ) : Type 0 where
  pub from : lo ≤ i
  pub below : i < hi
  pub named : items i ≡ item

abbrev pub row_of : Tables → ℕ → List ℕ
row_of t s = row t.seats s

-- seat s holds the record
pub record Holds (t : Tables) (s item : ℕ) : Type 0 where
  pub seat_in : s < seat_count
  pub entry : ℕ
  pub names : Names (write_item (row_of t s)) (lock_from (row_of t s)) (lock_to (row_of t s)) item entry

-- a record is locked exactly where a seat holds it
abbrev pub LockedIsHeld : Tables → Type 0
LockedIsHeld t = (item : ℕ) → item < length t.words → (is_locked (get_or t.words item 0) ≡ true) ↔ ((s : ℕ) × Holds t s item)

-- no two seats hold one record
abbrev pub OneHolder : Tables → Type 0
OneHolder t = (item j s : ℕ) → item < length t.words → Holds t j item → Holds t s item → j ≡ s

-- THE TABLES have the right lengths, and no row is damaged
abbrev pub AlwaysSized : Tables → Type 0
AlwaysSized t = Sized t

abbrev pub NeverDamaged : Tables → Type 0
NeverDamaged t = (s : ℕ) → s < seat_count → damaged (row_of t s) (length t.words) ≡ false

-- the record of a first read
abbrev pub first_item : FirstRead → ℕ
first_item e = e.item

-- ENTRIES. Write entries stand in strictly ascending record number, read entries name distinct records, and all of them name records
module _ (t : Tables) where
  abbrev pub InUse : ℕ → Type 0
  InUse s = (s < seat_count) × (phase (row_of t s) ≢ free)

  abbrev pub WritesAscend : Type 0
  WritesAscend = (s i j : ℕ) → InUse s → i < j → j < writes (row_of t s) → write_item (row_of t s) i < write_item (row_of t s) j

  abbrev pub ReadsDistinct : Type 0
  ReadsDistinct = (s i j : ℕ) → InUse s → i < j → j < reads (row_of t s) → read_item (row_of t s) i ≢ read_item (row_of t s) j

  -- read entries stand in order of first read, as calls and answers tell it: there are as many as records first read, and each names the one at its place
  abbrev pub ReadsInOrder : Reached t → Type 0
  ReadsInOrder z = (s : ℕ) → s < seat_count →
      (reads (row_of t s) ≡ read_count ((seen z).seats s))
      × ((i : ℕ) → i < reads (row_of t s) → read_item (row_of t s) i ≡ get_or (map first_item ((seen z).seats s).reads) i 0)

  abbrev pub ReadsInRange : Type 0
  ReadsInRange = (s i : ℕ) → InUse s → i < reads (row_of t s) → read_item (row_of t s) i < length t.words

  abbrev pub WritesInRange : Type 0
  WritesInRange = (s i : ℕ) → InUse s → i < writes (row_of t s) → write_item (row_of t s) i < length t.words

  -- ZEROS. Unused places of an open row are zero: past the read entries, past the write entries, and the time before phase 3. A free row is zero throughout
  abbrev pub UnusedReadsZero : Type 0
  UnusedReadsZero = (s f : ℕ) → InUse s → read_item_at (reads (row_of t s)) ≤ f → f < writes_from → cell t.seats s f ≡ 0

  abbrev pub UnusedWritesZero : Type 0
  UnusedWritesZero = (s f : ℕ) → InUse s → write_item_at (writes (row_of t s)) ≤ f → f < row_width → cell t.seats s f ≡ 0

  abbrev pub UntimedZero : Type 0
  UntimedZero = (s : ℕ) → InUse s → phase (row_of t s) ≤ locking → time (row_of t s) ≡ 0

  abbrev pub FreeRowsZero : Type 0
  FreeRowsZero = (s f : ℕ) → s < seat_count → phase (row_of t s) ≡ free → f < row_width → cell t.seats s f ≡ 0

  -- TIMES. No time is above T
  abbrev pub WordsTimely : Type 0
  WordsTimely = (item : ℕ) → item < length t.words → (write_time (get_or t.words item 0) ≤ top) × (read_time (get_or t.words item 0) ≤ top)

  abbrev pub KeptTimely : Type 0
  KeptTimely = (s i : ℕ) → InUse s → i < reads (row_of t s) → (kept_write (row_of t s) i ≤ top) × (kept_read (row_of t s) i ≤ top)

  abbrev pub CommitTimely : Type 0
  CommitTimely = (s : ℕ) → InUse s → time (row_of t s) ≤ top

  -- a kept write time is not above the kept read time, nor, once there is one, above the commit time
  abbrev pub KeptOrdered : Type 0
  KeptOrdered = (s i : ℕ) → InUse s → i < reads (row_of t s) → kept_write (row_of t s) i ≤ kept_read (row_of t s) i

  abbrev pub CommitNotBelow : Type 0
  CommitNotBelow = (s i : ℕ) → InUse s → checking ≤ phase (row_of t s) → i < reads (row_of t s) → kept_write (row_of t s) i ≤ time (row_of t s)

-- What holds of the tables from Setup on, as one record: the invariant that each call keeps.
use Prim.Native.Nat.{ℕ, ◌<◌, ◌≤◌, ◌+◌}
use mathlib.Core.Path.{◌≡◌}
use mathlib.Core.Logic.{◌≢◌}
use mathlib.Core.Bool.{Bool, false, cond, ◌&&◌}
use mathlib.Core.List.{List}
use lib.ListN.{length, get_or}
use lib.Dec.{eqb, leb}
use Rattle.clock.specs.Word.{top, is_locked, read_time}
use Rattle.rules.specs.Tests.{any, count}
use Rattle.rules.specs.Layout.{owners, seat_count, most_reads, most_writes, row_width, writes_from, read_item_at, write_item_at, row, phase, owner}
use Rattle.rules.specs.Layout.{position, reads, writes, time, read_item, kept_write, kept_read, write_item, limit}
use Rattle.rules.specs.Tables.{Tables}
use Rattle.rules.specs.Plan.{bad_plan, held, claims}
use Rattle.rows.specs.Fine.{Sized}
use Rattle.reach.specs.Invariants.{lock_from, lock_to}
use Rattle.reach.proofs.Count.{one}

abbrev pub Zero : List ℕ → Type 0
Zero g = (f : ℕ) → f < row_width → get_or g f 0 ≡ 0

-- phase, owner, position and time of a row in use
pub record HeadInOrder (g : List ℕ) : Type 0 where
  pub used : 1 ≤ phase g
  pub phase_in : phase g ≤ 4
  pub owner_in : owner g < owners
  pub working : phase g ≡ 1 → position g ≡ 0
  pub locking : phase g ≡ 2 → (1 ≤ position g) × (position g ≤ writes g)
  pub checking : phase g ≡ 3 → position g ≤ reads g
  pub storing : phase g ≡ 4 → position g ≤ writes g
  pub untimed : phase g ≤ 2 → time g ≡ 0
  pub timely : time g ≤ top

-- its read and write entries, over n records
pub record Entries (n : ℕ) (g : List ℕ) : Type 0 where
  pub reads_in : reads g ≤ most_reads
  pub writes_in : writes g ≤ most_writes
  pub read_in_lem : (i : ℕ) → i < reads g → read_item g i < n
  pub write_in_lem : (i : ℕ) → i < writes g → write_item g i < n
  pub distinct : (i j : ℕ) → i < j → j < reads g → read_item g i ≢ read_item g j
  pub ascending : (i j : ℕ) → i < j → j < writes g → write_item g i < write_item g j
  pub ordered : (i : ℕ) → i < reads g → kept_write g i ≤ kept_read g i
  pub kept_timely : (i : ℕ) → i < reads g → kept_read g i ≤ top
  pub no_read : (f : ℕ) → read_item_at (reads g) ≤ f → f < writes_from → get_or g f 0 ≡ 0
  pub no_write : (f : ℕ) → write_item_at (writes g) ≤ f → f < row_width → get_or g f 0 ≡ 0

pub record Used (n : ℕ) (g : List ℕ) : Type 0 where
  pub head : HeadInOrder g
  pub entries : Entries n g
  pub not_below : 3 ≤ phase g → (i : ℕ) → i < reads g → kept_write g i ≤ time g

pub record Row (n : ℕ) (g : List ℕ) : Type 0 where
  pub free : phase g ≡ 0 → Zero g
  pub in_use : phase g ≢ 0 → Used n g

-- whether one of the entries from lo below hi names the record
unfoldable pub named : (ℕ → ℕ) → ℕ → ℕ → ℕ → Bool
named items lo hi item = any (λ i. leb lo i && eqb (items i) item) hi

-- whether a row holds the record's lock
unfoldable pub locks : List ℕ → ℕ → Bool
locks g item = named (write_item g) (lock_from g) (lock_to g) item

-- how many Advances a row has had, by its phase
unfoldable pub steps_taken : List ℕ → ℕ
steps_taken g =
    cond (leb (phase g) 2) (position g)
    (cond (eqb (phase g) 3) (writes g + 1 + position g) (writes g + reads g + 2 + position g))

-- the plan, and the seats held under it
pub record WithinPlan (seats : List ℕ) : Type 0 where
  pub plan : bad_plan seats ≡ false
  pub limits : (o : ℕ) → o < owners → held seats o ≤ limit seats o
  pub claims_fit : claims seats ≤ seat_count

abbrev pub lock_count : List ℕ → ℕ → ℕ
lock_count words item = one (is_locked (get_or words item 0))

-- how many seats hold a record
abbrev pub holders : List ℕ → ℕ → ℕ
holders seats item = count (λ s. locks (row seats s) item) seat_count

pub record InOrder (t : Tables) : Type 0 where
  pub sized : Sized t
  pub rows : (s : ℕ) → s < seat_count → Row (length t.words) (row t.seats s)
  pub within : WithinPlan t.seats
  -- one seat holds a locked record, and none an unlocked one
  pub held_once : (item : ℕ) → item < length t.words → holders t.seats item ≡ lock_count t.words item
  pub timely : (item : ℕ) → item < length t.words → read_time (get_or t.words item 0) ≤ top

-- What each step of a commit asks of its seat's row: the phase that it is for, and an entry at position, or none; and what it then comes to.
use Rattle.std.specs.Prelude.{ℕ, ◌<◌, ◌≤◌, ◌≡◌, List, length}
use Rattle.rules.specs.Layout.{locking, checking, storing, row}
use Rattle.rules.specs.Lent.{Lent, lent, left, lent_locks, left_locks}
use Rattle.rules.specs.Tables.{Tables, Outcome}
use Rattle.rules.specs.declared.Answer.{Answer}
use Rattle.seats.specs.Entries.{IsRead}
use Rattle.seats.specs.Ready.{InUse}
use Rattle.seats.specs.declared.ReadEntry.{ReadEntry}
use Rattle.commit.specs.declared.Step.{Step}

module _ (s : Step) where
  -- its seat's row
  abbrev pub row_in : List ℕ
  row_in = row s.seats.now s.seat

  -- the row is in use and not damaged, and begins with the step's head
  abbrev pub HasHead : Type 0
  HasHead = InUse row_in (length s.words.now) s.head

  -- it may hold locks: phases 1 to 3
  pub record Holding : Type 0 where
    pub in_use : HasHead
    pub phase_in : s.head.phase ≤ checking

  pub record Locking : Type 0 where
    pub in_use : HasHead
    pub phase_in : s.head.phase ≤ locking

  pub record LocksNext : Type 0 where
    pub in_use : HasHead
    pub phase_in : s.head.phase ≤ locking
    pub below : s.head.position < s.head.writes

  pub record Checking : Type 0 where
    pub in_use : HasHead
    pub phase_is : s.head.phase ≡ checking

  pub record ChecksNext : Type 0 where
    pub in_use : HasHead
    pub phase_is : s.head.phase ≡ checking
    pub below : s.head.position < s.head.reads

  -- the read entry at position is to be checked by its word
  pub record ChecksWord (e : ReadEntry) : Type 0 where
    pub in_use : HasHead
    pub phase_is : s.head.phase ≡ checking
    pub below : s.head.position < s.head.reads
    pub entry_is : IsRead row_in s.head.position e
    pub uncovered : e.kept_read < s.head.time

  pub record Storing : Type 0 where
    pub in_use : HasHead
    pub phase_is : s.head.phase ≡ storing

  pub record StoresNext : Type 0 where
    pub in_use : HasHead
    pub phase_is : s.head.phase ≡ storing
    pub below : s.head.position < s.head.writes

  -- the step with another content of its words, or of its seats
  abbrev pub with_lent_words : List ℕ → Step
  with_lent_words words = record s { words = record s.words { now = words } }

  abbrev pub with_lent_seats : List ℕ → Step
  with_lent_seats seats = record s { seats = record s.seats { now = seats } }

  -- a step after it has the tables that it was lent
  abbrev pub SameTables : Step → Type 0
  SameTables s' = (s'.words.ghost_name ≡ s.words.ghost_name) × (s'.seats.ghost_name ≡ s.seats.ghost_name)

-- what a step answers and leaves is what a rule says: t has the values, which the step does not see
pub record Takes (rule : Tables → ℕ → Outcome) (s : Step) (r : Answer) (s' : Step) : Type 0 where
  pub same_tables : SameTables s s'
  pub outcome : (t : Tables) → left_locks t r s'.words.now s'.seats.now ≡ rule (lent_locks t s.words.now s.seats.now) s.seat

-- the same of a step that is lent the values too
pub record TakesAll (rule : Tables → ℕ → Outcome) (values : Lent) (s : Step) (r : Answer) (values' : Lent) (s' : Step) : Type 0 where
  pub same_tables : SameTables s s'
  pub outcome : left r values' s'.words.now s'.seats.now ≡ rule (lent values s.words.now s.seats.now) s.seat

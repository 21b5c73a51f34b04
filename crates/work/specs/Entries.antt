-- What a step asks of its seat's row: the numbers of its entries, and room for one more; and what it then comes to.
use Rattle.std.specs.Prelude.{ℕ, ◌+◌, ◌<◌, ◌≤◌, ◌≡◌, cond, ltb, List, Option, Some, None}
use Rattle.rules.specs.Layout.{most_reads, most_writes, write_width, row_width, row, reads, writes, read_value, write_value}
use Rattle.rules.specs.Lent.{lent_seats, left_seats}
use Rattle.rules.specs.Tables.{Tables, Outcome}
use Rattle.rules.specs.Work.{read_of, write_of}
use Rattle.rules.specs.declared.Answer.{Answer}
use Rattle.work.specs.declared.Noting.{Noting}

module _ (s : Noting) where
  -- its seat's row
  abbrev pub row_in : List ℕ
  row_in = row s.seats.now s.seat

  -- its head has the numbers of the row's entries
  pub record Counted : Type 0 where
    pub reads_is : s.head.reads ≡ reads row_in
    pub few_reads : s.head.reads ≤ most_reads
    pub writes_is : s.head.writes ≡ writes row_in
    pub few_writes : s.head.writes ≤ most_writes

  -- a new read entry follows those that the row has
  pub record ReadsNext : Type 0 where
    pub count_is : s.head.reads ≡ reads row_in
    pub room : s.head.reads < most_reads

  -- a new write entry is placed among them, or after them
  pub record WritesNext (i : ℕ) : Type 0 where
    pub count_is : s.head.writes ≡ writes row_in
    pub room : s.head.writes < most_writes
    pub place_in : i ≤ s.head.writes

  -- the same with another content of its seats
  abbrev pub with_lent_seats : List ℕ → Noting
  with_lent_seats seats = record s { seats = record s.seats { now = seats } }

-- the row's numbers from place `from` to place `to` can move up by one write entry
pub record RoomAbove (from to : ℕ) : Type 0 where
  pub upward : from ≤ to
  pub room : to + write_width ≤ row_width

-- what the row has noted of a record: the value of its write entry, else of its read entry
unfoldable pub noted : List ℕ → ℕ → Option ℕ
noted g item =
    cond (ltb (write_of g item) (writes g)) (Some (write_value g (write_of g item)))
    (cond (ltb (read_of g item) (reads g)) (Some (read_value g (read_of g item))) None)

-- a step that only stores: its seats have what f makes of their content, and nothing else has changed
abbrev pub Stores : (List ℕ → ℕ → List ℕ) → Noting → Noting → Type 0
Stores f s s' = s' ≡ with_lent_seats s (f s.seats.now s.seat)

-- what a step answers and leaves is what a rule says, and it leaves it in the seats that it was lent: t has the tables that it is not lent
pub record Notes (rule : Tables → ℕ → Outcome) (t : Tables) (s : Noting) (r : Answer) (s' : Noting) : Type 0 where
  pub same_seats : s'.seats.ghost_name ≡ s.seats.ghost_name
  pub outcome : left_seats t r s'.seats.now ≡ rule (lent_seats t s.seats.now) s.seat

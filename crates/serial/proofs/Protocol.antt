-- The protocol, apart from tables and words: records' versions, seats, and what holds of them between two steps.
-- A version's number (`wrote`) is apart from its range in the serial order (`from` to `up_to`), and a transaction's place in that order (`key`)
-- is apart from the time that its stores put into words (`time`).
use Prim.Native.Nat.{ℕ, ◌≤◌, ◌<◌}
use mathlib.Core.Path.{◌≡◌, refl}
use mathlib.Core.Logic.{◌⊎◌}
use mathlib.Core.Option.{Option, none, some}
use mathlib.Core.List.{List, Memᴰ as In}
use native.Mathlib.Omega.{arith}
use Rattle.observer.specs.Observer.{FirstRead, WriteEntry, Transaction}
use Rattle.serial.specs.Statement.{Values, applied, Right}
use Rattle.serial.specs.Order.{Sorted}
use Rattle.serial.proofs.Timeline.{Named, Distinct, run_to}

-- an option is none or some, and of one thing
pub none-some : {A : Type 0} (o : Option A) (a : A) → o ≡ none → o ≡ some a → ⊥
none-some o a p q = let z : ◌≡◌ {A = ℕ} 0 1 = cc in omega arith

pub some_same : {A : Type 0} (o : Option A) (a b : A) → o ≡ some a → o ≡ some b → a ≡ b
some_same o a b p q = cc

-- THE STATE
-- a transaction's place in the serial order, and the time that its stores put into words
pub record Stamp : Type 0 where
  pub key : ℕ
  pub time : ℕ

-- a store that is sealed and still to come
pub record Due : Type 0 where
  pub stamp : Stamp
  pub entry : WriteEntry

-- a record, as the protocol has it
pub record Version : Type 0 where
  pub value : ℕ
  -- the word's write time, by which versions are told apart
  pub wrote : ℕ
  -- its range in the serial order: from the key of the store that made it, to a key up to which no writer is to come
  pub from : ℕ
  pub up_to : ℕ
  -- the seat that holds its lock
  pub holder : Option ℕ
  pub due : Option Due

-- a read entry: what its reader was told, and the kept times
pub record ReadEntry : Type 0 where
  pub told : FirstRead
  pub kept_write : ℕ
  pub kept_read : ℕ

pub data Seat : Type 0 where
  free : Seat
  -- the reads, and the write entries that are locked
  working : List ReadEntry → List WriteEntry → Seat
  -- the stamp, the reads that passed, the reads to check, the write entries
  checking : Stamp → List ReadEntry → List ReadEntry → List WriteEntry → Seat
  -- the stamp, and the stores left
  storing : Stamp → List WriteEntry → Seat

pub record State : Type 0 where
  -- the sealed transactions in their serial order
  pub order : List Transaction
  pub version : ℕ → Version
  pub seat : ℕ → Seat

-- the key and the value of a store to come, or else what is given
abbrev pub key_or : Option Due → ℕ → ℕ
key_or none u = u
key_or (some d) u = d.stamp.key

abbrev pub stored_or : Option Due → ℕ → ℕ
stored_or none v = v
stored_or (some d) v = applied d.entry v

-- no writer to come has a key up to this
abbrev pub closed : Version → ℕ
closed x = key_or x.due x.up_to

-- a seat has a store of the record left; a seat holds its lock
abbrev pub StoreLeft : Seat → ℕ → Type 0
StoreLeft free item = ⊥
StoreLeft (working rs ws) item = ⊥
StoreLeft (checking t ok rs ws) item = ⊥
StoreLeft (storing t ws) item = Named item ws

abbrev pub Holds : Seat → ℕ → Type 0
Holds free item = ⊥
Holds (working rs ws) item = Named item ws
Holds (checking t ok rs ws) item = Named item ws
Holds (storing t ws) item = Named item ws

-- THE KEY IS THE TIME: of the seats that have a stamp, and of the sealed transactions. Nothing else in the protocol says so
abbrev pub KeyIsTime : Seat → Type 0
KeyIsTime free = Unit {0}
KeyIsTime (working rs ws) = Unit {0}
KeyIsTime (checking t ok rs ws) = t.key ≡ t.time
KeyIsTime (storing t ws) = t.key ≡ t.time

pub record ByTime (S : List Transaction) (seat_of : ℕ → Seat) : Type 0 where
  pub seats : (s : ℕ) → KeyIsTime (seat_of s)
  pub sealed : (T : Transaction) → In T S → T.key ≡ T.time

-- a read entry that may pass at a stamp
pub record Fits (x : Version) (t : Stamp) (e : ReadEntry) : Type 0 where
  pub current : x.wrote ≡ e.kept_write → x.from ≤ t.key
  pub not_early : e.kept_write ≤ t.key

-- a version that may be stored over at a stamp
pub record Below (x : Version) (t : Stamp) : Type 0 where
  pub key : x.up_to < t.key
  pub time : x.wrote < t.time

module _ (opening : Values) where
  -- a record's value in the serial run, after those with keys up to u
  abbrev pub val : List Transaction → ℕ → ℕ → ℕ
  val S item u = run_to u S item (opening item)

  -- WHAT HOLDS of a version: of its numbers, of the run's values, and of those who touched it
  pub record VersionOk (S : List Transaction) (item : ℕ) (x : Version) : Type 0 where
    pub range : x.from ≤ x.up_to
    pub wrote_low : x.from ≤ x.wrote
    pub due_below : (d : Due) → x.due ≡ some d → Below x d.stamp
    pub due_held : x.holder ≡ none → x.due ≡ none
    -- from its store up to the one to come, and from that one on
    pub up_to_due : (u : ℕ) → x.from ≤ u → ((d : Due) → x.due ≡ some d → u < d.stamp.key) → val S item u ≡ x.value
    pub from_due : (u : ℕ) → key_or x.due x.from ≤ u → val S item u ≡ stored_or x.due x.value
    pub readers : (T : Transaction) → In T S → (e : FirstRead) → In e T.reads → e.item ≡ item → T.key ≤ closed x
    pub writers : (T : Transaction) → In T S → (w : WriteEntry) → In w T.writes → w.item ≡ item → T.key ≤ closed x

  -- of a read entry that is not checked yet
  pub record EntryOk (S : List Transaction) (x : Version) (e : ReadEntry) : Type 0 where
    pub older : e.kept_write ≤ x.wrote
    pub shorter : e.kept_read ≤ x.up_to
    pub span : (u : ℕ) → e.kept_write ≤ u → u ≤ e.kept_read → val S e.told.item u ≡ e.told.value
    pub same : x.wrote ≡ e.kept_write → x.value ≡ e.told.value

  -- of one that has passed: what a check establishes, and all that sealing needs
  pub record Covered (S : List Transaction) (x : Version) (key : ℕ) (ws : List WriteEntry) (e : ReadEntry) : Type 0 where
    pub seen : val S e.told.item key ≡ e.told.value
    pub safe : (key ≤ closed x) ⊎ Named e.told.item ws

  pub record Held (s : ℕ) (x : Version) : Type 0 where
    pub mine : x.holder ≡ some s
    pub idle : x.due ≡ none

  pub record WorkingOk (S : List Transaction) (c : ℕ → Version) (s : ℕ) (rs : List ReadEntry) (ws : List WriteEntry) : Type 0 where
    pub entries : (e : ReadEntry) → In e rs → EntryOk S (c e.told.item) e
    pub held : (w : WriteEntry) → In w ws → Held s (c w.item)
    pub distinct : Distinct ws

  pub record CheckingOk (S : List Transaction) (c : ℕ → Version) (s : ℕ) (t : Stamp) (ok rs : List ReadEntry) (ws : List WriteEntry) : Type 0 where
    pub passed : (e : ReadEntry) → In e ok → Covered S (c e.told.item) t.key ws e
    pub entries : (e : ReadEntry) → In e rs → EntryOk S (c e.told.item) e
    pub fits : (e : ReadEntry) → In e rs → Fits (c e.told.item) t e
    pub held : (w : WriteEntry) → In w ws → Held s (c w.item)
    pub below : (w : WriteEntry) → In w ws → Below (c w.item) t
    pub distinct : Distinct ws

  pub record StoringOk (c : ℕ → Version) (s : ℕ) (t : Stamp) (ws : List WriteEntry) : Type 0 where
    pub mine : (w : WriteEntry) → In w ws → (c w.item).holder ≡ some s
    pub due : (w : WriteEntry) → In w ws → (c w.item).due ≡ some (record { stamp = t; entry = w })
    pub distinct : Distinct ws

  abbrev pub SeatOk : List Transaction → (ℕ → Version) → ℕ → Seat → Type 0
  SeatOk S c s free = Unit {0}
  SeatOk S c s (working rs ws) = WorkingOk S c s rs ws
  SeatOk S c s (checking t ok rs ws) = CheckingOk S c s t ok rs ws
  SeatOk S c s (storing t ws) = StoringOk c s t ws

  -- THE INVARIANT
  pub record Inv (σ : State) : Type 0 where
    pub sorted : Sorted σ.order
    pub right : Right σ.order opening
    pub versions : (item : ℕ) → VersionOk σ.order item (σ.version item)
    pub seats : (s : ℕ) → SeatOk σ.order σ.version s (σ.seat s)
    pub by-time : ByTime σ.order σ.seat
    pub holders : (item s : ℕ) → (σ.version item).holder ≡ some s → Holds (σ.seat s) item

  pub up_to_closed : {S : List Transaction} {item : ℕ} (x : Version) → VersionOk S item x → x.up_to ≤ closed x
  up_to_closed x h = go x.due refl
    where
      go : (o : Option Due) → x.due ≡ o → x.up_to ≤ key_or o x.up_to
      go none e = omega arith
      go (some d) e = let l = (h.due_below d e).key in omega arith

-- WHAT IS SEEN BY ONE WHO SEES CALLS AND ANSWERS ALONE, of each seat and of the sealed transactions. Demands 1 and 3 speak of this one observer.
use Rattle.std.specs.Prelude.{ℕ, ◌-◌, ◌≡◌, Bool, true, false, cond, not, ◌&&◌, ◌||◌, eqb, ltb, length}
use mathlib.Core.List.{List, [], ◌∷◌, ◌++◌, Memᴰ as In}
use Rattle.rules.specs.Answers.{ready, seat, value, noted, locked, timed, checked, sealed, stored, done, dropped, aborted, kind, number}
use Rattle.rules.specs.Calls.{Call, Setup, Open, Read, Write, Advance, Abandon, Event}
use Rattle.rules.specs.declared.Answer.{Answer}

-- 1. WHAT IS SEEN
-- a record that a transaction read first, and the value that it was told
pub record FirstRead : Type 0 where
  pub item : ℕ
  pub value : ℕ

-- a write entry, as the Writes of its record left it
pub record WriteEntry : Type 0 where
  pub item : ℕ
  pub value : ℕ

-- of the transaction in a seat
pub record Seen : Type 0 where
  -- whether the seat is given, and to whom
  pub is_open : Bool
  pub holder : ℕ
  -- the words, by their numbers, that its Advances have been answered with so far, refused ones left out
  pub advances : List ℕ
  pub is_sealed : Bool
  -- what it read and had not written before, in the order of the first reads; and its write entries, in ascending record number
  pub reads : List FirstRead
  pub writes : List WriteEntry
  -- the records that it was answered Locked for and has not stored since
  pub locked : ℕ → Bool
  -- its key, from Timed on: what the serial order goes by
  pub key : ℕ
  -- its stores to come, from Sealed on
  pub left : ℕ

-- a sealed transaction
pub record Transaction : Type 0 where
  pub time : ℕ
  pub key : ℕ
  pub reads : List FirstRead
  pub writes : List WriteEntry

pub record Observer : Type 0 where
  -- the plan of the last Setup
  pub plan : List ℕ
  pub seats : ℕ → Seen
  -- the sealed transactions, in the order of sealing
  pub sealed : List Transaction

-- a seat of which no more is seen than whether it is given, and to whom: one given to o, and one not given
abbrev pub untouched : Bool → ℕ → Seen
untouched is_open holder =
    record { is_open = is_open; holder = holder; advances = []; is_sealed = false; reads = []; writes = []; locked = λ x. false; key = 0; left = 0 }

abbrev pub given_to : ℕ → Seen
given_to o = untouched true o

abbrev pub unseen : Seen
unseen = untouched false 0

-- what is seen after a Setup with this plan, and by one who has seen none
abbrev pub begun_with : List ℕ → Observer
begun_with plan = record { plan = plan; seats = λ s. unseen; sealed = [] }

abbrev pub nothing : Observer
nothing = begun_with []

-- 2. WHAT AN ANSWER SHOWS OF THE SEAT that its call names
-- one of a list passes
unfoldable pub has : {A : Type 0} → (A → Bool) → List A → Bool
has p [] = false
has p (a ∷ l) = p a || has p l

abbrev pub is_read : Seen → ℕ → Bool
is_read x item = has (λ (e : FirstRead). eqb e.item item) x.reads

abbrev pub is_written : Seen → ℕ → Bool
is_written x item = has (λ (w : WriteEntry). eqb w.item item) x.writes

-- the record was written or read before, so that its value is known in the seat
unfoldable pub is_known : Seen → ℕ → Bool
is_known x item = is_written x item || is_read x item

-- the seat with other reads and writes
abbrev pub entered : Seen → List FirstRead → List WriteEntry → Seen
entered x rs ws =
    record {
      is_open = x.is_open;
      holder = x.holder;
      advances = x.advances;
      is_sealed = x.is_sealed;
      reads = rs;
      writes = ws;
      locked = x.locked;
      key = x.key;
      left = x.left;
    }

-- Read, answered with a value: a first read, unless the record is known
unfoldable pub on_read : Seen → ℕ → Answer → Seen
on_read x item a =
    cond (eqb (kind a) value && not (is_known x item))
    (entered x (x.reads ++ (record { item = item; value = number a } ∷ [])) x.writes) x

-- Write, answered noted: the first entry for the record takes the value, else a new one stands before the first with a greater record number
unfoldable pub folded : WriteEntry → ℕ → WriteEntry
folded w v = record { item = w.item; value = v }

unfoldable pub renewed : ℕ → ℕ → List WriteEntry → List WriteEntry
renewed item v [] = []
renewed item v (w ∷ ws) = cond (eqb w.item item) (folded w v ∷ ws) (w ∷ renewed item v ws)

unfoldable pub inserted : ℕ → ℕ → List WriteEntry → List WriteEntry
inserted item v [] = record { item = item; value = v } ∷ []
inserted item v (w ∷ ws) =
    cond (ltb item w.item) (record { item = item; value = v } ∷ w ∷ ws) (w ∷ inserted item v ws)

abbrev pub writes_with : Seen → ℕ → ℕ → List WriteEntry
writes_with x item v = cond (is_written x item) (renewed item v x.writes) (inserted item v x.writes)

unfoldable pub on_write : Seen → ℕ → ℕ → Answer → Seen
on_write x item v a = cond (eqb (kind a) noted) (entered x x.reads (writes_with x item v)) x

-- one Advance more, answered a; after it the seat is sealed or not, and has these locks, this key and so many stores to come
abbrev pub one_more : Seen → Answer → Bool → (ℕ → Bool) → ℕ → ℕ → Seen
one_more x a is_sealed locked key left =
    record {
      is_open = x.is_open;
      holder = x.holder;
      advances = x.advances ++ (kind a ∷ []);
      is_sealed = is_sealed;
      reads = x.reads;
      writes = x.writes;
      locked = locked;
      key = key;
      left = left;
    }

-- Advance: a lock taken, the time, a check, the seal, a store; with Done and Aborted the transaction ends. A refusal shows nothing
unfoldable pub on_advance : Seen → Answer → Seen
on_advance x a =
    cond (eqb (kind a) locked) (one_more x a x.is_sealed (λ i. x.locked i || eqb (number a) i) x.key x.left)
    (cond (eqb (kind a) timed) (one_more x a x.is_sealed x.locked (number a) x.left)
    (cond (eqb (kind a) checked) (one_more x a x.is_sealed x.locked x.key x.left)
    (cond (eqb (kind a) sealed) (one_more x a true x.locked x.key (length x.writes))
    (cond (eqb (kind a) stored) (one_more x a x.is_sealed (λ i. x.locked i && not (eqb (number a) i)) x.key (x.left - 1))
    (cond (eqb (kind a) done || eqb (kind a) aborted) unseen x)))))

-- Abandon, answered dropped: it ends
unfoldable pub on_abandon : Seen → Answer → Seen
on_abandon x a = cond (eqb (kind a) dropped) unseen x

-- 3. WHAT A CALL AND ITS ANSWER SHOW
-- a function with another value at one place; the observer, once a seat is seen otherwise
unfoldable pub changed : {A : Type 0} → ℕ → A → (ℕ → A) → ℕ → A
changed k a f j = cond (eqb j k) a (f j)

abbrev pub seeing : Observer → ℕ → Seen → Observer
seeing b s x = record { plan = b.plan; seats = changed s x b.seats; sealed = b.sealed }

-- a transaction, sealed at a time
abbrev pub sealed_at : Seen → ℕ → Transaction
sealed_at x t = record { time = t; key = x.key; reads = x.reads; writes = x.writes }

-- A Setup that was answered ready begins anew; what is never sealed leaves nothing, aborted or abandoned or not
unfoldable pub observe : Observer → Call → Answer → Observer
observe b (Setup start plan) a = cond (eqb (kind a) ready) (begun_with plan) b
observe b (Open o) a = cond (eqb (kind a) seat) (seeing b (number a) (given_to o)) b
observe b (Read o s item) a = seeing b s (on_read (b.seats s) item a)
observe b (Write o s item v) a = seeing b s (on_write (b.seats s) item v a)
observe b (Advance o s) a =
    record {
      plan = b.plan;
      seats = changed s (on_advance (b.seats s) a) b.seats;
      sealed = cond (eqb (kind a) sealed) (b.sealed ++ (sealed_at (b.seats s) (number a) ∷ [])) b.sealed;
    }
observe b (Abandon o s) a = seeing b s (on_abandon (b.seats s) a)

unfoldable pub observed : Observer → List Event → Observer
observed b [] = b
observed b (e ∷ es) = observed (observe b e.call e.answer) es

-- 4. WHICH CALL IT IS
unfoldable pub is_setup : Call → Bool
is_setup (Setup start plan) = true
is_setup (Open o) = false
is_setup (Read o s item) = false
is_setup (Write o s item v) = false
is_setup (Advance o s) = false
is_setup (Abandon o s) = false

-- a Setup that was answered ready
abbrev pub begins : Call → Answer → Bool
begins c a = is_setup c && eqb (kind a) ready

-- no Setup among the events was answered ready; one was
abbrev pub NoSetup : List Event → Type 0
NoSetup es = (e : Event) → In e es → begins e.call e.answer ≡ false

abbrev pub SomeSetup : List Event → Type 0
SomeSetup es = (e : Event) × In e es × (begins e.call e.answer ≡ true)

-- whether a call is owner o's Advance of seat s
unfoldable pub is_advance : ℕ → ℕ → Call → Bool
is_advance o s (Setup start plan) = false
is_advance o s (Open p) = false
is_advance o s (Read p r item) = false
is_advance o s (Write p r item value) = false
is_advance o s (Advance p r) = eqb p o && eqb r s
is_advance o s (Abandon p r) = false

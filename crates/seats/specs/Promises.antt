-- What each public function promises, one statement a function: of its result `r`, or of what it leaves of a table, `left`.
-- `NAME-one` says that the statement leaves one.
use Rattle.std.specs.Prelude.{ℕ, min, max, ◌≡◌, Bool, List, length, get_or, set, replicate, Option, Result}
use Rattle.clock.specs.Promises.{one_result}
use Rattle.rules.specs.Layout.{most_reads, most_writes, row, put}
use Rattle.rules.specs.Tables.{Tables}
use Rattle.rules.specs.Refusals.{unsized, refusal}
use Rattle.rules.specs.Plan.{freed}
use Rattle.rules.specs.Work.{read_names, write_names}
use Rattle.rules.specs.declared.Refusal.{Refusal}
use Rattle.seats.specs.declared.Head.{Head}
use Rattle.seats.specs.declared.ReadEntry.{ReadEntry}
use Rattle.seats.specs.declared.WriteEntry.{WriteEntry}
use Rattle.seats.specs.Entries.{read_entry, write_entry}
use Rattle.seats.specs.Heads.{admission, numbered, one_admission}
use Rattle.seats.specs.Search.{found}

-- PLACES OF A TABLE
-- what stands at a place; 0 past the table's end
abbrev pub PlaceIs : List ℕ → ℕ → ℕ → Type 0
PlaceIs list i r = r ≡ get_or list i 0

pub PlaceIs-one : (list : List ℕ) (i r q : ℕ) → PlaceIs list i r → PlaceIs list i q → r ≡ q
PlaceIs-one list i r q = one_result

-- a number stored at a place; past the table's end there is none
abbrev pub StoredAt : List ℕ → ℕ → ℕ → List ℕ → Type 0
StoredAt list i v left = left ≡ set list i v

pub StoredAt-one : (list : List ℕ) (i v : ℕ) (l m : List ℕ) → StoredAt list i v l → StoredAt list i v m → l ≡ m
StoredAt-one list i v l m = one_result

-- one number throughout a table
abbrev pub Filled : List ℕ → ℕ → List ℕ → Type 0
Filled list v left = left ≡ replicate (length list) v

pub Filled-one : (list : List ℕ) (v : ℕ) (l m : List ℕ) → Filled list v l → Filled list v m → l ≡ m
Filled-one list v l m = one_result

-- the greater of two
abbrev pub GreaterIs : ℕ → ℕ → ℕ → Type 0
GreaterIs a b r = r ≡ max a b

pub GreaterIs-one : (a b r q : ℕ) → GreaterIs a b r → GreaterIs a b q → r ≡ q
GreaterIs-one a b r q = one_result

-- A SEAT'S ROW
-- the part of the seat table that is the seat's row
abbrev pub RowIs : List ℕ → ℕ → List ℕ → Type 0
RowIs seats seat r = r ≡ row seats seat

pub RowIs-one : (seats : List ℕ) (seat : ℕ) (r q : List ℕ) → RowIs seats seat r → RowIs seats seat q → r ≡ q
RowIs-one seats seat r q = one_result

-- a number stored at a place of a seat's row
abbrev pub RowGiven : List ℕ → ℕ → ℕ → ℕ → List ℕ → Type 0
RowGiven seats seat field v left = left ≡ put seats seat field v

pub RowGiven-one : (seats : List ℕ) (seat field v : ℕ) (l m : List ℕ) → RowGiven seats seat field v l → RowGiven seats seat field v m → l ≡ m
RowGiven-one seats seat field v l m = one_result

abbrev pub RowFreed : List ℕ → ℕ → List ℕ → Type 0
RowFreed seats seat left = left ≡ freed seats seat

pub RowFreed-one : (seats : List ℕ) (seat : ℕ) (l m : List ℕ) → RowFreed seats seat l → RowFreed seats seat m → l ≡ m
RowFreed-one seats seat l m = one_result

-- the numbers of a row's read entry i, and of its write entry i
abbrev pub ReadEntryAt : List ℕ → ℕ → ReadEntry → Type 0
ReadEntryAt g i r = r ≡ read_entry g i

pub ReadEntryAt-one : (g : List ℕ) (i : ℕ) (r q : ReadEntry) → ReadEntryAt g i r → ReadEntryAt g i q → r ≡ q
ReadEntryAt-one g i r q = one_result

abbrev pub WriteEntryAt : List ℕ → ℕ → WriteEntry → Type 0
WriteEntryAt g i r = r ≡ write_entry g i

pub WriteEntryAt-one : (g : List ℕ) (i : ℕ) (r q : WriteEntry) → WriteEntryAt g i r → WriteEntryAt g i q → r ≡ q
WriteEntryAt-one g i r q = one_result

-- the first of a row's n entries that names the record, of which there are no more than a row can have
abbrev pub ReadEntryIs : List ℕ → ℕ → ℕ → Option ℕ → Type 0
ReadEntryIs g n item r = r ≡ found (read_names g item) (min n most_reads)

pub ReadEntryIs-one : (g : List ℕ) (n item : ℕ) (r q : Option ℕ) → ReadEntryIs g n item r → ReadEntryIs g n item q → r ≡ q
ReadEntryIs-one g n item r q = one_result

abbrev pub WriteEntryIs : List ℕ → ℕ → ℕ → Option ℕ → Type 0
WriteEntryIs g n item r = r ≡ found (write_names g item) (min n most_writes)

pub WriteEntryIs-one : (g : List ℕ) (n item : ℕ) (r q : Option ℕ) → WriteEntryIs g n item r → WriteEntryIs g n item q → r ≡ q
WriteEntryIs-one g n item r q = one_result

-- REFUSALS
-- 1, by the tables' lengths
abbrev pub UnsizedIs : ℕ → ℕ → ℕ → Bool → Type 0
UnsizedIs values words seats r = r ≡ unsized values words seats

pub UnsizedIs-one : (values words seats : ℕ) (r q : Bool) → UnsizedIs values words seats r → UnsizedIs values words seats q → r ≡ q
UnsizedIs-one values words seats r q = one_result

-- admitted with the head of its row, or refused for the lowest number that is due
abbrev pub Admitted : Tables → ℕ → ℕ → Bool → ℕ → Result Head Refusal → Type 0
Admitted t owner seat unknown last r = numbered r ≡ admission (refusal t owner seat unknown last) (row t.seats seat)

pub Admitted-one : (t : Tables) (owner seat : ℕ) (unknown : Bool) (last : ℕ) (r q : Result Head Refusal) →
    Admitted t owner seat unknown last r → Admitted t owner seat unknown last q → r ≡ q
Admitted-one t owner seat unknown last r q e f = one_admission r q (one_result e f)

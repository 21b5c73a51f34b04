-- DEMAND 3, THE SERIAL ORDER: what is promised, to be read from top to bottom. There is no proof here.
-- An observer (the crate observer) sees calls and answers alone, and keeps of each sealed transaction what it first read and what it writes. Put in
-- order by key, these run one after another, from the opening values, would read what their readers were told, and leave what the table holds.
use Rattle.std.specs.Prelude.{ℕ, ◌<◌, ◌≡◌, Bool, cond, eqb, leb, length, get_or}
use mathlib.Core.List.{List, [], ◌∷◌, Memᴰ as In}
use Rattle.rules.specs.Layout.{seat_count}
use Rattle.rules.specs.Tables.{Tables}
use Rattle.rules.specs.Answers.{ready, kind}
use Rattle.rules.specs.Plan.{setup}
use Rattle.rules.specs.Advance.{effect}
use Rattle.rules.specs.Calls.{Call, step, run, history}
use Rattle.observer.specs.Observer.{FirstRead, WriteEntry, Transaction, Observer, nothing, observed, begins, NoSetup, SomeSetup}

-- 1. THE ORDER: by key, equal keys by order of sealing. (Order proves that it is that.)
-- U, sealed before T, comes before T too: its key is not greater
unfoldable pub precedes : Transaction → Transaction → Bool
precedes U T = leb U.key T.key

-- T, sealed after all of these, takes its place among them
unfoldable pub ranked : Transaction → List Transaction → List Transaction
ranked T [] = T ∷ []
ranked T (U ∷ S) = cond (precedes U T) (U ∷ ranked T S) (T ∷ U ∷ S)

-- each of a list takes its place, one after another
unfoldable pub all_ranked : List Transaction → List Transaction → List Transaction
all_ranked S [] = S
all_ranked S (T ∷ Ts) = all_ranked (ranked T S) Ts

abbrev pub serial : List Transaction → List Transaction
serial S = all_ranked [] S

-- 2. THE SERIAL RUN
abbrev pub Values : Type 0
Values = ℕ → ℕ

-- what an entry makes of the value then held, and what entries make of a record's value, one after another
abbrev pub applied : WriteEntry → ℕ → ℕ
applied w v = effect w.value v

unfoldable pub written : List WriteEntry → ℕ → ℕ → ℕ
written [] item v = v
written (w ∷ ws) item v = written ws item (cond (eqb w.item item) (applied w v) v)

-- the values after a transaction, and after several, one after another
abbrev pub values_after : Transaction → Values → Values
values_after T f item = written T.writes item (f item)

unfoldable pub values_after_all : List Transaction → Values → Values
values_after_all [] f = f
values_after_all (T ∷ S) f = values_after_all S (values_after T f)

-- each in turn reads, before its own writes, what its reader was told
unfoldable pub Right : List Transaction → Values → Type 0
Right [] f = Unit {0}
Right (T ∷ S) f = ((e : FirstRead) → In e T.reads → f e.item ≡ e.value) × Right S (values_after T f)

-- 3. THE PROMISE
-- no sealed transaction has a store left
abbrev pub AllStored : Observer → Type 0
AllStored b = (s : ℕ) → s < seat_count → (b.seats s).left ≡ 0

abbrev pub values_of : List ℕ → Values
values_of values item = get_or values item 0

-- of the opening values, what was observed, and the tables now
pub record Serializable (opening : Values) (b : Observer) (t : Tables) : Type 0 where
  -- every first read of every sealed transaction has, in the serial run, the value that its reader was told
  pub right : Right (serial b.sealed) opening
  -- once all is stored, the table has the final values of the serial run
  pub final : AllStored b → (item : ℕ) → item < length t.values → values_after_all (serial b.sealed) opening item ≡ get_or t.values item 0
  -- what the order goes by is the commit time
  pub by-time : (T : Transaction) → In T b.sealed → T.key ≡ T.time

-- THE THEOREM: for any tables on which Setup answers ready, and any calls after it, no further Setup answering ready among them
unfoldable pub SerialOrder : Type 0
SerialOrder =
    (t : Tables) (start : ℕ) (plan : List ℕ) → kind (setup t start plan).answer ≡ ready →
    (cs : List Call) →
    let begun : Tables = (setup t start plan).tables in
    NoSetup (history begun cs) →
    Serializable (values_of t.values) (observed nothing (history begun cs)) (run begun cs)

-- SINCE THE LAST SETUP: for any tables and any calls, one Setup or more answering ready among them
-- the values as the last of these Setups found and left them
unfoldable pub opening_from : List ℕ → Tables → List Call → List ℕ
opening_from values t [] = values
opening_from values t (c ∷ cs) =
    opening_from (cond (begins c (step t c).answer) t.values values) (step t c).tables cs

abbrev pub opening : Tables → List Call → List ℕ
opening t cs = opening_from t.values t cs

unfoldable pub SinceLastSetup : Type 0
SinceLastSetup =
    (t : Tables) (cs : List Call) → SomeSetup (history t cs) →
    Serializable (values_of (opening t cs)) (observed nothing (history t cs)) (run t cs)

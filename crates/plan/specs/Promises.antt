-- What Setup and Open promise: the answer, and what they leave of the three tables.
-- `NAME-one` says that the statement leaves one outcome: one answer, and one content of each table.
use Rattle.std.specs.Prelude.{ℕ, ◌≡◌, List}
use Rattle.clock.specs.Promises.{one_result}
use Rattle.rules.specs.Tables.{Tables, Outcome}
use Rattle.rules.specs.Plan.{setup, open_seat}

abbrev pub SetupAnswered : Tables → ℕ → List ℕ → Outcome → Type 0
SetupAnswered t start plan x = x ≡ setup t start plan

pub SetupAnswered-one : (t : Tables) (start : ℕ) (plan : List ℕ) (x y : Outcome) →
    SetupAnswered t start plan x → SetupAnswered t start plan y → x ≡ y
SetupAnswered-one t start plan x y = one_result

abbrev pub OpenAnswered : Tables → ℕ → Outcome → Type 0
OpenAnswered t owner x = x ≡ open_seat t owner

pub OpenAnswered-one : (t : Tables) (owner : ℕ) (x y : Outcome) → OpenAnswered t owner x → OpenAnswered t owner y → x ≡ y
OpenAnswered-one t owner x y = one_result

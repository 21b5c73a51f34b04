-- What Read and Write promise: the answer, and what they leave of the three tables.
-- `NAME-one` says that the statement leaves one outcome: one answer, and one content of each table.
use Rattle.std.specs.Prelude.{ℕ, ◌≡◌}
use Rattle.clock.specs.Promises.{one_result}
use Rattle.rules.specs.Tables.{Tables, Outcome}
use Rattle.rules.specs.Work.{read, write}

abbrev pub ReadAnswered : Tables → ℕ → ℕ → ℕ → Outcome → Type 0
ReadAnswered t owner seat item x = x ≡ read t owner seat item

pub ReadAnswered-one : (t : Tables) (owner seat item : ℕ) (x y : Outcome) →
    ReadAnswered t owner seat item x → ReadAnswered t owner seat item y → x ≡ y
ReadAnswered-one t owner seat item x y = one_result

abbrev pub WriteAnswered : Tables → ℕ → ℕ → ℕ → ℕ → Outcome → Type 0
WriteAnswered t owner seat item value x = x ≡ write t owner seat item value

pub WriteAnswered-one : (t : Tables) (owner seat item value : ℕ) (x y : Outcome) →
    WriteAnswered t owner seat item value x → WriteAnswered t owner seat item value y → x ≡ y
WriteAnswered-one t owner seat item value x y = one_result

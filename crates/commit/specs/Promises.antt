-- What Advance and Abandon promise: the answer, and what they leave of the three tables.
-- `NAME-one` says that the statement leaves one outcome: one answer, and one content of each table.
use Rattle.std.specs.Prelude.{ℕ, ◌≡◌}
use Rattle.clock.specs.Promises.{one_result}
use Rattle.rules.specs.Tables.{Tables, Outcome}
use Rattle.rules.specs.Advance.{advance, abandon}

abbrev pub AdvanceAnswered : Tables → ℕ → ℕ → Outcome → Type 0
AdvanceAnswered t owner seat x = x ≡ advance t owner seat

pub AdvanceAnswered-one : (t : Tables) (owner seat : ℕ) (x y : Outcome) →
    AdvanceAnswered t owner seat x → AdvanceAnswered t owner seat y → x ≡ y
AdvanceAnswered-one t owner seat x y = one_result

abbrev pub AbandonAnswered : Tables → ℕ → ℕ → Outcome → Type 0
AbandonAnswered t owner seat x = x ≡ abandon t owner seat

pub AbandonAnswered-one : (t : Tables) (owner seat : ℕ) (x y : Outcome) →
    AbandonAnswered t owner seat x → AbandonAnswered t owner seat y → x ≡ y
AbandonAnswered-one t owner seat x y = one_result

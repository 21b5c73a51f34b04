-- Statements. 'From Setup on': any opening tables on which a Setup answers ready, and any calls after it over the same tables,
-- refused and aborted ones, wrong owners, and later Setups among them.
use Rattle.std.specs.Prelude.{ℕ, ◌≡◌, List}
use Rattle.rules.specs.Tables.{Tables}
use Rattle.rules.specs.Answers.{ready, refused, kind, number}
use Rattle.rules.specs.Calls.{Call, Setup, step, run, history}
use Rattle.observer.specs.Observer.{Observer, begun_with, observed}

-- the tables that a Setup and calls lead to
pub record Reached (t : Tables) : Type 0 where
  pub opening : Tables
  pub start : ℕ
  pub plan : List ℕ
  pub calls : List Call
  pub answered : kind (step opening (Setup start plan)).answer ≡ ready
  pub now : run (step opening (Setup start plan)).tables calls ≡ t

-- the tables as that Setup left them, how many records it told, and what has been seen since
abbrev pub begun : {t : Tables} → Reached t → Tables
begun z = (step z.opening (Setup z.start z.plan)).tables

abbrev pub records : {t : Tables} → Reached t → ℕ
records z = number (step z.opening (Setup z.start z.plan)).answer

abbrev pub seen : {t : Tables} → Reached t → Observer
seen z = observed (begun_with z.plan) (history (begun z) z.calls)

-- REFUSAL 3 IS NEVER GIVEN
abbrev pub Never3 : Tables → Type 0
Never3 t = (c : Call) → kind (step t c).answer ≡ refused → number (step t c).answer ≡ 3 → ⊥

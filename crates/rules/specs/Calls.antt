-- A call, what it comes to, and what a list of calls comes to.
use Rattle.std.specs.Prelude.{ℕ, List, [], ◌∷◌}
use Rattle.rules.specs.Tables.{Tables, Outcome}
use Rattle.rules.specs.Plan.{setup, open_seat}
use Rattle.rules.specs.Work.{read, write}
use Rattle.rules.specs.Advance.{advance, abandon}
use Rattle.rules.specs.declared.Answer.{Answer}

pub data Call : Type 0 where
  Setup : (start : ℕ) (plan : List ℕ) → Call
  Open : (owner : ℕ) → Call
  Read : (owner seat item : ℕ) → Call
  Write : (owner seat item value : ℕ) → Call
  Advance : (owner seat : ℕ) → Call
  Abandon : (owner seat : ℕ) → Call

unfoldable pub step : Tables → Call → Outcome
step t (Setup start plan) = setup t start plan
step t (Open o) = open_seat t o
step t (Read o s item) = read t o s item
step t (Write o s item value) = write t o s item value
step t (Advance o s) = advance t o s
step t (Abandon o s) = abandon t o s

-- the tables after a list of calls
unfoldable pub run : Tables → List Call → Tables
run t [] = t
run t (c ∷ cs) = run (step t c).tables cs

-- each call with its answer: what one who sees no table sees
pub record Event : Type 0 where
  pub call : Call
  pub answer : Answer

unfoldable pub history : Tables → List Call → List Event
history t [] = []
history t (c ∷ cs) = record { call = c; answer = (step t c).answer } ∷ history (step t c).tables cs

-- the answers alone, in order
unfoldable pub told : List Event → List Answer
told [] = []
told (e ∷ es) = e.answer ∷ told es

abbrev pub answers : Tables → List Call → List Answer
answers t cs = told (history t cs)

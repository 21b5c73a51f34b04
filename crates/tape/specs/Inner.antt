-- What the code's inner functions ask for and leave: of a run over a part of a tape, and of the lines of the whole.
use Rattle.std.specs.Prelude.{ℕ, ◌+◌, ◌≤◌, ◌≡◌, cond, List, leb, length}
use Rattle.std.proofs.lemmas.List.Edits.{sets}
use Rattle.text.specs.Text.{greatest}
use Rattle.rules.specs.Tables as rule
use Rattle.turns.specs.declared.Tables.{Tables}
use Rattle.turns.specs.Lent.{with_lent, SameLengths}
use Rattle.tape.specs.declared.Intake.{Intake}
use Rattle.tape.specs.declared.Counts.{Counts}
use Rattle.tape.specs.Lines.{State, Fed}

-- the program's state, of its counts and its tables
abbrev pub state_of : Counts → rule.Tables → State
state_of k t = record { calls = k.calls; offset = k.offset; records = k.records; tables = t }

abbrev pub counts_in : State → Counts
counts_in s = record { calls = s.calls; offset = s.offset; records = s.records }

-- a sum that stops at the greatest number of 64 bits
abbrev pub capped : ℕ → ℕ → ℕ
capped a b = cond (leb (a + b) greatest) (a + b) greatest

-- a part of n bytes leaves every number below the greatest
pub record Counted (k : Counts) (n : ℕ) : Type 0 where
  pub offset : k.offset + n ≤ greatest
  pub calls : k.calls + n ≤ greatest

-- lines: where their text would end, and the text where it fits whole
pub record LinesIn (xs out : List ℕ) (r : ℕ) (out' : List ℕ) : Type 0 where
  pub end : r ≡ capped 0 (length xs)
  pub text : length xs ≤ length out → out' ≡ sets out 0 xs

-- what a run over a part leaves: what `fed` says
pub record Ran (f : Fed) (t : Tables) (out : List ℕ) (r : Intake) (t' : Tables) (out' : List ℕ) : Type 0 where
  pub answer_is : r ≡ record { waiting = length f.left; counts = counts_in f.state; end = capped 0 (length f.text); stopped = f.stopped }
  pub tables_are : t' ≡ with_lent t f.state.tables
  pub lengths : SameLengths t t'
  pub lines : LinesIn f.text out r.end out'

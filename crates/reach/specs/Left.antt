-- Statements. What each answer leaves of the tables, by the last column of the table of refusals. `step` is a total function: every call has one answer.
use Rattle.std.specs.Prelude.{ℕ, ◌<◌, ◌≡◌, ◌≢◌, false, List, length, get_or}
use Rattle.clock.specs.Word.{with_lock}
use Rattle.rules.specs.Layout.{plan_width, row_width, row, cell, write_item}
use Rattle.rules.specs.Tables.{Tables}
use Rattle.rules.specs.Advance.{held_locks}
use Rattle.rules.specs.Answers.{dropped, refused, aborted, kind}
use Rattle.rules.specs.Calls.{Call, Advance, Abandon, step, answers}

-- every call of a list has its answer
abbrev pub EachAnswered : Type 0
EachAnswered = (t : Tables) (cs : List Call) → length (answers t cs) ≡ length cs

-- 1 to 11: every table as it was; over any tables
abbrev pub RefusalLeavesAll : Type 0
RefusalLeavesAll = (t : Tables) (c : Call) → kind (step t c).answer ≡ refused → (step t c).tables ≡ t

-- what is left where seat s lets go: the locks that it holds are cleared, its row is zero, and nothing else has changed
pub record LetGo (t after : Tables) (s : ℕ) : Type 0 where
  pub values_stay : after.values ≡ t.values
  pub as_many : length after.words ≡ length t.words
  pub held-cleared : (i : ℕ) → i < held_locks (row t.seats s) →
      get_or after.words (write_item (row t.seats s) i) 0 ≡ with_lock false (get_or t.words (write_item (row t.seats s) i) 0)
  pub others_stay : (item : ℕ) → ((i : ℕ) → i < held_locks (row t.seats s) → write_item (row t.seats s) i ≢ item) →
      get_or after.words item 0 ≡ get_or t.words item 0
  pub row_zero : (f : ℕ) → f < row_width → cell after.seats s f ≡ 0
  pub rows_stay : (j : ℕ) → j ≢ s → row after.seats j ≡ row t.seats j
  pub plan-stays : (i : ℕ) → i < plan_width → get_or after.seats i 0 ≡ get_or t.seats i 0
  pub as_long : length after.seats ≡ length t.seats

-- 21 to 24: only Advance aborts, and then its seat lets go; over any tables
abbrev pub AbortLetsGo : Type 0
AbortLetsGo = (t : Tables) (c : Call) → kind (step t c).answer ≡ aborted → (o s : ℕ) × (c ≡ Advance o s) × LetGo t (step t c).tables s

-- a seat that is dropped lets go too
abbrev pub AbandonLetsGo : Type 0
AbandonLetsGo = (t : Tables) (o s : ℕ) → kind (step t (Abandon o s)).answer ≡ dropped → LetGo t (step t (Abandon o s)).tables s

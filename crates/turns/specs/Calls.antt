-- A call of a tape on the program's tables: what it is lent, its answer, and the tables after it.
use Rattle.std.specs.Prelude.{ℕ, ◌≤◌, cond, ◌≡◌, List, ◌++◌, ltb, eqb, length, take, drop}
use Rattle.rules.specs.Layout.{most_records, plan_width}
use Rattle.rules.specs.Answers.{kind, ready}
use Rattle.rules.specs.Tables.{Tables, Outcome, tables, answered, unless}
use Rattle.rules.specs.Calls.{step}
use Rattle.rules.specs.Calls as rule
use Rattle.rules.specs.declared.Answer.{Answer}
use Rattle.frames.specs.declared.Call.{Call}
use Rattle.frames.specs.declared.Call.TheVariants.{Setup, Open, Read, Write, Advance, Abandon}
use Rattle.frames.specs.Decode.{plan_from, setup_size}

-- the first n records of the program's tables, and its tables again once these have come back
abbrev pub first_records : Tables → ℕ → Tables
first_records t n = tables (take n t.values) (take n t.words) t.seats

abbrev pub given_back : Tables → ℕ → Tables → Tables
given_back t n back = tables (back.values ++ drop n t.values) (back.words ++ drop n t.words) back.seats

-- r is where the first n places of a table of `len` end: a shorter one has no more
pub record FirstOf (n len r : ℕ) : Type 0 where
  pub within : r ≤ len
  pub same : (l : List ℕ) → length l ≡ len → take r l ≡ take n l
  pub rest : (l : List ℕ) → length l ≡ len → drop r l ≡ drop n l

-- the call that the rules know, of a call on the tape and its body
abbrev pub rule_call : Call → List ℕ → rule.Call
rule_call (Setup count start) b = rule.Setup start (take plan_width (drop plan_from b))
rule_call (Open o) b = rule.Open o
rule_call (Read o s item) b = rule.Read o s item
rule_call (Write o s item value) b = rule.Write o s item value
rule_call (Advance o s) b = rule.Advance o s
rule_call (Abandon o s) b = rule.Abandon o s

-- a Setup's body has its plan
abbrev pub PlanFits : Call → List ℕ → Type 0
PlanFits (Setup count start) b = length b ≡ setup_size
PlanFits (Open o) b = Unit {0}
PlanFits (Read o s item) b = Unit {0}
PlanFits (Write o s item value) b = Unit {0}
PlanFits (Advance o s) b = Unit {0}
PlanFits (Abandon o s) b = Unit {0}

-- how many records a call is lent: Setup as many as it names, any other as many as the Setup that succeeded gave
abbrev pub records_for : ℕ → Call → ℕ
records_for records (Setup count start) = count
records_for records (Open o) = records
records_for records (Read o s item) = records
records_for records (Write o s item value) = records
records_for records (Advance o s) = records
records_for records (Abandon o s) = records

-- what a Setup on the tape is refused for: a Setup after a successful one is 35, before any other; a count above 1024 is 1
abbrev pub setup_again : ℕ
setup_again = 35

abbrev pub wrong_sizes : ℕ
wrong_sizes = 1

-- 0 for any other call
abbrev pub tape_refusal : ℕ → Call → ℕ
tape_refusal records (Setup count start) = cond (ltb 0 records) setup_again (cond (ltb most_records count) wrong_sizes 0)
tape_refusal records (Open o) = 0
tape_refusal records (Read o s item) = 0
tape_refusal records (Write o s item value) = 0
tape_refusal records (Advance o s) = 0
tape_refusal records (Abandon o s) = 0

-- a call on the first n records of the program's tables: its answer, and the program's tables after it
abbrev pub on_first : Tables → ℕ → rule.Call → Outcome
on_first t n c = let o : Outcome = step (first_records t n) c in answered o.answer (given_back t n o.tables)

unfoldable pub performed : ℕ → Tables → Call → List ℕ → Outcome
performed records t c b = unless (tape_refusal records c) t (on_first t (records_for records c) (rule_call c b))

-- the records that are lent from now on: what a Setup that answers ready was given
abbrev pub records_after : ℕ → Call → Answer → ℕ
records_after records (Setup count start) a = cond (eqb (kind a) ready) count records
records_after records (Open o) a = records
records_after records (Read o s item) a = records
records_after records (Write o s item value) a = records
records_after records (Advance o s) a = records
records_after records (Abandon o s) a = records

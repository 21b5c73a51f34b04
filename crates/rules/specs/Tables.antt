-- The three lent tables, and what a call comes to: an answer and the tables after it.
use Rattle.std.specs.Prelude.{ℕ, List, cond, eqb}
use Rattle.rules.specs.declared.Answer.{Answer}
use Rattle.rules.specs.declared.Answer.TheVariants.{Refused}

pub record Tables : Type 0 where
  pub values : List ℕ
  pub words : List ℕ
  pub seats : List ℕ

pub record Outcome : Type 0 where
  pub answer : Answer
  pub tables : Tables

abbrev pub tables : List ℕ → List ℕ → List ℕ → Tables
tables values words seats = record { values = values; words = words; seats = seats }

-- the tables with another content of one of them
abbrev pub with_values : Tables → List ℕ → Tables
with_values t values = record { values = values; words = t.words; seats = t.seats }

abbrev pub with_words : Tables → List ℕ → Tables
with_words t words = record { values = t.values; words = words; seats = t.seats }

abbrev pub with_seats : Tables → List ℕ → Tables
with_seats t seats = record { values = t.values; words = t.words; seats = seats }

-- an answer, with the tables as they are after it
abbrev pub answered : Answer → Tables → Outcome
answered a t = record { answer = a; tables = t }

-- refused where the number is not 0, and then every table stays; otherwise the outcome
abbrev pub unless : ℕ → Tables → Outcome → Outcome
unless why t o = cond (eqb why 0) o (answered (Refused why) t)

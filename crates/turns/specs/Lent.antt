-- The three tables of a tape, as they are lent: what they hold, and the same references with another content.
use Rattle.std.specs.Prelude.{◌≡◌, length}
use Rattle.rules.specs.Tables as rule
use Rattle.rules.specs.declared.Answer.{Answer}
use Rattle.turns.specs.declared.Tables.{Tables}

abbrev pub lent_in : Tables → rule.Tables
lent_in t = rule.tables t.values.now t.words.now t.seats.now

abbrev pub with_lent : Tables → rule.Tables → Tables
with_lent t x =
    record t {
      values = record t.values { now = x.values };
      words = record t.words { now = x.words };
      seats = record t.seats { now = x.seats };
    }

-- each table keeps its length, which the type of a slice says and that of a struct of references does not
pub record SameLengths (t t' : Tables) : Type 0 where
  pub values_are : length t'.values.now ≡ length t.values.now
  pub words_are : length t'.words.now ≡ length t.words.now
  pub seats_are : length t'.seats.now ≡ length t.seats.now

-- what a call on them answers, and leaves of them, is an outcome
pub record Answered (o : rule.Outcome) (t : Tables) (r : Answer) (t' : Tables) : Type 0 where
  pub answer : r ≡ o.answer
  pub tables : t' ≡ with_lent t o.tables
  pub lengths : SameLengths t t'

-- The tables that a call is lent, as a contract names them: once, for every call.
use Rattle.std.specs.Prelude.{ℕ, List}
use Rattle.rules.specs.Tables.{Tables, Outcome, tables, with_words, with_seats, answered}
use Rattle.rules.specs.declared.Answer.{Answer}

-- a lent table: `.old` at the call's entry and `.new` at its exit, `.now` where it is lent to be read alone
abbrev pub Lent : Type 0
Lent = List ℕ

-- all three, as the call found them; as it left them; and its answer with what it left
abbrev pub lent : Lent → Lent → Lent → Tables
lent values words seats = tables values words seats

abbrev pub left_tables : Lent → Lent → Lent → Tables
left_tables values words seats = tables values words seats

abbrev pub left : Answer → Lent → Lent → Lent → Outcome
left r values words seats = answered r (left_tables values words seats)

-- a step that is lent the words and the seats, or the seats alone: t has the tables that it does not see
abbrev pub lent_locks : Tables → Lent → Lent → Tables
lent_locks t words seats = with_seats (with_words t words) seats

abbrev pub left_locks : Tables → Answer → Lent → Lent → Outcome
left_locks t r words seats = answered r (with_seats (with_words t words) seats)

abbrev pub lent_seats : Tables → Lent → Tables
lent_seats t seats = with_seats t seats

abbrev pub left_seats : Tables → Answer → Lent → Outcome
left_seats t r seats = answered r (with_seats t seats)

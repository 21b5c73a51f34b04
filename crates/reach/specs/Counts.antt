-- Statements. What is counted of a seat, and of an owner's seats, by what the observer has seen.
use Rattle.std.specs.Prelude.{ℕ, Bool, ◌&&◌, eqb, length}
use Rattle.rules.specs.Tests.{count}
use Rattle.rules.specs.Layout.{seat_count}
use Rattle.observer.specs.Observer.{Seen, Observer}

-- how many Advances it has had, how many records it writes, and how many it has first read
abbrev pub advance_count : Seen → ℕ
advance_count x = length x.advances

abbrev pub write_count : Seen → ℕ
write_count x = length x.writes

abbrev pub read_count : Seen → ℕ
read_count x = length x.reads

-- whether it is owner o's, and how many seats an owner holds
abbrev pub is_of : ℕ → Seen → Bool
is_of o x = x.is_open && eqb x.holder o

abbrev pub seats_of : ℕ → Observer → ℕ
seats_of o b = count (λ s. is_of o (b.seats s)) seat_count

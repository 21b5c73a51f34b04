-- One pass over the rows counts the seats that each owner holds, and finds a bad row or the lowest free seat. The tests of Open rest on it.
use Rattle.std.specs.Prelude.{ℕ, ◌<◌, ◌≡◌, false, List, length, get_or, Option, Some, None, unwrap_or}
use Rattle.rules.specs.Tests.{any, count}
use Rattle.rules.specs.Layout.{owners, seat_count, row, phase, owner, share, limit}
use Rattle.rules.specs.Plan.{bad_plan, bad_row, holds, held, claims, is_free, free_seat}
use Rattle.rows.specs.Search.{Passed}

-- the two numbers of a row that the pass looks at
pub record RowOf (seats : List ℕ) (s ph o : ℕ) : Type 0 where
  pub phase_is : ph ≡ phase (row seats s)
  pub owner_is : o ≡ owner (row seats s)

-- AFTER n SEATS
-- what each owner holds of them
pub record Counts (seats counts : List ℕ) (n : ℕ) : Type 0 where
  pub wide : length counts ≡ owners
  pub each : (o : ℕ) → o < owners → get_or counts o 0 ≡ count (holds seats o) n

-- the lowest free seat: none of them is free, or it is found
abbrev pub Lowest : List ℕ → ℕ → Option ℕ → Type 0
Lowest seats n None = Passed (is_free seats) seat_count n
Lowest seats n (Some free) = free ≡ free_seat seats

-- AFTER IT: no row is bad, all seats are counted, and the lowest free one is found
pub record Sound (seats counts : List ℕ) (free : Option ℕ) : Type 0 where
  pub rows_good : any (bad_row seats) seat_count ≡ false
  pub counts_are : Counts seats counts seat_count
  pub free_is : unwrap_or free seat_count ≡ free_seat seats

-- U can be summed up: all seats are counted, and no share is above 64
pub record Planned (seats counts : List ℕ) : Type 0 where
  pub counts_are : Counts seats counts seat_count
  pub plan_good : bad_plan seats ≡ false

-- an owner's numbers, and U
pub record OwnerOf (seats : List ℕ) (o s l h u : ℕ) : Type 0 where
  pub share_is : s ≡ share seats o
  pub limit_is : l ≡ limit seats o
  pub held_is : h ≡ held seats o
  pub claims_is : u ≡ claims seats

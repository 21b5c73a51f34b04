-- Statements. NO QUEUE WITHOUT A FAIR SHARE: what an owner gets from Open, whatever the others have opened, read, written, abandoned or left lying.
use Rattle.std.specs.Prelude.{ℕ, ◌<◌, ◌≤◌, ◌≡◌, ◌≢◌, ◌⊎◌, ◌↔◌, not}
use Rattle.rules.specs.Tests.{count, sum_to}
use Rattle.rules.specs.Layout.{owners, seat_count, row, phase, owner, share, limit, free, working}
use Rattle.rules.specs.Tables.{Tables}
use Rattle.rules.specs.Plan.{held, claims, is_free}
use Rattle.rules.specs.Answers.{seat, kind, number}
use Rattle.rules.specs.Calls.{Open, step}
use Rattle.rules.specs.declared.Answer.{Answer}
use Rattle.rules.specs.declared.Answer.TheVariants.{Refused}
use Rattle.reach.specs.Reached.{Reached, seen}
use Rattle.reach.specs.Counts.{seats_of}

-- what owner o holds, may always have, and may never pass; and U, the seats held or kept back for a share
module _ (t : Tables) where
  abbrev pub holding : ℕ → ℕ
  holding o = held t.seats o

  abbrev pub share_of : ℕ → ℕ
  share_of o = share t.seats o

  abbrev pub limit_of : ℕ → ℕ
  limit_of o = limit t.seats o

  abbrev pub U : ℕ
  U = claims t.seats

  -- the answer to owner o's next Open
  abbrev pub asks : ℕ → Answer
  asks o = (step t (Open o)).answer

-- the seat s that owner o is given: free, with none below it free; then in phase 1 and the owner's
pub record Given (t : Tables) (o s : ℕ) : Type 0 where
  pub in_range : s < seat_count
  pub was_free : phase (row t.seats s) ≡ free
  pub lowest : (j : ℕ) → j < s → phase (row t.seats j) ≢ free
  pub now_open : phase (row (step t (Open o)).tables.seats s) ≡ working
  pub now_owned : owner (row (step t (Open o)).tables.seats s) ≡ o

-- ONE OWNER, a number below sixteen
pub record Fair (t : Tables) (o : ℕ) : Type 0 where
  -- below its share it gets a seat
  pub below_share : holding t o < share_of t o → kind (asks t o) ≡ seat
  -- it is refused 6 exactly where it is at its limit
  pub six : (asks t o ≡ Refused 6) ↔ (holding t o ≡ limit_of t o)
  -- below its limit and not below its share, it is refused 7 exactly where U is 64
  pub seven : holding t o ≢ limit_of t o → share_of t o ≤ holding t o → (asks t o ≡ Refused 7) ↔ (U t ≡ seat_count)
  -- otherwise it gets a seat
  pub else_seat : (kind (asks t o) ≡ seat) ↔ ((holding t o ≢ limit_of t o) × ((holding t o < share_of t o) ⊎ (U t ≢ seat_count)))
  -- the seat is the lowest free one, and is then the owner's
  pub lowest_given : kind (asks t o) ≡ seat → Given t o (number (asks t o))
  -- it never holds more than its limit, and its share is within that limit
  pub within-limit : holding t o ≤ limit_of t o
  pub share-within : share_of t o ≤ limit_of t o

-- ALL OWNERS, over the sixty-four seats
pub record FairShare (t : Tables) (z : Reached t) : Type 0 where
  pub each : (o : ℕ) → o < owners → Fair t o
  -- shares and limits are those of the last Setup that answered ready, and held seats can be told from calls and answers
  pub plan-stays : (o : ℕ) → o < owners → (share_of t o ≡ share (seen z).plan o) × (limit_of t o ≡ limit (seen z).plan o)
  pub held-seen : (o : ℕ) → holding t o ≡ seats_of o (seen z)
  -- any other number is no owner
  pub no_owner : (o : ℕ) → owners ≤ o → asks t o ≡ Refused 2
  -- every seat in use is held by one owner
  pub all_held : count (λ s. not (is_free t.seats s)) seat_count ≡ sum_to (holding t) owners
  -- no limit is above 64, the shares come to no more than 64, and neither does U
  pub limits_fit : (o : ℕ) → o < owners → limit_of t o ≤ seat_count
  pub shares_fit : sum_to (share_of t) owners ≤ seat_count
  pub U-fits : U t ≤ seat_count

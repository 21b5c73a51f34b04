-- Setup and Open: the plan of shares and limits, the seats held under it, and the seat that is given.
use Rattle.std.specs.Prelude.{ℕ, zero, suc, max, List, [], ◌∷◌, Bool, cond, not, ◌&&◌, length, get_or, set, replicate, eqb, ltb, leb}
use Rattle.clock.specs.Word.{top, fresh}
use Rattle.rules.specs.Tests.{first, any, count, sum_to, one_of}
use Rattle.rules.specs.Layout.{owners, seat_count, plan_width, row_width, free, working, storing, phase_at, owner_at, row, put, phase, owner, share, limit}
use Rattle.rules.specs.Tables.{Tables, Outcome, with_words, with_seats, answered, unless}
use Rattle.rules.specs.Refusals.{unsized}
use Rattle.rules.specs.declared.Answer.TheVariants.{Ready, Seat}

-- 11: a share above its limit, a limit above 64, or shares summing above 64
unfoldable pub bad_share : List ℕ → ℕ → Bool
bad_share plan o = one_of (ltb (limit plan o) (share plan o) ∷ ltb seat_count (limit plan o) ∷ [])

unfoldable pub bad_plan : List ℕ → Bool
bad_plan plan = one_of (any (bad_share plan) owners ∷ ltb seat_count (sum_to (share plan) owners) ∷ [])

-- SETUP. 1, then 2 for a start above T, then 11
unfoldable pub setup_refusal : Tables → ℕ → List ℕ → ℕ
setup_refusal t start plan =
    cond (unsized (length t.values) (length t.words) (length t.seats)) 1
    (cond (ltb top start) 2 (cond (bad_plan plan) 11 0))

-- the first n numbers of a plan laid over a table
unfoldable pub laid : List ℕ → List ℕ → ℕ → List ℕ
laid seats plan zero = seats
laid seats plan (suc n) = set (laid seats plan n) n (get_or plan n 0)

-- every word unlocked with both times equal to start, the plan stored, every row free; values stay
unfoldable pub setup : Tables → ℕ → List ℕ → Outcome
setup t start plan =
    unless (setup_refusal t start plan) t
    (answered (Ready (length t.words))
    (with_seats (with_words t (replicate (length t.words) (fresh start))) (laid (replicate (length t.seats) 0) plan plan_width)))

-- the seats that an owner holds: its rows not free
unfoldable pub holds : List ℕ → ℕ → ℕ → Bool
holds seats o s = not (eqb (phase (row seats s)) free) && eqb (owner (row seats s)) o

unfoldable pub held : List ℕ → ℕ → ℕ
held seats o = count (holds seats o) seat_count

-- the greater of held and share; U is their sum over all owners
unfoldable pub claim : List ℕ → ℕ → ℕ
claim seats o = max (held seats o) (share seats o)

unfoldable pub claims : List ℕ → ℕ
claims seats = sum_to (claim seats) owners

-- 3: 'Damaged', for Open: a plan that Setup would refuse, a row with phase above 4, a row not free with owner above 15,
-- an owner holding more than its limit, or U above 64
unfoldable pub bad_row : List ℕ → ℕ → Bool
bad_row seats s =
    one_of (ltb storing (phase (row seats s)) ∷ (not (eqb (phase (row seats s)) free) && leb owners (owner (row seats s))) ∷ [])

unfoldable pub over_limit : List ℕ → ℕ → Bool
over_limit seats o = ltb (limit seats o) (held seats o)

unfoldable pub unsound : List ℕ → Bool
unsound seats =
    one_of (bad_plan seats
    ∷ any (bad_row seats) seat_count
    ∷ any (over_limit seats) owners
    ∷ ltb seat_count (claims seats)
    ∷ [])

-- 7: held is at the share or above, and the unreserved seats are taken
unfoldable pub crowded : List ℕ → ℕ → Bool
crowded seats o = leb (share seats o) (held seats o) && eqb (claims seats) seat_count

-- 6 and 7, by what the owner holds
unfoldable pub owner_refusal : List ℕ → ℕ → ℕ
owner_refusal seats o = cond (leb (limit seats o) (held seats o)) 6 (cond (crowded seats o) 7 0)

-- 3, then 6 and 7; 4 and 5 are not for Open
unfoldable pub plan_refusal : List ℕ → ℕ → ℕ
plan_refusal seats o = cond (unsound seats) 3 (owner_refusal seats o)

-- OPEN. 1, 2 for the owner, then by the plan
unfoldable pub open_refusal : Tables → ℕ → ℕ
open_refusal t o =
    cond (unsized (length t.values) (length t.words) (length t.seats)) 1
    (cond (leb owners o) 2 (plan_refusal t.seats o))

unfoldable pub is_free : List ℕ → ℕ → Bool
is_free seats s = eqb (phase (row seats s)) free

-- the lowest free seat
unfoldable pub free_seat : List ℕ → ℕ
free_seat seats = first (is_free seats) seat_count

-- the first n numbers of a row zero
unfoldable pub cleared : List ℕ → ℕ → ℕ → List ℕ
cleared seats s zero = seats
cleared seats s (suc n) = put (cleared seats s n) s n 0

-- a row freed: zero throughout
abbrev pub freed : List ℕ → ℕ → List ℕ
freed seats s = cleared seats s row_width

-- zeros in the row but for phase and owner
unfoldable pub opened : List ℕ → ℕ → ℕ → List ℕ
opened seats s o = put (put (freed seats s) s phase_at working) s owner_at o

unfoldable pub open_seat : Tables → ℕ → Outcome
open_seat t o =
    unless (open_refusal t o) t
    (let s : ℕ = free_seat t.seats in
    answered (Seat s) (with_seats t (opened t.seats s o)))

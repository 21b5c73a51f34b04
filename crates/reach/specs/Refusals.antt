-- Statements. EVERY REFUSAL, EXACTLY WHEN IT IS DUE: from Setup on, told from calls and answers alone.
use Rattle.std.specs.Prelude.{ℕ, max, ◌≡◌, ◌≢◌, ◌↔◌, Bool, false, cond, not, ◌&&◌, eqb, ltb, leb}
use Rattle.clock.specs.Word.{top}
use Rattle.rules.specs.Tests.{any, sum_to}
use Rattle.rules.specs.Layout.{owners, seat_count, most_reads, most_writes, share, limit}
use Rattle.rules.specs.Tables.{Tables}
use Rattle.rules.specs.Refusals.{misnamed}
use Rattle.rules.specs.Plan.{bad_plan}
use Rattle.rules.specs.Calls.{Call, Setup, Open, Read, Write, Advance, Abandon, step}
use Rattle.rules.specs.declared.Answer.TheVariants.{Refused}
use Rattle.observer.specs.Observer.{Observer, is_written, is_known}
use Rattle.reach.specs.Reached.{Reached, records, seen}
use Rattle.reach.specs.Counts.{advance_count, write_count, read_count, is_of, seats_of}

-- the first number that is due
abbrev pub or_else : ℕ → ℕ → ℕ
or_else n m = cond (eqb n 0) m n

-- n is the number of records, b what has been seen
module _ (n : ℕ) (b : Observer) where
  -- U, the seats held or kept back for a share
  abbrev pub claimed : ℕ
  claimed = sum_to (λ o. max (seats_of o b) (share b.plan o)) owners

  -- some seat was answered Locked for the record, and has neither stored it nor ended since
  abbrev pub is_held : ℕ → Bool
  is_held x = any (λ j. (b.seats j).locked x) seat_count

  -- a call that names a seat: 2, a number out of range, be it the record's (`unknown`); 4, the seat is not that owner's; 5, it comes too late
  unfoldable pub seat_due : ℕ → ℕ → Bool → Bool → ℕ
  seat_due o s unknown late =
      cond (misnamed o s unknown) 2
      (cond (not (is_of o (b.seats s))) 4
      (cond late 5 0))

  -- Read and Write come too late once the seat's first Advance was answered, Abandon once it is Sealed, and Advance never
  abbrev pub has_advanced : ℕ → Bool
  has_advanced s = leb 1 (advance_count (b.seats s))

  -- 8: sixteen records first read, and this one neither read nor written. 10: it is neither read nor written here, and some seat holds it
  unfoldable pub read_due : ℕ → ℕ → ℕ
  read_due s x =
      cond (is_known (b.seats s) x) 0
      (cond (leb most_reads (read_count (b.seats s))) 8
      (cond (is_held x) 10 0))

  -- 9: eight records written, and not this one
  unfoldable pub write_due : ℕ → ℕ → ℕ
  write_due s x = cond (is_written (b.seats s) x) 0 (cond (leb most_writes (write_count (b.seats s))) 9 0)

  -- Open: 2, no owner; 6, at its limit; 7, at its share or above, and the unreserved seats are taken
  unfoldable pub open_due : ℕ → ℕ
  open_due o =
      cond (leb owners o) 2
      (cond (leb (limit b.plan o) (seats_of o b)) 6
      (cond (leb (share b.plan o) (seats_of o b) && eqb claimed seat_count) 7 0))

  -- WHAT A CALL IS REFUSED FOR, by what was told; 0 where it is not refused
  unfoldable pub due : Call → ℕ
  due (Setup start plan) = cond (ltb top start) 2 (cond (bad_plan plan) 11 0)
  due (Open o) = open_due o
  due (Read o s x) = or_else (seat_due o s (leb n x) (has_advanced s)) (read_due s x)
  due (Write o s x value) = or_else (seat_due o s (leb n x) (has_advanced s)) (write_due s x)
  due (Advance o s) = seat_due o s false false
  due (Abandon o s) = seat_due o s false (b.seats s).is_sealed

-- a call is refused m exactly where m is due; so no call is refused for anything else
abbrev pub EveryRefusal : Tables → Type 0
EveryRefusal t = (z : Reached t) (c : Call) (m : ℕ) → ((step t c).answer ≡ Refused m) ↔ ((m ≢ 0) × (due (records z) (seen z) c ≡ m))

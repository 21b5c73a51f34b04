-- The document's word and number for every case of an answer. Promises, the tape and the observer of demand 3 use these.
use Rattle.std.specs.Prelude.{ℕ}
use Prim.Native.String.{String}
use Rattle.rules.specs.declared.Answer.{Answer}
use Rattle.rules.specs.declared.Answer.TheVariants.{Ready, Seat, Value, Noted, Locked, Timed, Checked, Sealed, Stored, Done, Dropped, Refused, Aborted}

-- the document's word, spelled
abbrev pub spelling : Answer → String
spelling (Ready n) = "ready"
spelling (Seat n) = "seat"
spelling (Value n) = "value"
spelling (Noted n) = "noted"
spelling (Locked n) = "locked"
spelling (Timed n) = "timed"
spelling (Checked n) = "checked"
spelling (Sealed n) = "sealed"
spelling (Stored n) = "stored"
spelling (Done n) = "done"
spelling (Dropped n) = "dropped"
spelling (Refused n) = "refused"
spelling (Aborted n) = "aborted"

-- the words, numbered
abbrev pub ready : ℕ
ready = 0

abbrev pub seat : ℕ
seat = 1

abbrev pub value : ℕ
value = 2

abbrev pub noted : ℕ
noted = 3

abbrev pub locked : ℕ
locked = 4

abbrev pub timed : ℕ
timed = 5

abbrev pub checked : ℕ
checked = 6

abbrev pub sealed : ℕ
sealed = 7

abbrev pub stored : ℕ
stored = 8

abbrev pub done : ℕ
done = 9

abbrev pub dropped : ℕ
dropped = 10

abbrev pub refused : ℕ
refused = 11

abbrev pub aborted : ℕ
aborted = 12

-- the number of an answer's word, and the number that it carries
abbrev pub kind : Answer → ℕ
kind (Ready n) = ready
kind (Seat n) = seat
kind (Value n) = value
kind (Noted n) = noted
kind (Locked n) = locked
kind (Timed n) = timed
kind (Checked n) = checked
kind (Sealed n) = sealed
kind (Stored n) = stored
kind (Done n) = done
kind (Dropped n) = dropped
kind (Refused n) = refused
kind (Aborted n) = aborted

abbrev pub number : Answer → ℕ
number (Ready n) = n
number (Seat n) = n
number (Value n) = n
number (Noted n) = n
number (Locked n) = n
number (Timed n) = n
number (Checked n) = n
number (Sealed n) = n
number (Stored n) = n
number (Done n) = n
number (Dropped n) = n
number (Refused n) = n
number (Aborted n) = n

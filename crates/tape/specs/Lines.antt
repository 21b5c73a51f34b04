-- Every byte that a tape prints: one line to each call, and a last line.
use Rattle.std.specs.Prelude.{ℕ, zero, suc, ◌+◌, Bool, true, false, cond, List, [], ◌++◌, eqb, length, get_or, drop, replicate}
use Rattle.text.specs.Text.{bytes, last_line}
use Rattle.rules.specs.Layout.{most_records, seats_length}
use Rattle.rules.specs.Tables.{Tables, tables}
use Rattle.turns.specs.Faults.{no_version, cut_short, stop_line}
use Rattle.turns.specs.Turns.{Turned, waits, stops, says, turn_of}

-- what the program keeps: the calls so far, the offset of the next, the records that Setup gave (0 before it has succeeded), and its tables
pub record State : Type 0 where
  pub calls : ℕ
  pub offset : ℕ
  pub records : ℕ
  pub tables : Tables

-- the next turn, and what is kept after a call more
abbrev pub turn_from : State → List ℕ → Turned
turn_from s t = turn_of (s.calls + 1) s.offset s.records s.tables t

abbrev pub further : State → ℕ → ℕ → Tables → State
further s used records t = record { calls = s.calls + 1; offset = s.offset + used; records = records; tables = t }

-- what the calls of t print, what is kept after them, what is left of t, and whether the tape is stopped
pub record Fed : Type 0 where
  pub text : List ℕ
  pub state : State
  pub left : List ℕ
  pub stopped : Bool

abbrev pub ended : List ℕ → State → List ℕ → Bool → Fed
ended x s t stopped = record { text = x; state = s; left = t; stopped = stopped }

abbrev pub behind : List ℕ → Fed → Fed
behind x f = record { text = x ++ f.text; state = f.state; left = f.left; stopped = f.stopped }

-- in at most n turns; a turn takes two bytes or more, so as many turns as bytes are enough
unfoldable pub fed : ℕ → State → List ℕ → Fed
fed zero s t = ended [] s t false
fed (suc n) s t =
    elim (turn_from s t) [
      | waits ↦ ended [] s t false
      | stops x ↦ ended x s t true
      | says x used records t' ↦ behind x (fed n (further s used records t') (drop used t))
    ]

-- the last line where no call stopped the tape: all of it was read, or a call is cut short
unfoldable pub end_line : Bool → ℕ → ℕ → List ℕ
end_line true calls offset = last_line (bytes "end") calls
end_line false calls offset = stop_line cut_short offset

unfoldable pub last_of : Fed → List ℕ
last_of f = cond f.stopped [] (end_line (eqb (length f.left) 0) f.state.calls f.state.offset)

-- the version byte; the first call stands behind it
abbrev pub version : ℕ
version = 1

abbrev pub first_offset : ℕ
first_offset = 1

-- before the first call: the version byte is read, no Setup has succeeded, and every number is zero
unfoldable pub opening : State
opening =
    record {
      calls = 0;
      offset = first_offset;
      records = 0;
      tables = tables (replicate most_records 0) (replicate most_records 0) (replicate seats_length 0);
    }

-- the lines of the calls of a tape, t being what follows its version byte
unfoldable pub call_lines : List ℕ → List ℕ
call_lines t = let f = fed (length t) opening t in f.text ++ last_of f

-- EVERY BYTE THAT A TAPE PRINTS
unfoldable pub lines_of : List ℕ → List ℕ
lines_of t = cond (eqb (get_or t 0 0) version) (call_lines (drop first_offset t)) (stop_line no_version 0)

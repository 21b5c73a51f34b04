-- One turn at the rest of a tape: more bytes are wanted, the tape is stopped with a line, or a call is answered with a line.
use Rattle.std.specs.Prelude.{ℕ, ◌+◌, List, [], length, take, drop, Result, Ok, Err}
use Rattle.text.specs.Text.{line}
use Rattle.rules.specs.Answers.{number}
use Rattle.rules.specs.Tables.{Tables, Outcome}
use Rattle.rules.specs.declared.Answer.{Answer}
use Rattle.answers.specs.Spelling.{letters_of}
use Rattle.frames.specs.declared.Call.{Call}
use Rattle.frames.specs.declared.BadCall.{BadCall}
use Rattle.frames.specs.declared.BadCall.TheVariants.{Unknown, Misfit}
use Rattle.frames.specs.declared.Frame.{Frame}
use Rattle.frames.specs.declared.Frame.TheVariants.{Nothing, Short, Body}
use Rattle.frames.specs.Decode.{length_size, frame_of, decoded}
use Rattle.turns.specs.declared.Turn.{Turn}
use Rattle.turns.specs.declared.Turn.TheVariants.{Wait, Said, Stop}
use Rattle.turns.specs.Faults.{misfit, unknown_kind, stop_line}
use Rattle.turns.specs.Calls.{performed, records_after}

-- the line of call number n
abbrev pub line_of : ℕ → Answer → List ℕ
line_of n a = line n (letters_of a) (number a)

-- a call of k bytes prints at most line_room * k bytes, and a last line last_room
abbrev pub line_room : ℕ
line_room = 13

abbrev pub last_room : ℕ
last_room = 40

-- a call that is answered has its line, the bytes that it took, the records that are lent from now on, and the tables after it
pub data Turned : Type 0 where
  waits : Turned
  stops : List ℕ → Turned
  says : List ℕ → ℕ → ℕ → Tables → Turned

-- call number n, whose body is b
unfoldable pub call_turn : ℕ → ℕ → Tables → List ℕ → Call → Turned
call_turn n records t b c =
    let o : Outcome = performed records t c b in
    says (line_of n o.answer) (length_size + length b) (records_after records c o.answer) o.tables

-- the turn of a body b, whose length stands at the offset
unfoldable pub body_turn : ℕ → ℕ → ℕ → Tables → List ℕ → Result Call BadCall → Turned
body_turn n offset records t b (Err Unknown) = stops (stop_line unknown_kind offset)
body_turn n offset records t b (Err Misfit) = stops (stop_line misfit offset)
body_turn n offset records t b (Ok c) = call_turn n records t b c

-- the turn at the rest of a tape
unfoldable pub frame_turn : ℕ → ℕ → ℕ → Tables → List ℕ → Frame → Turned
frame_turn n offset records t rest Nothing = waits
frame_turn n offset records t rest Short = waits
frame_turn n offset records t rest (Body k) = let b : List ℕ = take k (drop length_size rest) in body_turn n offset records t b (decoded b)

unfoldable pub turn_of : ℕ → ℕ → ℕ → Tables → List ℕ → Turned
turn_of n offset records t rest = frame_turn n offset records t rest (frame_of rest)

-- the parts of a turn: what the code answers, the line, and the tables after it
abbrev pub turn_is : Turned → Turn
turn_is waits = Wait
turn_is (stops x) = Stop (length x)
turn_is (says x used records t) = Said used (length x) records

abbrev pub turn_text : Turned → List ℕ
turn_text waits = []
turn_text (stops x) = x
turn_text (says x used records t) = x

abbrev pub turn_tables : Turned → Tables → Tables
turn_tables waits t = t
turn_tables (stops x) t = t
turn_tables (says x used records t') t = t'

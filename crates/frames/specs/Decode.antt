-- A call on the tape: a two-byte length of what follows, a kind byte, then fields, all big-endian.
use Rattle.std.specs.Prelude.{ℕ, ◌+◌, ◌*◌, ◌-◌, cond, List, ltb, leb, eqb, length, get_or, Result, Ok, Err}
use Rattle.frames.specs.declared.Call.{Call}
use Rattle.frames.specs.declared.Call.TheVariants.{Setup, Open, Read, Write, Advance, Abandon}
use Rattle.frames.specs.declared.BadCall.{BadCall}
use Rattle.frames.specs.declared.BadCall.TheVariants.{Unknown, Misfit}
use Rattle.frames.specs.declared.Frame.{Frame}
use Rattle.frames.specs.declared.Frame.TheVariants.{Nothing, Short, Body}

-- how many numbers one byte has, two bytes, and four
abbrev pub byte_span : ℕ
byte_span = 256

abbrev pub two_span : ℕ
two_span = byte_span * byte_span

abbrev pub four_span : ℕ
four_span = two_span * two_span

-- big-endian numbers of 2, 4 and 8 bytes from place i on
abbrev pub be16 : List ℕ → ℕ → ℕ
be16 b i = get_or b i 0 * byte_span + get_or b (i + 1) 0

abbrev pub be32 : List ℕ → ℕ → ℕ
be32 b i = be16 b i * two_span + be16 b (i + 2)

abbrev pub be64 : List ℕ → ℕ → ℕ
be64 b i = be32 b i * four_span + be32 b (i + 4)

-- the bytes of a body's length; and a frame has at most so many bytes, since its length is a number of two bytes
abbrev pub length_size : ℕ
length_size = 2

abbrev pub longest : ℕ
longest = length_size + (two_span - 1)

-- what stands at the start of the rest of a tape: nothing, a call that is cut short, or a length and that many bytes
unfoldable pub frame_of : List ℕ → Frame
frame_of t =
    cond (ltb 0 (length t))
    (cond (ltb (length t) length_size) Short (cond (leb (be16 t 0) (length t - length_size)) (Body (be16 t 0)) Short))
    Nothing

-- the kinds
abbrev pub setup_kind : ℕ
setup_kind = 0

abbrev pub open_kind : ℕ
open_kind = 1

abbrev pub read_kind : ℕ
read_kind = 2

abbrev pub write_kind : ℕ
write_kind = 3

abbrev pub advance_kind : ℕ
advance_kind = 4

abbrev pub abandon_kind : ℕ
abandon_kind = 5

-- the bytes of each kind's body, its kind byte counted
abbrev pub setup_size : ℕ
setup_size = 43

abbrev pub open_size : ℕ
open_size = 2

abbrev pub read_size : ℕ
read_size = 5

abbrev pub write_size : ℕ
write_size = 13

abbrev pub seat_size : ℕ
seat_size = 3

-- where Setup's sixteen shares and sixteen limits stand
abbrev pub plan_from : ℕ
plan_from = 11

-- the fields of each kind's body
abbrev pub setup_call : List ℕ → Call
setup_call b = Setup (be16 b 1) (be64 b 3)

abbrev pub open_call : List ℕ → Call
open_call b = Open (get_or b 1 0)

abbrev pub read_call : List ℕ → Call
read_call b = Read (get_or b 1 0) (get_or b 2 0) (be16 b 3)

abbrev pub write_call : List ℕ → Call
write_call b = Write (get_or b 1 0) (get_or b 2 0) (be16 b 3) (be64 b 5)

-- the owner and the seat that an Advance and an Abandon name
abbrev pub seat_of : List ℕ → ℕ × ℕ
seat_of b = (get_or b 1 0, get_or b 2 0)

abbrev pub advance_call : List ℕ → Call
advance_call b = Advance (get_or b 1 0) (get_or b 2 0)

abbrev pub abandon_call : List ℕ → Call
abandon_call b = Abandon (get_or b 1 0) (get_or b 2 0)

-- what a body says that must have n bytes: otherwise 33
abbrev pub sized : {X : Type 0} → ℕ → List ℕ → X → Result X BadCall
sized n b c = cond (eqb (length b) n) (Ok c) (Err Misfit)

-- a body by its kind; 34 where the kind is unknown
unfoldable pub by_kind : ℕ → List ℕ → Result Call BadCall
by_kind k b =
    cond (eqb k setup_kind) (sized setup_size b (setup_call b))
    (cond (eqb k open_kind) (sized open_size b (open_call b))
    (cond (eqb k read_kind) (sized read_size b (read_call b))
    (cond (eqb k write_kind) (sized write_size b (write_call b))
    (cond (eqb k advance_kind) (sized seat_size b (advance_call b))
    (cond (eqb k abandon_kind) (sized seat_size b (abandon_call b))
    (Err Unknown))))))

-- a body: the call, or the fault. A length of 0 is 33
unfoldable pub decoded : List ℕ → Result Call BadCall
decoded b = cond (ltb 0 (length b)) (by_kind (get_or b 0 0) b) (Err Misfit)

-- The kinds of calls, by the kind byte.
use Rattle.std.specs.Prelude.{ℕ, cond, List, eqb, Result, Ok, Err}
use Rattle.frames.specs.declared.Call.{Call}
use Rattle.frames.specs.declared.Kind.{Kind}
use Rattle.frames.specs.declared.Kind.TheVariants.{Setup, Open, Read, Write, Advance, Abandon}
use Rattle.frames.specs.declared.BadCall.{BadCall}
use Rattle.frames.specs.declared.BadCall.TheVariants.{Unknown}
use Rattle.frames.specs.Decode.{setup_size, open_size, read_size, write_size, seat_size, sized}
use Rattle.frames.specs.Decode.{setup_call, open_call, read_call, write_call, advance_call, abandon_call}
use Rattle.frames.specs.Decode.{setup_kind, open_kind, read_kind, write_kind, advance_kind, abandon_kind}

-- the kind of a byte; 34 where it is unknown
unfoldable pub kind_of : ℕ → Result Kind BadCall
kind_of k =
    cond (eqb k setup_kind) (Ok Setup)
    (cond (eqb k open_kind) (Ok Open)
    (cond (eqb k read_kind) (Ok Read)
    (cond (eqb k write_kind) (Ok Write)
    (cond (eqb k advance_kind) (Ok Advance)
    (cond (eqb k abandon_kind) (Ok Abandon)
    (Err Unknown))))))

-- the call that a body of a kind is, or its fault
abbrev pub call_of : Kind → List ℕ → Result Call BadCall
call_of Setup b = sized setup_size b (setup_call b)
call_of Open b = sized open_size b (open_call b)
call_of Read b = sized read_size b (read_call b)
call_of Write b = sized write_size b (write_call b)
call_of Advance b = sized seat_size b (advance_call b)
call_of Abandon b = sized seat_size b (abandon_call b)

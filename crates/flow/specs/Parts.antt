-- 'The tape and its program', for a tape that comes in parts: where it stands between two of them, and what each prints.
use Rattle.std.specs.Prelude.{ℕ, Bool, true, false, cond, List, [], ◌∷◌, ◌++◌, eqb, length, get_or, drop}
use Rattle.turns.specs.Faults.{no_version, stop_line}
use Rattle.tape.specs.Lines.{State, Fed, fed, end_line, version, first_offset, opening}

-- where a tape stands between two parts of it
pub record Stand : Type 0 where
  -- its version byte was read, and was 1
  pub begun : Bool
  -- its last line is printed
  pub stopped : Bool
  -- the calls so far, the offset of the next, the records that Setup gave, and the tables
  pub state : State
  -- the bytes that wait for more
  pub left : List ℕ

-- what a part prints, and where the tape then stands
pub record Step : Type 0 where
  pub text : List ℕ
  pub stand : Stand

-- before any part: no byte is read
abbrev pub start : Stand
start = record { begun = false; stopped = false; state = opening; left = [] }

-- the calls of the bytes t
abbrev pub onward : State → List ℕ → Step
onward s t =
    let f : Fed = fed (length t) s t in
    record { text = f.text; stand = record { begun = true; stopped = f.stopped; state = f.state; left = f.left } }

-- the first bytes of a tape: none yet, so it waits; a version byte 1, and the calls behind it; or another
unfoldable pub opened : State → List ℕ → Step
opened s t =
    cond (eqb (length t) 0) (record { text = []; stand = record { begun = false; stopped = false; state = s; left = [] } })
    (cond (eqb (get_or t 0 0) version) (onward s (drop first_offset t))
    (record { text = stop_line no_version 0; stand = record { begun = false; stopped = true; state = s; left = [] } }))

-- a part behind the bytes that wait; once the tape is stopped, nothing more is printed
unfoldable pub stepped : Stand → List ℕ → Step
stepped s part =
    cond s.stopped (record { text = []; stand = s })
    (cond s.begun (onward s.state (s.left ++ part)) (opened s.state (s.left ++ part)))

-- what is printed where the tape ends: the last line, unless it is printed already
unfoldable pub closing : Bool → Bool → ℕ → ℕ → ℕ → List ℕ
closing begun stopped waiting calls offset = cond stopped [] (cond begun (end_line (eqb waiting 0) calls offset) (stop_line no_version 0))

abbrev pub last_text : Stand → List ℕ
last_text s = closing s.begun s.stopped (length s.left) s.state.calls s.state.offset

-- EVERY BYTE THAT A TAPE PRINTS, part by part, and then at its end
unfoldable pub printed : Stand → List (List ℕ) → List ℕ
printed s [] = last_text s
printed s (p ∷ ps) = let o : Step = stepped s p in o.text ++ printed o.stand ps

-- the whole tape
abbrev pub joined : List (List ℕ) → List ℕ
joined [] = []
joined (p ∷ ps) = p ++ joined ps

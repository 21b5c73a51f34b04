-- 'The tape and its program': what stops a tape, by its number, and the last line that tells it.
use Rattle.std.specs.Prelude.{ℕ, List, ◌++◌}
use Rattle.text.specs.Text.{bytes, decimal, last_line}
use Rattle.frames.specs.declared.BadCall.{BadCall}
use Rattle.frames.specs.declared.BadCall.TheVariants as bad
use Rattle.turns.specs.declared.Fault.{Fault}
use Rattle.turns.specs.declared.Fault.TheVariants.{NoVersion, CutShort, Misfit, Unknown}

-- no version byte 1; a call that is cut short; a length that its kind does not have; a kind that is not known
abbrev pub no_version : ℕ
no_version = 31

abbrev pub cut_short : ℕ
cut_short = 32

abbrev pub misfit : ℕ
misfit = 33

abbrev pub unknown_kind : ℕ
unknown_kind = 34

abbrev pub fault_of : Fault → ℕ
fault_of NoVersion = no_version
fault_of CutShort = cut_short
fault_of Misfit = misfit
fault_of Unknown = unknown_kind

-- the fault of a body that is no call
abbrev pub fault_for : BadCall → Fault
fault_for bad.Unknown = Unknown
fault_for bad.Misfit = Misfit

-- the last line of a bad tape: the fault, and the offset of the version byte or of that call's length
unfoldable pub stop_line : ℕ → ℕ → List ℕ
stop_line fault offset = last_line (bytes "stopped " ++ decimal fault) offset

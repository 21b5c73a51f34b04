-- What each public function promises of its result `r`, one statement a function; `NAME-one` says that the statement leaves one result.
use Rattle.std.specs.Prelude.{ℕ, ◌≡◌, List, Result}
use Rattle.std.proofs.Common.{sym, ◌∙◌}
use Rattle.frames.specs.declared.Call.{Call}
use Rattle.frames.specs.declared.BadCall.{BadCall}
use Rattle.frames.specs.declared.Frame.{Frame}
use Rattle.frames.specs.Decode.{frame_of, decoded}

-- what stands at the start of the rest of a tape
abbrev pub FrameIs : List ℕ → Frame → Type 0
FrameIs t r = r ≡ frame_of t

pub FrameIs-one : (t : List ℕ) (r q : Frame) → FrameIs t r → FrameIs t q → r ≡ q
FrameIs-one t r q e f = e ∙ sym f

-- the call that a body is, or its fault
abbrev pub CallIs : List ℕ → Result Call BadCall → Type 0
CallIs b r = r ≡ decoded b

pub CallIs-one : (b : List ℕ) (r q : Result Call BadCall) → CallIs b r → CallIs b q → r ≡ q
CallIs-one b r q e f = e ∙ sym f

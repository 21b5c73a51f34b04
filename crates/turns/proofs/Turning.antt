-- One turn: a call that was answered, a fault, a body that has its plan, a frame that lies within the tape. Assumes nothing.
use Rattle.std.specs.Prelude.{ℕ, ◌+◌, ◌≤◌, ◌≡◌, refl, List, length, Ok, Err}
use Rattle.std.proofs.Common.{ap, subst}
use Rattle.text.specs.Text.{Appended}
use Rattle.rules.specs.Tables as rule
use Rattle.rules.specs.declared.Answer.{Answer}
use Rattle.frames.specs.declared.Call.{Call}
use Rattle.frames.specs.declared.BadCall.{BadCall}
use Rattle.frames.specs.declared.BadCall.TheVariants.{Unknown, Misfit}
use Rattle.frames.specs.declared.Frame.{Frame}
use Rattle.frames.specs.declared.Frame.TheVariants.{Nothing, Short, Body}
use Rattle.frames.specs.Decode.{length_size, frame_of, decoded}
use Rattle.turns.specs.declared.Tables.{Tables}
use Rattle.turns.specs.declared.Turn.TheVariants.{Wait, Said, Stop}
use Rattle.turns.specs.Lent.{lent_in, Answered}
use Rattle.turns.specs.Calls.{PlanFits, performed, records_after}
use Rattle.turns.specs.Faults.{fault_of, fault_for, stop_line}
use Rattle.turns.specs.Turns.{stops, line_of, call_turn, body_turn, frame_turn}
use Rattle.turns.specs.Promises.{Taken}
use Rattle.turns.specs.Laws.{stay_long, Fits, fits, Inside, inside, put-nothing}

-- a call that was answered
pub call_taken : (n records : ℕ) (t : Tables) (c : Call) (b : List ℕ) {a : Answer} {t' : Tables} {len lent at : ℕ} {out out' : List ℕ}
    → Answered (performed records (lent_in t) c b) t a t' → Appended out at (line_of n a) len out' → lent ≡ records_after records c a
    → Taken (call_turn n records (lent_in t) b c) t out at (Said (length_size + length b) len lent) t' out'
unfolding call_turn
call_taken n records t c b e p k = rw (← e.answer) record { turn = rw (p.size, k); tables = e.tables; text = p.text; lengths = e.lengths }

-- a fault that stops the tape
pub stop_taken : {x : List ℕ} {t : Tables} {len at : ℕ} {out out' : List ℕ} → Appended out at x len out' → Taken (stops x) t out at (Stop len) t out'
stop_taken p = record { turn = ap Stop p.size; tables = refl; text = p.text; lengths = stay_long }

-- a body that is no call
pub bad_turn : (n offset records : ℕ) (t : rule.Tables) (b : List ℕ) (e : BadCall)
    → body_turn n offset records t b (Err e) ≡ stops (stop_line (fault_of (fault_for e)) offset)
unfolding body_turn
bad_turn n offset records t b Unknown = refl
bad_turn n offset records t b Misfit = refl

-- where no body stands, more bytes are wanted
pub waits_for : (n offset records : ℕ) {at : ℕ} {t : Tables} (rest : List ℕ) {out : List ℕ} (f : Frame) → ((k : ℕ) → f ≡ Body k → ⊥)
    → Taken (frame_turn n offset records (lent_in t) rest f) t out at Wait t out
unfolding frame_turn
waits_for n offset records rest Nothing h = record { turn = refl; tables = refl; text = put-nothing _ _; lengths = stay_long }
waits_for n offset records rest Short h = record { turn = refl; tables = refl; text = put-nothing _ _; lengths = stay_long }
waits_for n offset records rest (Body k) h = absurd (h k refl)

-- a Setup's body has its plan
pub plan-fits : (b : List ℕ) (c : Call) → decoded b ≡ Ok c → PlanFits c b
plan-fits b c e = (subst (Fits b) e (fits b)).0

-- a frame's body lies within the tape
pub body_inside : (t : List ℕ) (n : ℕ) → frame_of t ≡ Body n → length_size + n ≤ length t
body_inside t n e = (subst (Inside t) e (inside t)).0

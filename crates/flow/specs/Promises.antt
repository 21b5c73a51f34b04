-- The statement of each public function, and that it leaves one answer and one content of what is lent.
use Rattle.std.specs.Prelude.{ℕ, ◌<◌, ◌≡◌, refl, Bool, true, false, List, [], length, take}
use Rattle.std.proofs.Common.{sym, ◌∙◌}
use Rattle.text.specs.Text.{put_in}
use Rattle.rules.specs.Tables as rule
use Rattle.frames.specs.Decode.{longest}
use Rattle.turns.specs.declared.Tables.{Tables}
use Rattle.turns.specs.Lent.{lent_in, with_lent, SameLengths}
use Rattle.tape.specs.Inner.{state_of, counts_in}
use Rattle.tape.specs.Promises.{at_front, part, unfit_for, Leaves, Leaves-one}
use Rattle.flow.specs.declared.Flow.{Flow}
use Rattle.flow.specs.Parts.{Stand, Step, start, stepped, closing}

-- A FLOW'S STAND, over the program's tables and its buffer, at whose front the bytes wait
abbrev pub stand_of : Flow → rule.Tables → List ℕ → Stand
stand_of f t buffer = record { begun = f.begun; stopped = f.stopped; state = state_of f.counts t; left = take f.waiting buffer }

-- the flow of a step, whose text is still to be written
abbrev pub flow_of : Step → Flow
flow_of o =
    record {
      begun = o.stand.begun;
      stopped = o.stand.stopped;
      waiting = length o.stand.left;
      counts = counts_in o.stand.state;
      end = length o.text;
    }

-- `start`: no byte is read, and nothing is to be written
abbrev pub Started : Flow → Type 0
Started r = r ≡ flow_of (record { text = []; stand = start })

pub Started-one : {r q : Flow} → Started r → Started q → r ≡ q
Started-one p q = p ∙ sym q

-- `step`: what `stepped` says of the part from the waiting bytes up to `to`. What then waits stands at the buffer's front, and the text stands at
-- the front of the output. Where a length or a number is unfit, nothing is done, and the tape is stopped
abbrev pub halted_at : Flow → Flow
halted_at f = record { begun = f.begun; stopped = true; waiting = f.waiting; counts = f.counts; end = 0 }

abbrev pub unready : Flow → List ℕ → ℕ → rule.Tables → List ℕ → Bool
unready f buffer to t out = unfit_for buffer f.waiting to f.counts t out

abbrev pub Went : Step → List ℕ → Tables → List ℕ → Flow → List ℕ → Tables → List ℕ → Type 0
Went o buffer t out = Leaves (flow_of o) (at_front o.stand.left buffer) (with_lent t o.stand.state.tables) (at_front o.text out)

pub record Stepped (f : Flow) (buffer : List ℕ) (to : ℕ) (t : Tables) (out : List ℕ) (r : Flow) (buffer' : List ℕ) (t' : Tables) (out' : List ℕ)
    : Type 0 where
  pub done : unready f buffer to (lent_in t) out ≡ false →
      Went (stepped (stand_of f (lent_in t) buffer) (part buffer f.waiting to)) buffer t out r buffer' t' out'
  pub refused : unready f buffer to (lent_in t) out ≡ true → Leaves (halted_at f) buffer t out r buffer' t' out'
  pub short : r.stopped ≡ false → r.waiting < longest
  pub lengths : SameLengths t t'

pub Stepped-one : {f : Flow} {buffer : List ℕ} {to : ℕ} {t : Tables} {out : List ℕ} {r q : Flow} {b₁ b₂ : List ℕ} {t₁ t₂ : Tables} {o₁ o₂ : List ℕ}
    → Stepped f buffer to t out r b₁ t₁ o₁ → Stepped f buffer to t out q b₂ t₂ o₂ → (r ≡ q) × (b₁ ≡ b₂) × (t₁ ≡ t₂) × (o₁ ≡ o₂)
Stepped-one {f} {buffer} {to} {t} {out} {r} {q} {b₁} {b₂} {t₁} {t₂} {o₁} {o₂} a b = go (unready f buffer to (lent_in t) out) refl
  where
    go : (bad : Bool) → unready f buffer to (lent_in t) out ≡ bad → (r ≡ q) × (b₁ ≡ b₂) × (t₁ ≡ t₂) × (o₁ ≡ o₂)
    go true e = Leaves-one (a.refused e) (b.refused e)
    go false e = Leaves-one (a.done e) (b.done e)

-- `finish`: what is printed where the tape ends there, put into the output where it fits, and its length
abbrev pub closing_of : Flow → List ℕ
closing_of f = closing f.begun f.stopped f.waiting f.counts.calls f.counts.offset

pub record Finished (f : Flow) (out : List ℕ) (r : ℕ) (out' : List ℕ) : Type 0 where
  pub size : r ≡ length (closing_of f)
  pub text : out' ≡ put_in out 0 (closing_of f)

pub Finished-one : {f : Flow} {out : List ℕ} {r q : ℕ} {a b : List ℕ} → Finished f out r a → Finished f out q b → (r ≡ q) × (a ≡ b)
Finished-one p q = (p.size ∙ sym q.size, p.text ∙ sym q.text)

-- WHAT THE INNER FUNCTIONS LEAVE: a step, and fewer bytes that wait than the longest frame has
pub record Goes (o : Step) (buffer : List ℕ) (t : Tables) (out : List ℕ) (r : Flow) (buffer' : List ℕ) (t' : Tables) (out' : List ℕ) : Type 0 where
  pub went : Went o buffer t out r buffer' t' out'
  pub short : r.stopped ≡ false → r.waiting < longest
  pub lengths : SameLengths t t'

-- a flow that has read no version byte 1
abbrev pub unbegun_at : Flow → Bool → ℕ → Flow
unbegun_at f stopped end = record { begun = false; stopped = stopped; waiting = 0; counts = f.counts; end = end }

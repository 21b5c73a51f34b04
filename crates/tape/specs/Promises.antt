-- The statement of each public function, and that it leaves one answer and one content of what is lent.
use Rattle.std.specs.Prelude.{ℕ, ◌+◌, ◌-◌, ◌*◌, ◌^◌, ◌<◌, ◌≡◌, refl, Bool, true, false, cond, not, List, [], ◌∷◌, ◌++◌, eqb, leb, ltb, length, take, drop}
use Rattle.std.proofs.Common.{sym, ◌∙◌}
use Rattle.text.specs.Text.{greatest, put_in}
use Rattle.rules.specs.Tests.{one_of}
use Rattle.rules.specs.Layout.{most_records}
use Rattle.rules.specs.Tables as rule
use Rattle.frames.specs.Decode.{longest}
use Rattle.turns.specs.declared.Tables.{Tables}
use Rattle.turns.specs.Lent.{lent_in, with_lent, SameLengths}
use Rattle.turns.specs.Turns.{line_room, last_room}
use Rattle.tape.specs.declared.Intake.{Intake}
use Rattle.tape.specs.declared.Counts.{Counts}
use Rattle.tape.specs.Lines.{Fed, fed, lines_of}
use Rattle.tape.specs.Inner.{state_of, counts_in, capped}

-- bytes at the front of a buffer, whose other bytes stay
abbrev pub at_front : List ℕ → List ℕ → List ℕ
at_front xs buffer = xs ++ drop (length xs) buffer

-- `run`: the lines of a tape in a buffer; where they do not fit, all is as it was, and the answer is the greatest number
abbrev pub fits_in : List ℕ → List ℕ → Bool
fits_in xs buffer = leb (length xs) (length buffer)

pub record Written (t out : List ℕ) (r : ℕ) (out' : List ℕ) : Type 0 where
  pub count : r ≡ cond (fits_in (lines_of t) out) (length (lines_of t)) greatest
  pub buffer : out' ≡ cond (fits_in (lines_of t) out) (at_front (lines_of t) out) out

pub Written-one : {t out : List ℕ} {r q : ℕ} {a b : List ℕ} → Written t out r a → Written t out q b → (r ≡ q) × (a ≡ b)
Written-one p q = (p.count ∙ sym q.count, p.buffer ∙ sym q.buffer)

-- `finish`: a text put into a buffer at `at`, where it fits, and where it then ends
pub record Closed (out : List ℕ) (at : ℕ) (xs : List ℕ) (r : ℕ) (out' : List ℕ) : Type 0 where
  pub end : r ≡ capped at (length xs)
  pub text : out' ≡ put_in out at xs

pub Closed-one : {out : List ℕ} {at : ℕ} {xs : List ℕ} {r q : ℕ} {a b : List ℕ} → Closed out at xs r a → Closed out at xs q b → (r ≡ q) × (a ≡ b)
Closed-one p q = (p.end ∙ sym q.end, p.text ∙ sym q.text)

-- `is_unfit`: a buffer's part is not to be absorbed where a length is wrong, where a number may pass its end, or where the lines may not
-- have room
abbrev pub far_off : ℕ
far_off = 2 ^ 62

abbrev pub room_for : ℕ → ℕ
room_for n = line_room * n + last_room

unfoldable pub unfit : ℕ → ℕ → ℕ → Counts → ℕ → ℕ → ℕ → Bool
unfit buffer from to k values words out =
    one_of (ltb buffer to
    ∷ ltb to from
    ∷ ltb far_off k.calls
    ∷ ltb far_off k.offset
    ∷ ltb most_records k.records
    ∷ not (eqb values most_records)
    ∷ not (eqb words most_records)
    ∷ ltb out (room_for to)
    ∷ [])

abbrev pub Unfit : ℕ → ℕ → ℕ → Counts → ℕ → ℕ → ℕ → Bool → Type 0
Unfit buffer from to k values words out r = r ≡ unfit buffer from to k values words out

pub Unfit-one : (buffer from to : ℕ) (k : Counts) (values words out : ℕ) {r q : Bool}
    → Unfit buffer from to k values words out r → Unfit buffer from to k values words out q → r ≡ q
Unfit-one buffer from to k values words out p q = p ∙ sym q

-- `absorb`: what `fed` says of the bytes from `from` up to `to`. What is left of them stands at the buffer's front, and the lines stand at the
-- front of the output. Where they are unfit, nothing is done, and the tape is stopped
abbrev pub part : List ℕ → ℕ → ℕ → List ℕ
part l from to = take (to - from) (drop from l)

abbrev pub intake_of : Fed → Intake
intake_of f =
    record {
      waiting = length f.left;
      counts = counts_in f.state;
      end = length f.text;
      stopped = f.stopped;
    }

abbrev pub halted : Counts → Intake
halted k = record { waiting = 0; counts = k; end = 0; stopped = true }

-- an answer, and what is left of the buffer, the tables and the output that were lent
pub record Leaves {R : Type 0} (answer : R) (buffer : List ℕ) (t : Tables) (out : List ℕ) (r : R) (buffer' : List ℕ) (t' : Tables) (out' : List ℕ)
    : Type 0 where
  pub answer_is : r ≡ answer
  pub buffer_is : buffer' ≡ buffer
  pub tables_are : t' ≡ t
  pub out_is : out' ≡ out

pub Leaves-one : {R : Type 0} {answer : R} {buffer : List ℕ} {t : Tables} {out : List ℕ} {r q : R} {b₁ b₂ : List ℕ} {t₁ t₂ : Tables} {o₁ o₂ : List ℕ}
    → Leaves answer buffer t out r b₁ t₁ o₁ → Leaves answer buffer t out q b₂ t₂ o₂ → (r ≡ q) × (b₁ ≡ b₂) × (t₁ ≡ t₂) × (o₁ ≡ o₂)
Leaves-one a b = (
  a.answer_is ∙ sym b.answer_is,
  a.buffer_is ∙ sym b.buffer_is,
  a.tables_are ∙ sym b.tables_are,
  a.out_is ∙ sym b.out_is,
)

-- whether the part is unfit, of the buffers and the tables themselves
abbrev pub unfit_for : List ℕ → ℕ → ℕ → Counts → rule.Tables → List ℕ → Bool
unfit_for buffer from to k t out = unfit (length buffer) from to k (length t.values) (length t.words) (length out)

pub record Absorbed (buffer : List ℕ) (from to : ℕ) (k : Counts) (t : Tables) (out : List ℕ)
    (r : Intake) (buffer' : List ℕ) (t' : Tables) (out' : List ℕ) : Type 0 where
  pub done : unfit_for buffer from to k (lent_in t) out ≡ false →
      let f : Fed = fed (length (part buffer from to)) (state_of k (lent_in t)) (part buffer from to) in
      Leaves (intake_of f) (at_front f.left buffer) (with_lent t f.state.tables) (at_front f.text out) r buffer' t' out'
  pub refused : unfit_for buffer from to k (lent_in t) out ≡ true → Leaves (halted k) buffer t out r buffer' t' out'
  pub short : r.stopped ≡ false → r.waiting < longest
  pub lengths : SameLengths t t'

pub Absorbed-one : {buffer : List ℕ} {from to : ℕ} {k : Counts} {t : Tables} {out : List ℕ} {r q : Intake} {b₁ b₂ : List ℕ} {t₁ t₂ : Tables} {o₁ o₂ : List ℕ}
    → Absorbed buffer from to k t out r b₁ t₁ o₁ → Absorbed buffer from to k t out q b₂ t₂ o₂ → (r ≡ q) × (b₁ ≡ b₂) × (t₁ ≡ t₂) × (o₁ ≡ o₂)
Absorbed-one {buffer} {from} {to} {k} {t} {out} {r} {q} {b₁} {b₂} {t₁} {t₂} {o₁} {o₂} a b = go (unfit_for buffer from to k (lent_in t) out) refl
  where
    go : (bad : Bool) → unfit_for buffer from to k (lent_in t) out ≡ bad → (r ≡ q) × (b₁ ≡ b₂) × (t₁ ≡ t₂) × (o₁ ≡ o₂)
    go true e = Leaves-one (a.refused e) (b.refused e)
    go false e = Leaves-one (a.done e) (b.done e)

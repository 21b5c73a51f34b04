-- Worked cases, computed: Tape X, whose late finisher comes first; P8, of whose two one is aborted; and a tie, which only the order of sealing breaks.
-- The histories are those that the rules' own cases come to; what the observer makes of them is computed here.
use Rattle.std.specs.Prelude.{ℕ, ◌≡◌, refl, List, [], ◌∷◌}
use Rattle.std.proofs.Common.{sym, ap, ◌∙◌, arith, ne_eqb}
use mathlib.Core.List.Memᴰ.{eq_of_singleton}
use mathlib.Core.List.Memᴰ.{head as here}
use mathlib.Core.List.Memᴰ.{not-nil}
use Rattle.std.proofs.Math.Decide.{ℕ_discrete}
use Rattle.rules.specs.Tables.{Tables}
use Rattle.rules.specs.Advance.{effect}
use Rattle.rules.specs.Calls.{Call, Open, Read, Write, Advance, step, Event, history, told, answers}
use Rattle.cases.specs.Quick.{quick_history_lem}
use Rattle.cases.specs.Cases.{blank, plan, computed, Case, tape, Plays, P8, TapeX, table, tape_x}
use Rattle.rules.specs.declared.Answer.{Answer}
use Rattle.rules.specs.declared.Answer.TheVariants.{Ready, Seat, Value, Noted, Locked, Timed, Checked, Sealed, Stored, Done}
use Rattle.observer.specs.Observer.{FirstRead, Transaction, Observer, nothing, has, is_known, on_read}
use Rattle.observer.specs.Observer.{folded, renewed, inserted, on_write, on_advance, on_abandon}
use Rattle.observer.specs.Observer.{changed, observe, observed}
use Rattle.serial.specs.Statement.{Values, precedes, ranked, all_ranked, serial, written, values_after_all, Right, AllStored}

-- calls with answers, and that a history is its calls with its answers
unfoldable pub paired : List Call → List Answer → List Event
paired [] l = []
paired (c ∷ cs) [] = []
paired (c ∷ cs) (a ∷ l) = record { call = c; answer = a } ∷ paired cs l

history-paired : (t : Tables) (cs : List Call) → history t cs ≡ paired cs (answers t cs)
unfolding history told paired
history-paired t [] = refl
history-paired t (c ∷ cs) = ap (λ (es : List Event). record { call = c; answer = (step t c).answer } ∷ es) (history-paired (step t c).tables cs)

-- the events of a case, and what is observed of them
abbrev pub events : Case → List Event
events c = paired (tape c) (Ready 2 ∷ c.due)

case_history : (c : Case) → Plays c → history blank (tape c) ≡ events c
case_history c p = history-paired blank (tape c) ∙ ap (paired (tape c)) p

abbrev pub seen : Case → Observer
seen c = observed nothing (events c)

-- the opening values
abbrev pub zeros : Values
zeros item = 0

-- what the observer computes with
unfoldable pub observing : Unit {0}
unfolding plan paired has is_known on_read folded renewed inserted on_write on_advance on_abandon changed observe observed precedes ranked all_ranked
observing = tt

-- TAPE X
pub x_history : history blank (tape TapeX) ≡ events TapeX
x_history = case_history TapeX tape_x

-- seat 1 writes 7, and is sealed first; seat 0 has read 0
abbrev pub writer : Transaction
writer = record { time = 3; key = 3; reads = []; writes = record { item = 0; value = 7 } ∷ [] }

abbrev pub reader : Transaction
reader = record { time = 2; key = 2; reads = record { item = 0; value = 0 } ∷ []; writes = [] }

pub x_sealed : (seen TapeX).sealed ≡ writer ∷ reader ∷ []
unfolding observing
x_sealed = refl

-- the late finisher comes first
pub x_serial : serial (seen TapeX).sealed ≡ reader ∷ writer ∷ []
unfolding observing
x_serial = refl

pub x_right : Right (reader ∷ writer ∷ []) zeros
unfolding Right written
x_right = (λ e i. ap (λ (z : FirstRead). z.value) (sym (eq_of_singleton i)), (λ e i. absurd (not-nil i), tt))

pub x_final : values_after_all (reader ∷ writer ∷ []) zeros 0 ≡ 7
unfolding values_after_all written effect
x_final = refl

pub x_stored : AllStored (seen TapeX)
unfolding observing
x_stored s l = go (ℕ_discrete s 0) (ℕ_discrete s 1)
  where
    go : Dec (s ≡ 0) → Dec (s ≡ 1) → ((seen TapeX).seats s).left ≡ 0
    go (yes e) d = rw e refl
    go (no a) (yes e) = rw e refl
    go (no a) (no b) = simp (ne_eqb s 0 a, ne_eqb s 1 b)

-- run in the order of sealing, the reader would have been told 7
pub x_wrong : Right (seen TapeX).sealed zeros → ⊥
unfolding observing Right written effect
x_wrong r = let z : ◌≡◌ {A = ℕ} 7 0 = r.1.0 (record { item = 0; value = 0 }) (here refl) in omega arith

-- P8: A is aborted and leaves nothing, B is sealed
pub p8_history : history blank (tape P8) ≡ events P8
p8_history = case_history P8 table.4

abbrev pub B : Transaction
B = record { time = 1; key = 1; reads = record { item = 1; value = 0 } ∷ []; writes = record { item = 0; value = 6 } ∷ [] }

pub p8_sealed : (seen P8).sealed ≡ B ∷ []
unfolding observing
p8_sealed = refl

-- A TIE: what one stores another reads, and both have the time of the store
abbrev pub Tie : Case
Tie =
    record {
      start = 0;
      calls =
          Open 0 ∷ Write 0 0 0 6 ∷ Advance 0 0 ∷ Advance 0 0 ∷ Advance 0 0 ∷ Advance 0 0 ∷ Advance 0 0
          ∷ Open 0 ∷ Read 0 0 0 ∷ Advance 0 0 ∷ Advance 0 0 ∷ Advance 0 0 ∷ Advance 0 0 ∷ [];
      due =
          Seat 0 ∷ Noted 0 ∷ Locked 0 ∷ Timed 1 ∷ Sealed 1 ∷ Stored 0 ∷ Done 1
          ∷ Seat 0 ∷ Value 6 ∷ Timed 1 ∷ Checked 0 ∷ Sealed 1 ∷ Done 1 ∷ [];
    }

pub tie_history : history blank (tape Tie) ≡ events Tie
unfolding computed
tie_history = case_history Tie (ap told (quick_history_lem blank (tape Tie)))

abbrev pub earlier : Transaction
earlier = record { time = 1; key = 1; reads = []; writes = record { item = 0; value = 6 } ∷ [] }

abbrev pub later : Transaction
later = record { time = 1; key = 1; reads = record { item = 0; value = 6 } ∷ []; writes = [] }

pub tie_serial : serial (seen Tie).sealed ≡ earlier ∷ later ∷ []
unfolding observing
tie_serial = refl

-- the other way round, the reader would have been told 0
pub tie_wrong : Right (later ∷ earlier ∷ []) zeros → ⊥
unfolding Right
tie_wrong r = let z : ◌≡◌ {A = ℕ} 0 6 = r.0 (record { item = 0; value = 6 }) (here refl) in omega arith

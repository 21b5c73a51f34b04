-- What callers may rest on: what a turn takes of the tape, how long its line is, and how many records it lends. Assumes nothing.
use Rattle.std.specs.Prelude.{ℕ, zero, suc, ◌+◌, ◌-◌, ◌*◌, ◌/◌, ◌≤◌, ◌<◌, ◌≡◌, refl, Bool, true, false, cond, ltb, leb, eqb}
use Rattle.std.specs.Prelude.{List, [], ◌++◌, length, take, drop, get_or, Result, Ok, Err}
use Rattle.std.proofs.Common.{arith, ◌∙◌, ap, subst, length-append, lt-ltb, le-ltb}
use Rattle.std.proofs.lemmas.List.{length-drop, length-take-le}
use Rattle.std.proofs.lemmas.Bool.{eqb-true, leb-true, leb-false, ltb-true, ltb-false}
use Rattle.text.specs.Text.{width_of, width_in, decimal, bytes, put_in}
use Rattle.text.specs.Puts.{length-line, length_last, length-decimal}
use Rattle.rules.specs.Layout.{most_records, plan_width}
use Rattle.rules.specs.Answers.{kind, number, ready}
use Rattle.rules.specs.Tables.{Tables, answered}
use Rattle.rules.specs.Calls as rule
use Rattle.rules.specs.declared.Answer.{Answer}
use Rattle.rules.specs.declared.Answer.TheVariants.{Refused}
use Rattle.rows.specs.Fine.{cond_ind}
use Rattle.answers.specs.Spelling.{letters_of, spells}
use Rattle.frames.specs.declared.Call.{Call}
use Rattle.frames.specs.declared.Call.TheVariants.{Setup, Open, Read, Write, Advance, Abandon}
use Rattle.frames.specs.declared.BadCall.{BadCall}
use Rattle.frames.specs.declared.BadCall.TheVariants.{Unknown, Misfit}
use Rattle.frames.specs.declared.Frame.{Frame}
use Rattle.frames.specs.declared.Frame.TheVariants.{Nothing, Short, Body}
use Rattle.frames.specs.Decode.{be16, length_size, frame_of, setup_size, open_size, read_size, write_size, seat_size, by_kind, decoded, plan_from}
use Rattle.frames.specs.Decode.{setup_kind, open_kind, read_kind, write_kind, advance_kind, abandon_kind}
use Rattle.turns.specs.declared.Tables.{Tables as Lent}
use Rattle.turns.specs.Lent.{SameLengths}
use Rattle.turns.specs.Faults.{misfit, unknown_kind, stop_line}
use Rattle.turns.specs.Calls.{PlanFits, on_first, performed, records_after, setup_again, wrong_sizes}
use Rattle.turns.specs.Turns.{line_room, last_room, Turned, waits, stops, says, call_turn, body_turn, frame_turn, turn_of}

-- A BODY THAT IS A CALL has two bytes or more, and a Setup's has its plan
abbrev pub Fits : List ℕ → Result Call BadCall → Type 0
Fits b (Ok c) = PlanFits c b × (2 ≤ length b)
Fits b (Err e) = Unit {0}

pub fits : (b : List ℕ) → Fits b (decoded b)
unfolding decoded by_kind
fits b =
    let k : ℕ = get_or b 0 0 in
    cond_ind (Fits b) (ltb 0 (length b)) (λ _.
    cond_ind (Fits b) (eqb k setup_kind) (λ _. cond_ind (Fits b) (eqb (length b) setup_size) (λ e. let n = eqb-true _ _ e in (n, omega arith)) (λ _. tt)) (λ _.
    cond_ind (Fits b) (eqb k open_kind) (λ _. plain open_size _ (omega arith) tt) (λ _.
    cond_ind (Fits b) (eqb k read_kind) (λ _. plain read_size _ (omega arith) tt) (λ _.
    cond_ind (Fits b) (eqb k write_kind) (λ _. plain write_size _ (omega arith) tt) (λ _.
    cond_ind (Fits b) (eqb k advance_kind) (λ _. plain seat_size _ (omega arith) tt) (λ _.
    cond_ind (Fits b) (eqb k abandon_kind) (λ _. plain seat_size _ (omega arith) tt) (λ _. tt))))))) (λ _. tt)
  where
    plain : (n : ℕ) (c : Call) → 2 ≤ n → PlanFits c b → Fits b (cond (eqb (length b) n) (Ok c) (Err Misfit))
    plain n c h p = cond_ind (Fits b) (eqb (length b) n) (λ e. (p, omega (arith, eqb-true (length b) n e))) (λ _. tt)

-- A FRAME'S BODY lies within the tape; where there is none, the frame's end does not
abbrev pub Inside : List ℕ → Frame → Type 0
Inside t Nothing = length t < length_size + be16 t 0
Inside t Short = length t < length_size + be16 t 0
Inside t (Body n) = (length_size + n ≤ length t) × (n ≡ be16 t 0)

pub inside : (t : List ℕ) → Inside t (frame_of t)
unfolding frame_of
inside t =
    cond_ind (Inside t) (ltb 0 (length t)) (λ _.
    cond_ind (Inside t) (ltb (length t) length_size) (λ h. omega (arith, ltb-true (length t) length_size h)) (λ h.
    cond_ind (Inside t) (leb (be16 t 0) (length t - length_size))
    (λ e. (omega (arith, leb-true (be16 t 0) (length t - length_size) e, ltb-false (length t) length_size h), refl))
    (λ e. omega (arith, leb-false (be16 t 0) (length t - length_size) e)))) (λ h. omega (arith, ltb-false 0 (length t) h))

-- SETUP, as the tape allows it
module _ (records count start : ℕ) (t : Tables) (b : List ℕ) where
  pub setup_again_lem : 0 < records → performed records t (Setup count start) b ≡ answered (Refused setup_again) t
  unfolding performed
  setup_again_lem h = simp (lt-ltb 0 records h)

  pub setup_many : records ≤ 0 → most_records < count → performed records t (Setup count start) b ≡ answered (Refused wrong_sizes) t
  unfolding performed
  setup_many h g = simp (le-ltb 0 records h, lt-ltb most_records count g)

  pub setup-lent : records ≤ 0 → count ≤ most_records
      → performed records t (Setup count start) b ≡ on_first t count (rule.Setup start (take plan_width (drop plan_from b)))
  unfolding performed
  setup-lent h g = simp (le-ltb 0 records h, le-ltb most_records count g)

-- it lends at most 1024 records
records_few : (c : Call) (b : List ℕ) (records : ℕ) (t : Tables) → records ≤ most_records
    → records_after records c (performed records t c b).answer ≤ most_records
records_few (Setup count start) b records t h =
    cond_ind (λ (n : ℕ). n ≤ most_records) (eqb (kind answer) ready) (λ e. given (eqb-true _ _ e) (leb count most_records) refl) (λ _. h)
  where
    answer : Answer
    answer = (performed records t (Setup count start) b).answer

    refused_is : kind answer ≡ ready → (n : ℕ) → kind answer ≡ suc n → ⊥
    refused_is e n k = omega arith

    given : kind answer ≡ ready → (x : Bool) → leb count most_records ≡ x → count ≤ most_records
    given e true q = leb-true count most_records q
    given e false q = absurd (many e (leb records 0) refl)
      where
        many : kind answer ≡ ready → (y : Bool) → leb records 0 ≡ y → ⊥
        many e true z =
            refused_is e 10
            (ap (λ o. kind o.answer) (setup_many records count start t b (leb-true records 0 z) (leb-false count most_records q)))
        many e false z = refused_is e 10 (ap (λ o. kind o.answer) (setup_again_lem records count start t b (leb-false records 0 z)))
records_few (Open o) b records t h = h
records_few (Read o s item) b records t h = h
records_few (Write o s item value) b records t h = h
records_few (Advance o s) b records t h = h
records_few (Abandon o s) b records t h = h

-- A LINE
width_in_lem : (f n : ℕ) → width_in f n ≤ f + 1
unfolding width_in
width_in_lem zero n = omega arith
width_in_lem (suc f) n = cond_ind (λ (m : ℕ). m ≤ suc f + 1) (ltb n 10) (λ _. omega arith) (λ _. omega (arith, width_in_lem f (n / 10)))

pub width_small : (n : ℕ) → width_of n ≤ 20
unfolding width_of
width_small n = width_in_lem 19 n

pub stop_line_lem : (fault offset : ℕ) → width_of fault ≤ 2 → length (stop_line fault offset) ≤ last_room
unfolding stop_line
stop_line_lem fault offset h =
    let letters : List ℕ = bytes "stopped " in
    omega (arith, length_last (letters ++ decimal fault) offset, length-append letters (decimal fault), length-decimal fault, width_small offset)

-- WHAT A TURN COMES TO: what it takes lies within the rest; its line has room; and it lends no more records than there may be
pub record Says (t x : List ℕ) (records used records' : ℕ) : Type 0 where
  pub least : length_size ≤ used
  pub within : used ≤ length t
  pub fits : length x ≤ line_room * used
  pub few : records ≤ most_records → records' ≤ most_records

pub record Stops (t x : List ℕ) : Type 0 where
  pub least : length_size ≤ length t
  pub fits : length x ≤ last_room

abbrev pub TurnFits : ℕ → List ℕ → Turned → Type 0
TurnFits records t waits = length t < length_size + be16 t 0
TurnFits records t (stops x) = Stops t x
TurnFits records t (says x used records' t') = Says t x records used records'

module _ (n offset records : ℕ) (t : Tables) (rest : List ℕ) where
  turn_fits_body : (k : ℕ) (d : Result Call BadCall) → length_size + k ≤ length rest → Fits (take k (drop length_size rest)) d
      → TurnFits records rest (body_turn n offset records t (take k (drop length_size rest)) d)
  unfolding body_turn call_turn
  turn_fits_body k (Err Unknown) h f = record { least = omega arith; fits = stop_line_lem unknown_kind offset (unfold width_of width_in in omega arith) }
  turn_fits_body k (Err Misfit) h f = record { least = omega arith; fits = stop_line_lem misfit offset (unfold width_of width_in in omega arith) }
  turn_fits_body k (Ok c) h f =
      let b : List ℕ = take k (drop length_size rest) in
      let a : Answer = (performed records t c b).answer in
      let e : length b ≡ k = length-take-le k (drop length_size rest) (omega (arith, length-drop length_size rest)) in
      record {
        least = omega arith;
        within = omega arith;
        fits = omega (arith, length-line n (letters_of a) (number a), (spells a).short, width_small n, width_small (number a), f.1);
        few = records_few c b records t;
      }

  turn_fits_frame : (f : Frame) → Inside rest f → TurnFits records rest (frame_turn n offset records t rest f)
  unfolding frame_turn
  turn_fits_frame Nothing h = h
  turn_fits_frame Short h = h
  turn_fits_frame (Body k) h = turn_fits_body k (decoded (take k (drop length_size rest))) h.0 (fits (take k (drop length_size rest)))

  pub turn_fits : TurnFits records rest (turn_of n offset records t rest)
  unfolding turn_of
  turn_fits = turn_fits_frame (frame_of rest) (inside rest)

  pub turn_fits_as : {T : Turned} → turn_of n offset records t rest ≡ T → TurnFits records rest T
  turn_fits_as e = subst (TurnFits records rest) e turn_fits

pub turn_nothing : (n offset records : ℕ) (t : Tables) → turn_of n offset records t [] ≡ waits
unfolding turn_of frame_turn frame_of
turn_nothing n offset records t = refl

-- no text leaves a buffer as it was
pub put-nothing : (l : List ℕ) (at : ℕ) → l ≡ put_in l at []
unfolding put_in
put-nothing l at = cond_ind (λ (m : List ℕ). l ≡ m) (leb (at + 0) (length l)) (λ _. refl) (λ _. refl)

-- tables that stay keep their lengths, and they keep them over two turns
pub stay_long : {t : Lent} → SameLengths t t
stay_long = record { values_are = refl; words_are = refl; seats_are = refl }

pub long_on : {a b c : Lent} → SameLengths a b → SameLengths b c → SameLengths a c
long_on p q =
    record {
      values_are = q.values_are ∙ p.values_are;
      words_are = q.words_are ∙ p.words_are;
      seats_are = q.seats_are ∙ p.seats_are;
    }

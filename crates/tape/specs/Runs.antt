-- What callers may rest on: how a run over a part of a tape goes on, turn by turn, and what it comes to. Assumes nothing.
use Rattle.std.specs.Prelude.{ℕ, zero, suc, ◌+◌, ◌-◌, ◌≤◌, ◌<◌, true, false, ◌≡◌, refl, List, [], length, drop, get_or}
use Rattle.std.proofs.Common.{arith, ap, sym, ◌∙◌, true≢false, length-drop, drop-drop}
use Rattle.std.proofs.Math.Nat.{sub_self}
use Rattle.rules.specs.Layout.{most_records}
use Rattle.rules.specs.Tables.{Tables}
use Rattle.frames.specs.Decode.{byte_span, longest}
use Rattle.turns.specs.Turns.{Turned, waits, stops, says}
use Rattle.turns.specs.Laws.{TurnFits, turn_fits_as}
use Rattle.tape.specs.Lines.{State, turn_from, further, Fed, ended, behind, fed}

-- a turn's numbers
pub turn_from_fits : (s : State) (t : List ℕ) {T : Turned} → turn_from s t ≡ T → TurnFits s.records t T
turn_from_fits s t e = turn_fits_as (s.calls + 1) s.offset s.records s.tables t e

-- HOW A RUN GOES ON, by the turn
pub fed_waits : (n : ℕ) (s : State) (t : List ℕ) → turn_from s t ≡ waits → fed n s t ≡ ended [] s t false
unfolding fed
fed_waits zero s t e = refl
fed_waits (suc n) s t e = rw (e, fed)

pub fed_stops : (n : ℕ) (s : State) (t x : List ℕ) → turn_from s t ≡ stops x → length t ≤ n → fed n s t ≡ ended x s t true
unfolding fed
fed_stops zero s t x e h = let g = turn_from_fits s t e in absurd (omega (arith, g.least))
fed_stops (suc n) s t x e h = rw (e, fed)

pub fed_says : (n : ℕ) (s : State) (t x : List ℕ) (used records : ℕ) (t' : Tables) → turn_from s t ≡ says x used records t' → length t ≤ n
    → fed n s t ≡ behind x (fed (n - 1) (further s used records t') (drop used t))
unfolding fed
fed_says zero s t x used records t' e h = let g = turn_from_fits s t e in absurd (omega (arith, g.least, g.within))
fed_says (suc n) s t x used records t' e h = let d : suc n - 1 ≡ n = omega arith in rw (e, fed, d)

-- WHAT HOLDS OF EVERY RUN: shown where it waits, where it is stopped, and behind a call that is answered
module _ (P : State → List ℕ → Fed → Type 0)
    (waiting : (s : State) (t : List ℕ) → turn_from s t ≡ waits → P s t (ended [] s t false))
    (stopping : (s : State) (t x : List ℕ) → turn_from s t ≡ stops x → P s t (ended x s t true))
    (saying : (s : State) (t x : List ℕ) (used records : ℕ) (t' : Tables) (o : Fed) → turn_from s t ≡ says x used records t'
    → P (further s used records t') (drop used t) o → P s t (behind x o)) where
  pub fed_ind : (n : ℕ) (s : State) (t : List ℕ) → length t ≤ n → P s t (fed n s t)
  fed_ind zero s t h = go (turn_from s t) refl
    where
      go : (T : Turned) → turn_from s t ≡ T → P s t (fed zero s t)
      go waits e = rw (fed_waits zero s t e) (waiting s t e)
      go (stops x) e = let g = turn_from_fits s t e in absurd (omega (arith, g.least))
      go (says x used records t') e = let g = turn_from_fits s t e in absurd (omega (arith, g.least, g.within))
  fed_ind (suc n) s t h = go (λ s' t' p. fed_ind n s' t' p) (turn_from s t) refl
    where
      go : ((s' : State) (t' : List ℕ) → length t' ≤ n → P s' t' (fed n s' t')) → (T : Turned) → turn_from s t ≡ T → P s t (fed (suc n) s t)
      go ih waits e = rw (fed_waits (suc n) s t e) (waiting s t e)
      go ih (stops x) e = rw (fed_stops (suc n) s t x e h) (stopping s t x e)
      go ih (says x used records t') e =
          let g = turn_from_fits s t e in
          let d : suc n - 1 ≡ n = omega arith in
          rw (fed_says (suc n) s t x used records t' e h, d)
          (saying s t x used records t' _ e (ih (further s used records t') (drop used t) (omega (arith, length-drop used t, g.least))))

-- THE FUEL does not matter where it is enough
abbrev AnyFuel : State → List ℕ → Fed → Type 0
AnyFuel s t o = (g : ℕ) → length t ≤ g → o ≡ fed g s t

fuel_says : (s : State) (t x : List ℕ) (used records : ℕ) (t' : Tables) (o : Fed) → turn_from s t ≡ says x used records t'
    → AnyFuel (further s used records t') (drop used t) o → AnyFuel s t (behind x o)
fuel_says s t x used records t' o e ih g h =
    let z = turn_from_fits s t e in
    ap (behind x) (ih (g - 1) (omega (arith, z.least, length-drop used t))) ∙ sym (fed_says g s t x used records t' e h)

pub fed_fuel : (f g : ℕ) (s : State) (t : List ℕ) → length t ≤ f → length t ≤ g → fed f s t ≡ fed g s t
fed_fuel f g s t h i =
    fed_ind AnyFuel (λ s t e g h. sym (fed_waits g s t e)) (λ s t x e g h. sym (fed_stops g s t x e h)) fuel_says f s t h g i

-- WHAT IS LEFT is the end of what there was
abbrev Ends : State → List ℕ → Fed → Type 0
Ends s t o = o.left ≡ drop (length t - length o.left) t

ends_here : (t : List ℕ) → t ≡ drop (length t - length t) t
ends_here t = rw sub_self

ends_says : (s : State) (t x : List ℕ) (used records : ℕ) (t' : Tables) (o : Fed) → turn_from s t ≡ says x used records t'
    → Ends (further s used records t') (drop used t) o → Ends s t (behind x o)
ends_says s t x used records t' o e h =
    let k = turn_from_fits s t e in
    let n = length-drop used t in
    let m : length o.left ≡ length (drop used t) - (length (drop used t) - length o.left) =
    ap length h ∙ length-drop (length (drop used t) - length o.left) (drop used t) in
    h ∙ drop-drop (length (drop used t) - length o.left) used t ∙ ap (λ (i : ℕ). drop i t) (omega (arith, n, m, k.within))

pub left_is_end : (n : ℕ) (s : State) (t : List ℕ) → length t ≤ n → (fed n s t).left ≡ drop (length t - length (fed n s t).left) t
left_is_end = fed_ind Ends (λ s t e. ends_here t) (λ s t x e. ends_here t) ends_says

-- WHAT IT COMES TO: what it took is counted, and where it is not stopped, what is left waits for more
pub record Grown (s : State) (t : List ℕ) (o : Fed) : Type 0 where
  pub offset : o.state.offset + length o.left ≡ s.offset + length t
  pub calls : o.state.calls + s.offset ≤ s.calls + o.state.offset
  pub records : s.records ≤ most_records → o.state.records ≤ most_records
  pub wanting : o.stopped ≡ false → turn_from o.state o.left ≡ waits

grown_waits : (s : State) (t : List ℕ) → turn_from s t ≡ waits → Grown s t (ended [] s t false)
grown_waits s t e = record { offset = refl; calls = omega arith; records = λ h. h; wanting = λ _. e }

grown_stops : (s : State) (t x : List ℕ) → turn_from s t ≡ stops x → Grown s t (ended x s t true)
grown_stops s t x e = record { offset = refl; calls = omega arith; records = λ h. h; wanting = λ z. absurd (true≢false z) }

grown_says : (s : State) (t x : List ℕ) (used records : ℕ) (t' : Tables) (o : Fed) → turn_from s t ≡ says x used records t'
    → Grown (further s used records t') (drop used t) o → Grown s t (behind x o)
grown_says s t x used records t' o e g =
    let k = turn_from_fits s t e in
    let n : length (drop used t) ≡ length t - used = length-drop used t in
    record {
      offset = omega (arith, g.offset, k.within);
      calls = omega (arith, g.calls, k.least);
      records = λ h. g.records (k.few h);
      wanting = g.wanting;
    }

pub grown : (n : ℕ) (s : State) (t : List ℕ) → length t ≤ n → Grown s t (fed n s t)
grown = fed_ind Grown grown_waits grown_stops grown_says

-- what waits for more is shorter than the longest frame
pub waits_short : (s : State) (t : List ℕ) → turn_from s t ≡ waits → get_or t 0 0 < byte_span → get_or t 1 0 < byte_span → length t < longest
waits_short s t e a b = let g = turn_from_fits s t e in omega arith

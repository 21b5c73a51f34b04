-- A buffer's front, and the steps over it. Assumes nothing.
use Rattle.std.proofs.Common.{ℕ, ◌+◌, ◌-◌, ◌≤◌, ◌<◌, arith, zero-add, ◌≡◌, refl, ap, sym, ◌∙◌, Bool, true, false, true≢false, List, [], ◌++◌, eqb}
use Rattle.std.proofs.Common.{length, take, drop, get_or, take-append-drop, length-take-le, take-add, get_or-take, eq-eqb, ne_eqb, le-leb}
use Rattle.std.proofs.Math.Nat.{sub-zero}
use Rattle.text.specs.Text.{greatest, Appended}
use Rattle.turns.specs.declared.Tables.{Tables}
use Rattle.turns.specs.Lent.{lent_in}
use Rattle.turns.specs.Faults.{no_version, stop_line}
use Rattle.turns.specs.Laws.{put-nothing, stay_long}
use Rattle.tape.specs.declared.Counts.{Counts}
use Rattle.tape.specs.Lines.{State, end_line, version, first_offset}
use Rattle.tape.specs.Inner.{state_of}
use Rattle.tape.specs.Promises.{at_front, part, unfit, Closed}
use Rattle.tape.specs.Room.{Fit, fit, not-unfit, drop-take, put_front, end_line_lem}
use Rattle.flow.specs.declared.Flow.{Flow}
use Rattle.flow.specs.Parts.{onward, opened, stepped, closing}
use Rattle.flow.specs.Promises.{stand_of, halted_at, unbegun_at, unready, Goes, Stepped, Finished}
use Rattle.flow.specs.Steps.{no_version_room}

-- THE FRONT OF A BUFFER: what waits, and the part behind it
module _ (buffer : List ℕ) (w to : ℕ) (behind : w ≤ to) where
  front_joins : take w buffer ++ part buffer w to ≡ part buffer 0 to
  front_joins =
      let e : w + (to - w) ≡ to - 0 = omega arith in
      sym (take-add w (to - w) buffer) ∙ ap (λ (n : ℕ). take n buffer) e

-- what waits stays where it is
front-stays : (buffer : List ℕ) (w : ℕ) → w ≤ length buffer → buffer ≡ at_front (take w buffer) buffer
front-stays buffer w h = sym (rw (length-take-le w buffer h) (take-append-drop w buffer))

-- the bytes that are fit behind those that wait are fit from any place before `to`
pub fit_from : {buffer w to : ℕ} {k : Counts} {values words out : ℕ} → Fit buffer w to k values words out
    → (from : ℕ) → from ≤ to → unfit buffer from to k values words out ≡ false
fit_from g from h =
    not-unfit
    record {
      inside = g.inside;
      behind = h;
      calls = g.calls;
      offset = g.offset;
      records = g.records;
      values_are = g.values_are;
      words_are = g.words_are;
      roomy = g.roomy;
    }

-- THE FIRST BYTES, by their three ways
opened-none : (s : State) (t : List ℕ) → length t ≡ 0
    → opened s t ≡ record { text = []; stand = record { begun = false; stopped = false; state = s; left = [] } }
unfolding opened
opened-none s t e = rw (eq-eqb (length t) 0 e)

pub opened_calls : (s : State) (t : List ℕ) → 0 < length t → get_or t 0 0 ≡ version → opened s t ≡ onward s (drop first_offset t)
unfolding opened
opened_calls s t h e = simp (ne_eqb (length t) 0 (λ z. omega arith), eq-eqb (get_or t 0 0) version e)

pub opened_bad : (s : State) (t : List ℕ) → 0 < length t → (get_or t 0 0 ≡ version → ⊥)
    → opened s t ≡ record { text = stop_line no_version 0; stand = record { begun = false; stopped = true; state = s; left = [] } }
unfolding opened
opened_bad s t h e = simp (ne_eqb (length t) 0 (λ z. omega arith), ne_eqb (get_or t 0 0) version e)

-- a step over a part that is fit
fits-step : {f : Flow} {buffer : List ℕ} {to : ℕ} {t : Tables} {out : List ℕ} {r : Flow} {buffer' : List ℕ} {t' : Tables} {out' : List ℕ}
    → unready f buffer to (lent_in t) out ≡ false
    → Goes (stepped (stand_of f (lent_in t) buffer) (part buffer f.waiting to)) buffer t out r buffer' t' out'
    → Stepped f buffer to t out r buffer' t' out'
fits-step ready k = record { done = λ _. k.went; refused = λ e. absurd (true≢false (sym e ∙ ready)); short = k.short; lengths = k.lengths }

module _ (f : Flow) (buffer : List ℕ) (to : ℕ) (t : Tables) (out : List ℕ) (ready : unready f buffer to (lent_in t) out ≡ false) where
  g : Fit (length buffer) f.waiting to f.counts (length t.values.now) (length t.words.now) (length out)
  g = fit ready

  abbrev here : State
  here = state_of f.counts (lent_in t)

  all_length : length (part buffer 0 to) ≡ to
  all_length = length-take-le (to - 0) buffer (omega (arith, g.inside)) ∙ sub-zero to

  all_first : 0 < to → get_or (part buffer 0 to) 0 0 ≡ get_or buffer 0 0
  all_first h = get_or-take (to - 0) buffer 0 0 (omega arith)

  pub waits_on : to ≡ 0 → Goes (opened here (part buffer 0 to)) buffer t out (unbegun_at f false 0) buffer t out
  waits_on e =
      rw (opened-none here (part buffer 0 to) (all_length ∙ e))
      record { went = record { answer_is = refl; buffer_is = refl; tables_are = refl; out_is = refl }; short = λ _. omega arith; lengths = stay_long }

  pub calls_behind : {r : Flow} {buffer' : List ℕ} {t' : Tables} {out' : List ℕ} → 0 < to → get_or buffer 0 0 ≡ version
      → Goes (onward here (part buffer first_offset to)) buffer t out r buffer' t' out'
      → Goes (opened here (part buffer 0 to)) buffer t out r buffer' t' out'
  calls_behind h e k =
      let d : drop first_offset (part buffer 0 to) ≡ part buffer first_offset to =
      drop-take buffer first_offset (to - 0) (omega arith) ∙ ap (λ (n : ℕ). take (n - first_offset) (drop first_offset buffer)) (sub-zero to) in
      rw (opened_calls here (part buffer 0 to) (omega (arith, all_length)) (all_first h ∙ e), d) k

  pub other_version : {n : ℕ} {out' : List ℕ} → 0 < to → (get_or buffer 0 0 ≡ version → ⊥) → Appended out 0 (stop_line no_version 0) n out'
      → Goes (opened here (part buffer 0 to)) buffer t out (unbegun_at f true n) buffer t out'
  other_version h e a =
      rw (opened_bad here (part buffer 0 to) (omega (arith, all_length)) (λ z. e (sym (all_first h) ∙ z)))
      record {
        went =
            record {
              answer_is = ap (unbegun_at f true) a.size;
              buffer_is = refl;
              tables_are = refl;
              out_is = a.text ∙ put_front (stop_line no_version 0) out (omega (arith, no_version_room, g.roomy));
            };
        short = λ z. absurd (true≢false z);
        lengths = stay_long;
      }

  stays_there : f.stopped ≡ true
      → Goes (stepped (stand_of f (lent_in t) buffer) (part buffer f.waiting to)) buffer t out (halted_at f) buffer t out
  unfolding stepped
  stays_there e =
      let n : length (take f.waiting buffer) ≡ f.waiting = length-take-le f.waiting buffer (omega (arith, g.inside, g.behind)) in
      rw e
      record {
        went =
            record {
              answer_is = rw n;
              buffer_is = front-stays buffer f.waiting (omega (arith, g.inside, g.behind));
              tables_are = refl;
              out_is = refl;
            };
        short = λ z. absurd (true≢false z);
        lengths = stay_long;
      }

  -- A STEP, by its three ways
  pub goes_on : {r : Flow} {buffer' : List ℕ} {t' : Tables} {out' : List ℕ} → f.stopped ≡ false → f.begun ≡ true
      → Goes (onward here (part buffer 0 to)) buffer t out r buffer' t' out'
      → Stepped f buffer to t out r buffer' t' out'
  unfolding stepped
  goes_on e b k = fits-step ready (rw (e, b, front_joins buffer f.waiting to g.behind) k)

  pub opens : {r : Flow} {buffer' : List ℕ} {t' : Tables} {out' : List ℕ} → f.stopped ≡ false → f.begun ≡ false
      → Goes (opened here (part buffer 0 to)) buffer t out r buffer' t' out'
      → Stepped f buffer to t out r buffer' t' out'
  unfolding stepped
  opens e b k = fits-step ready (rw (e, b, front_joins buffer f.waiting to g.behind) k)

-- unfit, or stopped before
pub halts : (f : Flow) (buffer : List ℕ) (to : ℕ) (t : Tables) (out : List ℕ) → (unready f buffer to (lent_in t) out ≡ false → f.stopped ≡ true)
    → Stepped f buffer to t out (halted_at f) buffer t out
halts f buffer to t out why =
    record {
      done = λ ready. (stays_there f buffer to t out ready (why ready)).went;
      refused = λ _. record { answer_is = refl; buffer_is = refl; tables_are = refl; out_is = refl };
      short = λ e. absurd (true≢false e);
      lengths = stay_long;
    }

-- THE LAST LINE, by its three ways
module _ (f : Flow) (out : List ℕ) where
  pub ends_stopped : f.stopped ≡ true → Finished f out 0 out
  unfolding closing
  ends_stopped e = rw e record { size = refl; text = put-nothing out 0 }

  pub ends-begun : {whole : Bool} {r : ℕ} {out' : List ℕ} → f.stopped ≡ false → f.begun ≡ true
      → Closed out 0 (end_line whole f.counts.calls f.counts.offset) r out' → whole ≡ eqb f.waiting 0 → Finished f out r out'
  unfolding closing
  ends-begun e b k w =
      let line : List ℕ = end_line (eqb f.waiting 0) f.counts.calls f.counts.offset in
      let n : 0 + length line ≤ greatest = omega (arith, end_line_lem (eqb f.waiting 0) f.counts.calls f.counts.offset) in
      let k' = rw w at k in
      rw (e, b) record { size = k'.end ∙ rw (le-leb (0 + length line) greatest n) (zero-add (length line)); text = k'.text }

  pub ends_unbegun : {r : ℕ} {out' : List ℕ} → f.stopped ≡ false → f.begun ≡ false → Appended out 0 (stop_line no_version 0) r out' → Finished f out r out'
  unfolding closing
  ends_unbegun e b k = rw (e, b) record { size = k.size; text = k.text }

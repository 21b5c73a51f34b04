-- A run over a part of a tape, turn by turn: sums that stop, and the text so far. Assumes nothing.
use Rattle.std.proofs.Common.{ℕ, ◌+◌, ◌-◌, ◌≤◌, ◌<◌, arith, add-zero, Bool, true, false, ◌≡◌, refl, ap, sym, ◌∙◌}
use Rattle.std.proofs.Common.{List, [], ◌++◌, leb, length, drop, length-append, leb-true, leb-false, min, le_refl, length-drop, le_of_lt}
use Rattle.std.proofs.Common.{take, take_all}
use Rattle.std.proofs.Math.Nat.{min-eq_left, min-eq_right}
use Rattle.std.proofs.Math.Seq.{length-sets}
use Rattle.std.proofs.lemmas.List.Edits.{sets}
use Rattle.text.specs.Text.{greatest, put_in}
use Rattle.text.specs.Puts.{sets_at, put-fits}
use Rattle.rows.specs.Fine.{cond_ind}
use Rattle.turns.specs.declared.Tables.{Tables}
use Rattle.turns.specs.declared.Turn.{Turn}
use Rattle.turns.specs.declared.Turn.TheVariants.{Wait, Said, Stop}
use Rattle.turns.specs.Turns.{Turned, waits, stops, says}
use Rattle.turns.specs.Lent.{lent_in, with_lent, SameLengths}
use Rattle.turns.specs.Promises.{Taken}
use Rattle.turns.specs.Laws.{put-nothing, stay_long, long_on}
use Rattle.tape.specs.declared.Counts.{Counts}
use Rattle.tape.specs.Lines.{State, turn_from, further, Fed, ended, behind, fed}
use Rattle.tape.specs.Inner.{state_of, counts_in, capped, Ran}
use Rattle.tape.specs.Runs.{turn_from_fits, fed_waits, fed_stops, fed_says, fed_fuel}

-- SUMS THAT STOP
pub saturated : (a b : ℕ) → min (a + b) greatest ≡ capped a b
saturated a b =
    cond_ind (λ (m : ℕ). min (a + b) greatest ≡ m) (leb (a + b) greatest)
    (λ e. min-eq_left (leb-true _ _ e)) (λ e. min-eq_right (le_of_lt (leb-false _ _ e)))

pub capped_small : (a b : ℕ) → a + b ≤ greatest → capped a b ≡ a + b
capped_small a b h = omega (arith, saturated a b)

capped_greatest : (a b : ℕ) → capped a b ≤ greatest
capped_greatest a b = omega (arith, saturated a b)

pub capped_below : (a b m : ℕ) → capped a b ≡ m → m < greatest → a + b ≡ m
capped_below a b m e h = omega (arith, saturated a b)

pub capped_sum : (p a b : ℕ) → capped (capped p a) b ≡ capped p (a + b)
capped_sum p a b = omega (arith, saturated p a, saturated (capped p a) b, saturated p (a + b))

-- THE TEXT SO FAR. A run that is to come to `whole` has `rest` before it; its text so far stands in out, and p is where the next line goes
pub record Going (whole : Fed) (out₀ : List ℕ) (from : ℕ) (rest : Fed) (out : List ℕ) (p : ℕ) : Type 0 where
  pub state : rest.state ≡ whole.state
  pub left : rest.left ≡ whole.left
  pub stopped : rest.stopped ≡ whole.stopped
  pub size : capped p (length rest.text) ≡ capped from (length whole.text)
  pub as_long : length out ≡ length out₀
  pub text : from + length whole.text ≤ length out₀ → sets out p rest.text ≡ sets out₀ from whole.text

length-put : (l : List ℕ) (at : ℕ) (x : List ℕ) → length (put_in l at x) ≡ length l
unfolding put_in
length-put l at x = cond_ind (λ (m : List ℕ). length m ≡ length l) (leb (at + length x) (length l)) (λ _. length-sets l at x) (λ _. refl)

-- a text that ends where the whole does, and has room, goes in at p
place_of_lem : (p n from m : ℕ) → capped p n ≡ capped from m → from + m < greatest → p + n ≡ from + m
place_of_lem p n from m e h = capped_below p n (from + m) (e ∙ capped_small from m (omega arith)) (omega arith)

-- one line more
pub going_on : (whole : Fed) (out₀ : List ℕ) (from : ℕ) (x : List ℕ) (rest : Fed) (out : List ℕ) (p : ℕ) → length out₀ < greatest
    → Going whole out₀ from (behind x rest) out p → Going whole out₀ from rest (put_in out p x) (capped p (length x))
going_on whole out₀ from x rest out p h g =
    record {
      state = g.state;
      left = g.left;
      stopped = g.stopped;
      size = capped_sum p (length x) (length rest.text) ∙ ap (λ (m : ℕ). capped p m) (sym (length-append x rest.text)) ∙ g.size;
      as_long = length-put out p x ∙ g.as_long;
      text = λ i.
          let q : p + length (x ++ rest.text) ≡ from + length whole.text = place_of_lem p _ from _ g.size (omega arith) in
          let a : length (x ++ rest.text) ≡ length x + length rest.text = length-append x rest.text in
          let r : length out ≡ length out₀ = g.as_long in
          ap (λ (l : List ℕ). sets l (capped p (length x)) rest.text) (sym (put-fits out p x (omega arith)))
          ∙ sets_at out p (capped p (length x)) x rest.text (capped_small p (length x) (omega arith))
          ∙ g.text i;
    }

-- WHAT HOLDS WHERE A TURN IS TO COME, of a run over `part` that began with the counts k₀ and the tables T₀ and stands at k and T, before the rest t
pub record Stands (part : List ℕ) (k₀ : Counts) (T₀ : Tables) (out₀ : List ℕ) (k : Counts) (T : Tables) (t out : List ℕ) (end : ℕ) : Type 0 where
  pub offset : k.offset + length t ≡ k₀.offset + length part
  pub calls : k.calls + length t ≤ k₀.calls + length part
  pub small : end ≤ greatest
  pub same : T ≡ with_lent T₀ (lent_in T)
  pub lengths : SameLengths T₀ T
  pub going : Going (fed (length part) (state_of k₀ (lent_in T₀)) part) out₀ 0 (fed (length t) (state_of k (lent_in T)) t) out end

abbrev pub counts_after : Counts → ℕ → ℕ → Counts
counts_after k used lent = record { calls = k.calls + 1; offset = k.offset + used; records = lent }

-- the code matches a turn's answer
pub taken_as : {u : Turned} {t : Tables} {out : List ℕ} {at : ℕ} {r q : Turn} {t' : Tables} {out' : List ℕ}
    → r ≡ q → Taken u t out at r t' out' → Taken u t out at q t' out'
taken_as e k = record { turn = sym e ∙ k.turn; tables = k.tables; text = k.text; lengths = k.lengths }

-- a turn of one kind is none of another
abbrev turn_kind : Turn → ℕ
turn_kind Wait = 0
turn_kind (Said used len records) = 1
turn_kind (Stop len) = 2

other_turn : {A : Type 0} (r q : Turn) → r ≡ q → (turn_kind r ≡ turn_kind q → ⊥) → A
other_turn r q e h = absurd (h (ap turn_kind e))

-- A TURN THAT SAID A LINE, and where the run then stands
pub record Onward (part : List ℕ) (k₀ : Counts) (T₀ : Tables) (out₀ : List ℕ) (k : Counts) (t : List ℕ) (end : ℕ) (T' : Tables) (out' : List ℕ)
    (used len lent : ℕ) : Type 0 where
  pub least : 2 ≤ used
  pub within : used ≤ length t
  pub stands : Stands part k₀ T₀ out₀ (counts_after k used lent) T' (drop used t) out' (capped end len)

-- as the code has it: the rest is cut off, and the sum stops
pub next_turn : {part : List ℕ} {k₀ : Counts} {T₀ : Tables} {out₀ : List ℕ} {k : Counts} {t : List ℕ} {end : ℕ} {T' : Tables} {out' : List ℕ}
    {used len lent : ℕ} (n end' : ℕ) → Onward part k₀ T₀ out₀ k t end T' out' used len lent → length t - used ≤ n → end' ≡ min (end + len) greatest
    → Stands part k₀ T₀ out₀ (counts_after k used lent) T' (take n (drop used t)) out' end'
next_turn {t} {end} {used} {len} n end' o h e =
    rw (take_all n (drop used t) (omega (arith, length-drop used t)), e ∙ saturated end len) o.stands

module _ (part : List ℕ) (k₀ : Counts) (T₀ : Tables) (out₀ : List ℕ) (k : Counts) (T : Tables) (t out : List ℕ) (end : ℕ) (T' : Tables) (out' : List ℕ)
    (short : length out₀ < greatest) (g : Stands part k₀ T₀ out₀ k T t out end) where
  abbrev s₀ : State
  s₀ = state_of k₀ (lent_in T₀)

  abbrev s : State
  s = state_of k (lent_in T)

  pub said : (used len lent : ℕ) → Taken (turn_from s t) T out end (Said used len lent) T' out' → Onward part k₀ T₀ out₀ k t end T' out' used len lent
  said used len lent = go (turn_from s t) refl
    where
      go : (u : Turned) → turn_from s t ≡ u → Taken u T out end (Said used len lent) T' out' → Onward part k₀ T₀ out₀ k t end T' out' used len lent
      go waits e p = other_turn _ _ p.turn (λ z. omega arith)
      go (stops x) e p = other_turn _ _ p.turn (λ z. omega arith)
      go (says x u records t'') e p =
          let q = p.turn in
          let eu : used ≡ u = cc in
          let el : len ≡ length x = cc in
          let er : lent ≡ records = cc in
          let d = turn_from_fits s t e in
          let n : length (drop u t) ≡ length t - u = length-drop u t in
          let next : State = further s u records t'' in
          let f : fed (length t) s t ≡ behind x (fed (length (drop u t)) next (drop u t)) =
          fed_says (length t) s t x u records t'' e (le_refl _)
          ∙ ap (behind x) (fed_fuel (length t - 1) (length (drop u t)) next (drop u t) (omega (arith, d.least, d.within)) (le_refl _)) in
          let g' : Going (fed (length part) s₀ part) out₀ 0 (behind x (fed (length (drop u t)) next (drop u t))) out end = rw f at g.going in
          record {
            least = omega (arith, d.least);
            within = omega (arith, d.within);
            stands =
                rw (er, p.tables, el, eu, p.text)
                record {
                  offset = omega (arith, g.offset, n, d.within);
                  calls = omega (arith, g.calls, n, d.least, d.within);
                  small = capped_greatest end (length x);
                  same = ap (λ (y : Tables). with_lent y t'') g.same;
                  lengths = rw p.tables at (long_on g.lengths p.lengths);
                  going = going_on (fed (length part) s₀ part) out₀ 0 x (fed (length (drop u t)) next (drop u t)) out end short g';
                };
          }

  -- A RUN THAT ENDS
  ran : (x : List ℕ) (b : Bool) (q : ℕ) → fed (length t) s t ≡ ended x s t b → T' ≡ T → SameLengths T T' → out' ≡ put_in out end x → q ≡ capped end (length x)
      → Ran (fed (length part) s₀ part) T₀ out₀ (record { waiting = length t; counts = counts_in s; end = q; stopped = b }) T' out'
  ran x b q e same long eo eq =
      let d : Going (fed (length part) s₀ part) out₀ 0 (ended x s t b) out end = rw e at g.going in
      record {
        answer_is = rw (← d.left, ← d.state, ← d.stopped, eq ∙ d.size);
        tables_are = same ∙ g.same ∙ ap (λ (z : State). with_lent T₀ z.tables) d.state;
        lengths = long_on g.lengths long;
        lines =
            record {
              end = eq ∙ d.size;
              text = λ i.
                  let p : end + length x ≡ 0 + length (fed (length part) s₀ part).text = place_of_lem end _ 0 _ d.size (omega arith) in
                  let r : length out ≡ length out₀ = d.as_long in
                  eo ∙ sym (put-fits out end x (omega arith)) ∙ d.text (omega arith);
            };
      }

  pub ran_all : length t ≡ 0 → T' ≡ T → out' ≡ out
      → Ran (fed (length part) s₀ part) T₀ out₀ (record { waiting = length t; counts = counts_in s; end = end; stopped = false }) T' out'
  unfolding fed
  ran_all z i j =
      ran [] false end (rw z) i (rw i stay_long) (j ∙ put-nothing out end) (sym (capped_small end 0 (omega (arith, g.small)) ∙ add-zero end))

  pub ran_waits : Taken (turn_from s t) T out end Wait T' out'
      → Ran (fed (length part) s₀ part) T₀ out₀ (record { waiting = length t; counts = counts_in s; end = end; stopped = false }) T' out'
  ran_waits = go (turn_from s t) refl
    where
      go : (u : Turned) → turn_from s t ≡ u → Taken u T out end Wait T' out'
          → Ran (fed (length part) s₀ part) T₀ out₀ (record { waiting = length t; counts = counts_in s; end = end; stopped = false }) T' out'
      go waits e p = ran [] false end (fed_waits (length t) s t e) p.tables p.lengths p.text (sym (capped_small end 0 (omega (arith, g.small)) ∙ add-zero end))
      go (stops x) e p = other_turn _ _ p.turn (λ z. omega arith)
      go (says x u records t'') e p = other_turn _ _ p.turn (λ z. omega arith)

  pub ran_stops : (len q : ℕ) → Taken (turn_from s t) T out end (Stop len) T' out' → q ≡ capped end len
      → Ran (fed (length part) s₀ part) T₀ out₀ (record { waiting = length t; counts = counts_in s; end = q; stopped = true }) T' out'
  ran_stops len q = go (turn_from s t) refl
    where
      go : (u : Turned) → turn_from s t ≡ u → Taken u T out end (Stop len) T' out' → q ≡ capped end len
          → Ran (fed (length part) s₀ part) T₀ out₀ (record { waiting = length t; counts = counts_in s; end = q; stopped = true }) T' out'
      go waits e p eq = other_turn _ _ p.turn (λ z. omega arith)
      go (stops x) e p eq =
          let tt = p.turn in
          let el : len ≡ length x = cc in
          ran x true q (fed_stops (length t) s t x e (le_refl _)) p.tables p.lengths p.text (eq ∙ ap (λ (m : ℕ). capped end m) el)
      go (says x u records t'') e p eq = other_turn _ _ p.turn (λ z. omega arith)

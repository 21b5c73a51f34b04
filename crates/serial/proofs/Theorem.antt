-- DEMAND 3, proved: a Setup begins a state that agrees, every call goes on to one, and such a state is what the statement says.
use Prim.Native.Nat.{ℕ, zero, suc, ◌-◌, ◌<◌}
use mathlib.Core.Path.{◌≡◌, refl, sym, ap, ◌∙◌}
use mathlib.Core.Logic.{⊎_elim}
use mathlib.Core.Bool.{true, cond, false}
use mathlib.Core.List.Memᴰ.{cases_cons as uncons}
use mathlib.Core.List.Memᴰ.{head as here}
use mathlib.Core.List.Memᴰ.{tail as there}
use mathlib.Core.List.{List, [], ◌∷◌, Memᴰ as In}
use mathlib.Core.List.Memᴰ.{not-nil}
use native.Mathlib.Omega.{arith}
use native.Mathlib.Decide.{dec_lt}
use borrow.Author.Tests.{eqb-true, eq-eqb}
use lib.Dec.{eqb}
use lib.ListN.{length, replicate, length-replicate, get_or-replicate}
use Rattle.clock.specs.Word.{fresh}
use Rattle.clock.proofs.Laws.{fresh_is}
use Rattle.rules.specs.Layout.{seat_count, plan_width, phase_at, row, phase, position, reads, writes, time, storing, checking}
use Rattle.rules.specs.Tables.{Tables, Outcome, tables}
use Rattle.rules.specs.Answers.{ready, kind}
use Rattle.rules.specs.Refusals.{seat_refusal}
use Rattle.rules.specs.Plan.{setup_refusal, laid, setup}
use Rattle.rules.specs.Advance.{advance_in, advance, abandon}
use Rattle.rules.specs.Calls.{Call, Setup, Open, Read, Write, Advance, Abandon, step, run, Event, history}
use Rattle.rows.specs.Fine.{cond_ind, Fine, fine}
use Rattle.rows.specs.Becomes.{row_past}
use Rattle.rows.specs.Begin.{setup_taken, setup-ready, length-laid, laid-row}
use Rattle.observer.specs.Observer.{Observer, begun_with, nothing, observe, observed, is_setup, begins, NoSetup, SomeSetup}
use Rattle.observer.proofs.Changes.{begins_anew, begins_is}
use Rattle.serial.specs.Statement.{Values, AllStored, values_of, Serializable, SerialOrder, opening_from, SinceLastSetup, all_ranked}
use Rattle.serial.proofs.Order.{in_serial}
use Rattle.serial.proofs.Protocol.{StoreLeft}
use Rattle.serial.proofs.Final.{begin, begin_inv, inv_final}
use Rattle.observer.proofs.Segments.{seg_in}
use Rattle.observer.proofs.Entries.{write_at}
use Rattle.serial.proofs.View.{entry_at, seat_of, view}
use Rattle.serial.proofs.Agree.{Mirrored, StaysMirrored, refused-stays, unless-stays, sized_same}
use Rattle.serial.proofs.Release.{drop-stays}
use Rattle.serial.proofs.Working.{open_stays, read_stays, write-stays}
use Rattle.serial.proofs.Locking.{lock_stays}
use Rattle.serial.proofs.Checking.{check_phase-stays}
use Rattle.serial.proofs.Storing.{store_phase-stays}

-- SETUP that is not refused
abbrev laid_out : Tables → ℕ → List ℕ → Tables
laid_out t start plan =
    tables t.values (replicate (length t.words) (fresh start)) (laid (replicate (length t.seats) 0) plan plan_width)

setup_mirrored : (t : Tables) (start : ℕ) (plan told : List ℕ) → setup_refusal t start plan ≡ 0 →
    Mirrored (values_of t.values) (laid_out t start plan) (begun_with told)
unfolding seat_of all_ranked
setup_mirrored t start plan told e =
    let h = setup_taken t start plan e in
    let is = fresh_is start h.start_in in
    let n = length t.words in
    let m = length t.seats in
    let idle : (s : ℕ) → phase (row (laid (replicate m 0) plan plan_width) s) ≡ 0 = λ s. laid-row m plan s phase_at (omega arith) in
    record {
      σ = begin start (values_of t.values);
      inv = begin_inv start (values_of t.values);
      agree = record {
        sized = sized_same (laid_out t start plan) h.sized refl (length-replicate n (fresh start))
            (length-laid (replicate m 0) plan plan_width ∙ length-replicate {A = ℕ} m 0);
        shown = λ item l. rw (get_or-replicate n item (fresh start) 0 (rw (length-replicate n (fresh start)) at l))
            (record { is_value = refl; is_wrote = sym is.is_written; is_up_to = sym is.is_read; idle = λ _. refl });
        rows = λ s. rw (idle s);
        seen = λ s d. absurd (d (idle s));
        order = refl;
      };
    }

setup_began : (t : Tables) (start : ℕ) (plan told : List ℕ) → kind (setup t start plan).answer ≡ ready →
    Mirrored (values_of t.values) (setup t start plan).tables (begun_with told)
unfolding setup
setup_began t start plan told r = let e = setup-ready t start plan r in rw (eq-eqb (setup_refusal t start plan) 0 e) (setup_mirrored t start plan told e)

-- ADVANCE AND ABANDON, by the row's phase
module _ (opening : Values) (t : Tables) (b : Observer) (now : Mirrored opening t b) (o s : ℕ) where
  advance_in_stays : Fine t o s storing → StaysMirrored opening b (Advance o s) (advance_in t s)
  unfolding advance_in
  advance_in_stays fi =
      cond_ind Q (eqb ph 1) (λ a. lock_stays opening t b now o s 4 fi (omega (arith, eqb-true ph 1 a)))
      (λ _. cond_ind Q (eqb ph 2) (λ a. lock_stays opening t b now o s 4 fi (omega (arith, eqb-true ph 2 a)))
      (λ _. cond_ind Q (eqb ph 3) (λ a. check_phase-stays opening t b now o s 4 fi (eqb-true ph 3 a))
      (λ _. cond_ind Q (eqb ph 4) (λ a. store_phase-stays opening t b now o s 4 fi (eqb-true ph 4 a)) (λ _. refused-stays opening t b now (Advance o s) 3))))
    where
      ph : ℕ
      ph = phase (row t.seats s)

      Q : Outcome → Type 0
      Q = StaysMirrored opening b (Advance o s)

  advance-stays : StaysMirrored opening b (Advance o s) (advance t o s)
  unfolding advance
  advance-stays = unless-stays opening t b now (Advance o s) (seat_refusal t o s storing) _ (λ e. advance_in_stays (fine t o s false storing e))

  abandon-stays : StaysMirrored opening b (Abandon o s) (abandon t o s)
  unfolding abandon
  abandon-stays =
      unless-stays opening t b now (Abandon o s) (seat_refusal t o s checking) _
      (λ e. let f = fine t o s false checking e in drop-stays opening t b now o s checking f f.phase_in)

-- ONE CALL
-- where a Setup is answered ready, the values are the opening values from then on
abbrev Went : List ℕ → Tables → Observer → Call → Outcome → Type 0
Went values t b c z = Mirrored (values_of (cond (begins c z.answer) t.values values)) z.tables (observe b c z.answer)

call_mirrored : (values : List ℕ) (t : Tables) (b : Observer) → Mirrored (values_of values) t b → (c : Call) → Went values t b c (step t c)
unfolding step is_setup
call_mirrored values t b now (Setup start plan) =
    unfold setup observe in
    cond_ind (Went values t b (Setup start plan)) (eqb (setup_refusal t start plan) 0) (λ e. setup_mirrored t start plan plan (eqb-true _ _ e)) (λ _. now)
call_mirrored values t b now (Open o) = open_stays (values_of values) t b now o
call_mirrored values t b now (Read o s item) = read_stays (values_of values) t b now o s item
call_mirrored values t b now (Write o s item v) = write-stays (values_of values) t b now o s item v
call_mirrored values t b now (Advance o s) = advance-stays (values_of values) t b now o s
call_mirrored values t b now (Abandon o s) = abandon-stays (values_of values) t b now o s

-- the first Setup may find tables of any contents
first_mirrored : (t : Tables) (b : Observer) (c : Call) → begins c (step t c).answer ≡ true →
    Mirrored (values_of t.values) (step t c).tables (observe b c (step t c).answer)
unfolding step is_setup
first_mirrored t b c q =
    let z = begins_is c (step t c).answer q in
    rw z.2 (first z.0 z.1 (rw z.2 at z.3))
  where
    first : (start : ℕ) (plan : List ℕ) → kind (setup t start plan).answer ≡ ready →
        Mirrored (values_of t.values) (setup t start plan).tables (observe b (Setup start plan) (setup t start plan).answer)
    first start plan r = rw (begins_anew b start plan _ r) (setup_began t start plan plan r)

-- ANY CALLS
calls_mirrored : (cs : List Call) (values : List ℕ) (t : Tables) (b : Observer) → Mirrored (values_of values) t b →
    Mirrored (values_of (opening_from values t cs)) (run t cs) (observed b (history t cs))
unfolding opening_from run history observed
calls_mirrored [] values t b now = now
calls_mirrored (c ∷ cs) values t b now =
    calls_mirrored cs (cond (begins c (step t c).answer) t.values values) (step t c).tables (observe b c (step t c).answer)
    (call_mirrored values t b now c)

since_mirrored : (cs : List Call) (values : List ℕ) (t : Tables) (b : Observer) → SomeSetup (history t cs) →
    Mirrored (values_of (opening_from values t cs)) (run t cs) (observed b (history t cs))
unfolding opening_from run history observed
since_mirrored [] values t b some = absurd (not-nil some.1)
since_mirrored (c ∷ cs) values t b some =
    ⊎_elim
    (λ (q : some.0 ≡ record { call = c; answer = (step t c).answer }).
    let e : begins c (step t c).answer ≡ true = sym (ap (λ (z : Event). begins z.call z.answer) q) ∙ some.2 in
    rw e (calls_mirrored cs t.values (step t c).tables (observe b c (step t c).answer) (first_mirrored t b c e)))
    (λ (i : In some.0 (history (step t c).tables cs)).
    since_mirrored cs (cond (begins c (step t c).answer) t.values values) (step t c).tables (observe b c (step t c).answer) (some.0, i, some.2))
    (uncons some.1)

opening-same : (cs : List Call) (values : List ℕ) (t : Tables) → NoSetup (history t cs) → opening_from values t cs ≡ values
unfolding opening_from history
opening-same [] values t n = refl
opening-same (c ∷ cs) values t n =
    rw (n (record { call = c; answer = (step t c).answer }) (here refl)) (opening-same cs values (step t c).tables (λ e i. n e (there i)))

-- WHAT IT COMES TO
-- a row shows a store left only in phase 4, at a position below its writes
store_left-row : (n : ℕ) (g : List ℕ) (item : ℕ) → StoreLeft (view n g) item → (phase g ≡ 4) × (position g < writes g)
unfolding seat_of
store_left-row n g item = go (phase g)
  where
    go : (ph : ℕ) → StoreLeft (seat_of n ph (position g) (reads g) (writes g) (time g) (entry_at g) (write_at g)) item → (ph ≡ 4) × (position g < writes g)
    go zero z = absurd z
    go (suc zero) z = absurd z
    go (suc (suc zero)) z = absurd z
    go (suc (suc (suc zero))) z = absurd z
    go (suc (suc (suc (suc zero)))) z =
        (refl, let y = seg_in (write_at g) (writes g - position g) (position g) z.0 z.1 in omega (arith, y.1, y.2))
    go (suc (suc (suc (suc (suc m))))) z = absurd z

promised : (opening : Values) (t : Tables) (b : Observer) → Mirrored opening t b → Serializable opening b t
promised opening t b now =
    record {
      right = rw (← now.agree.order) now.inv.right;
      final = λ all item l.
          rw (← now.agree.order) (inv_final opening now.σ now.inv
          (λ s q z. none all s (store_left-row (b.seats s).key (row t.seats s) q (rw (now.agree.rows s) at z)) (dec_lt s seat_count)) item)
          ∙ (now.agree.shown item (omega (arith, now.agree.sized.same))).is_value;
      by-time = λ T i. now.inv.by-time.sealed T (rw now.agree.order (in_serial T b.sealed i));
    }
  where
    none : AllStored b → (s : ℕ) → (phase (row t.seats s) ≡ 4) × (position (row t.seats s) < writes (row t.seats s)) → Dec (s < seat_count) → ⊥
    none all s p (yes h) =
        omega (arith, p.1, all s h, (now.agree.seen s (λ e. let q : ◌≡◌ {A = ℕ} 4 0 = sym p.0 ∙ e in omega arith)).is_left p.0)
    none all s p (no h) =
        let q : ◌≡◌ {A = ℕ} 4 0 = sym p.0 ∙ ap phase (row_past t.seats s now.agree.sized.rows (omega arith)) in omega arith

-- THE THEOREM
pub serial_order : SerialOrder
unfolding SerialOrder
serial_order t start plan r cs n =
    let u : Tables = (setup t start plan).tables in
    promised (values_of t.values) (run u cs) (observed nothing (history u cs))
    (rw (opening-same cs t.values u n) at (calls_mirrored cs t.values u nothing (setup_began t start plan [] r)))

pub since_last_setup : SinceLastSetup
unfolding SinceLastSetup
since_last_setup t cs some = promised _ _ _ (since_mirrored cs t.values t nothing some)

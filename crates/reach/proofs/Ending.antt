-- Once Sealed, exactly w + 1 more Advances end it: the last theorem of specs/Progress.
use Prim.Native.Nat.{ℕ, zero, suc, ◌+◌, ◌*◌, ◌<◌}
use mathlib.Core.Path.{◌≡◌, refl, sym, ap, ◌∙◌}
use mathlib.Core.Logic.{◌≢◌}
use mathlib.Core.Bool.{Bool, true, false, true≢false}
use mathlib.Core.List.Memᴰ.{head as here}
use mathlib.Core.List.Memᴰ.{tail as there}
use mathlib.Core.List.{List, [], ◌∷◌, ◌++◌}
use native.Mathlib.Omega.{arith}
use borrow.Author.Tests.{eqb-true, eqb-false, eq-eqb, ne_eqb}
use lib.Dec.{eqb}
use lib.ListN.{length, take, replicate, length-append, length-replicate}
use lib.Seq.{take-nil}
use Rattle.rules.specs.Layout.{seat_count, row, phase, position, writes, storing, working, checking}
use Rattle.rules.specs.Tables.{Tables, Outcome, answered, unless}
use Rattle.rules.specs.Refusals.{refusal, record_refusal, seat_refusal}
use Rattle.rules.specs.Plan.{setup_refusal, setup, open_refusal, free_seat, open_seat}
use Rattle.rules.specs.Work.{read_in, read, write_in, write}
use Rattle.rules.specs.Advance.{let_go, advance_in, advance, abandon}
use Rattle.rules.specs.Answers.{sealed, stored, done, refused, kind, number}
use Rattle.rules.specs.Calls.{Call, Setup, Open, Read, Write, Advance, Abandon, step, run, Event, history}
use Rattle.rules.specs.declared.Answer.{Answer}
use Rattle.rules.specs.declared.Answer.TheVariants.{Ready, Seat, Value, Noted, Locked, Timed, Checked, Sealed, Stored, Done, Dropped, Refused, Aborted}
use Rattle.rows.specs.Fine.{Fine, fine}
use Rattle.observer.specs.Observer.{Seen, Observer, given_to, begun_with, on_advance, observe, observed, is_setup, begins, is_advance, NoSetup}
use Rattle.observer.proofs.Changes.{changed-same, changed_other, refusal-shows, its_advance}
use Rattle.reach.specs.Reached.{Reached, begun, seen}
use Rattle.reach.specs.Counts.{advance_count, write_count, read_count}
use Rattle.reach.specs.Life.{advanced}
use Rattle.reach.specs.Progress.{advances_of, ending, EndsExactly}
use Rattle.reach.proofs.Tests.{by}
use Rattle.reach.proofs.Rows.{steps_four}
use Rattle.reach.proofs.Script.{kind_sealing}
use Rattle.reach.proofs.Opens.{free-seat}
use Rattle.reach.proofs.Reached.{reached_in_order}
use Rattle.reach.proofs.Observed.{writes_are, reads_are}
use Rattle.reach.proofs.Life.{advances_are, sealed_four, says}
use Rattle.reach.proofs.Progress.{holder_is, Goes, stores, ends, goes}

unless-refused : (why : ℕ) (t : Tables) (o : Outcome) → why ≢ 0 → unless why t o ≡ answered (Refused why) t
unless-refused why t o d = rw (ne_eqb why 0 d) refl

not-refused : (t : Tables) (o s : ℕ) → kind (advanced t o s) ≢ refused → Fine t o s storing
unfolding step advance
not-refused t o s d =
    let why : ℕ = seat_refusal t o s storing in
    fine t o s false storing
    (by (eqb why 0) (λ e. eqb-true why 0 e)
    (λ e. absurd (d (ap (λ (x : Outcome). kind x.answer) (unless-refused why t (advance_in t s) (eqb-false why 0 e))))))

-- ONE CALL MORE
run_more : (t : Tables) (cs : List Call) (c : Call) → run t (cs ++ (c ∷ [])) ≡ (step (run t cs) c).tables
unfolding run
run_more t [] c = refl
run_more t (d ∷ cs) c = run_more (step t d).tables cs c

event : Tables → Call → Event
event t c = record { call = c; answer = (step t c).answer }

history_more : (t : Tables) (cs : List Call) (c : Call) → history t (cs ++ (c ∷ [])) ≡ history t cs ++ (event (run t cs) c ∷ [])
unfolding run history event
history_more t [] c = refl
history_more t (d ∷ cs) c = ap (λ (es : List Event). event t d ∷ es) (history_more (step t d).tables cs c)

observed_more : (b : Observer) (es : List Event) (e : Event) → observed b (es ++ (e ∷ [])) ≡ observe (observed b es) e.call e.answer
unfolding observed
observed_more b [] e = refl
observed_more b (d ∷ es) e = observed_more (observe b d.call d.answer) es e

more : {t : Tables} (z : Reached t) (c : Call) → Reached (step t c).tables
more z c =
    record {
      opening = z.opening;
      start = z.start;
      plan = z.plan;
      calls = z.calls ++ (c ∷ []);
      answered = z.answered;
      now = run_more (begun z) z.calls c ∙ ap (λ (t : Tables). (step t c).tables) z.now;
    }

seen_more : {t : Tables} (z : Reached t) (c : Call) → seen (more z c) ≡ observe (seen z) c (step t c).answer
unfolding more event
seen_more z c =
    ap (observed (begun_with z.plan)) (history_more (begun z) z.calls c)
    ∙ observed_more (begun_with z.plan) (history (begun z) z.calls) (event (run (begun z) z.calls) c)
    ∙ ap (λ (t : Tables). observe (seen z) c (step t c).answer) z.now

-- what an Advance shows of its seat
shown_more : {t : Tables} (z : Reached t) (o s : ℕ) (a : Answer) → advanced t o s ≡ a → (seen (more z (Advance o s))).seats s ≡ on_advance ((seen z).seats s) a
unfolding observe
shown_more z o s a e =
    ap (λ (b : Observer). b.seats s) (seen_more z (Advance o s)) ∙ changed-same s (on_advance ((seen z).seats s) _) (seen z).seats
    ∙ ap (on_advance ((seen z).seats s)) e

-- A SEALED SEAT, whatever others do
module _ (t : Tables) (z : Reached t) (s : ℕ) (low : s < seat_count) (h : ((seen z).seats s).is_sealed ≡ true) where
  four : phase (row t.seats s) ≡ 4
  four = sealed_four t z s low h

  -- a call that names it is refused, but for an Advance by its holder
  too_late : (o : ℕ) (unknown : Bool) (last : ℕ) → last < storing → refusal t o s unknown last ≢ 0
  too_late o unknown last l e = let p = four in let a = (fine t o s unknown last e).phase_in in omega arith

  no_holder : (o : ℕ) → o ≢ ((seen z).seats s).holder → seat_refusal t o s storing ≢ 0
  no_holder o d e = d (sym (fine t o s false storing e).own ∙ sym (holder_is t z s low))

  -- so a call that is neither its holder's Advance nor a Setup answered ready tells nothing new of it
  abbrev Still : Call → Type 0
  Still c = (observe (seen z) c (step t c).answer).seats s ≡ (seen z).seats s

  refused_still : (c : Call) (n : ℕ) → step t c ≡ answered (Refused n) t → Still c
  refused_still c n e = rw e (ap (λ (b : Observer). b.seats s) (refusal-shows (seen z) c n))

  -- a call that names seat j
  seat_still : (c : Call) (j n : ℕ) → (s ≢ j → Still c) → (s ≡ j → step t c ≡ answered (Refused n) t) → Still c
  seat_still c j n other f = by (eqb s j) (λ e. refused_still c n (f (eqb-true s j e))) (λ e. other (eqb-false s j e))

  still : (c : Call) → is_advance ((seen z).seats s).holder s c ≡ false → begins c (step t c).answer ≡ false → Still c
  unfolding is_advance step setup open_seat read write advance abandon observe is_setup
  still (Setup start plan) f d =
      let why : ℕ = setup_refusal t start plan in
      by (eqb why 0) (λ e. absurd (true≢false (rw e at d))) (λ e. refused_still (Setup start plan) why (unless-refused why t _ (eqb-false why 0 e)))
  still (Open o) f d =
      by (eqb (open_refusal t o) 0)
      (λ e. let q = free-seat t (reached_in_order t z) o (eqb-true _ 0 e) in
      let p = four in
      let ne : s ≢ free_seat t.seats = (λ y. let zero-phase : phase (row t.seats s) ≡ 0 = rw y q.1 in omega arith) in
      rw e (changed_other (free_seat t.seats) (given_to o) (seen z).seats s ne))
      (λ e. refused_still (Open o) (open_refusal t o) (unless-refused (open_refusal t o) t _ (eqb-false _ 0 e)))
  still (Read o j x) f d =
      seat_still (Read o j x) j (record_refusal t o j x working) (changed_other j _ (seen z).seats s)
      (λ e. unless-refused (record_refusal t o j x working) t (read_in t j x) (rw (← e) (too_late o _ working (omega arith))))
  still (Write o j x v) f d =
      seat_still (Write o j x v) j (record_refusal t o j x working) (changed_other j _ (seen z).seats s)
      (λ e. unless-refused (record_refusal t o j x working) t (write_in t j x v) (rw (← e) (too_late o _ working (omega arith))))
  still (Advance o j) f d =
      seat_still (Advance o j) j (seat_refusal t o j storing) (changed_other j _ (seen z).seats s)
      (λ e. unless-refused (seat_refusal t o j storing) t (advance_in t j)
      (rw (← e) (no_holder o
      (λ q. let y : ◌≡◌ {A = Bool} true false = rw (eq-eqb o ((seen z).seats s).holder q, eq-eqb j s (sym e)) at f in absurd (true≢false y)))))
  still (Abandon o j) f d =
      seat_still (Abandon o j) j (seat_refusal t o j checking) (changed_other j _ (seen z).seats s)
      (λ e. unless-refused (seat_refusal t o j checking) t (let_go t j (Dropped j)) (rw (← e) (too_late o false checking (omega arith))))

-- EXACTLY THE STORES THAT ARE LEFT, AND ONE MORE. The seat is sealed by o, with n stores to go
record StoresToGo (x : Seen) (o n : ℕ) : Type 0 where
  is_sealed : x.is_sealed ≡ true
  by_holder : x.holder ≡ o
  to_go : advance_count x + n + 1 ≡ 2 * write_count x + read_count x + 3

abbrev EndsIn : ℕ → List ℕ → Type 0
EndsIn n words = take (suc n) words ≡ take (length words) (ending n)

-- its holder's Advance, and what comes after it
advance-run : (t : Tables) (z : Reached t) (o s n : ℕ) → s < seat_count → StoresToGo ((seen z).seats s) o n → (rest : List ℕ) →
    ((m : ℕ) → StoresToGo ((seen (more z (Advance o s))).seats s) o m → EndsIn m rest) → EndsIn n (kind (advanced t o s) ∷ rest)
unfolding on_advance observe
advance-run t z o s n low k rest next = go n (goes t z s low k.is_sealed) counted
  where
    counted : writes (row t.seats s) ≡ position (row t.seats s) + n
    counted =
        let a = steps_four (row t.seats s) (sealed_four t z s low k.is_sealed) in
        let m = advances_are t z s low in
        let x = writes_are t z s in
        let y = reads_are t z s in
        let q = k.to_go in
        omega arith

    told : (a : Answer) → advanced t ((seen z).seats s).holder s ≡ a → advanced t o s ≡ a
    told a e = ap (λ (p : ℕ). advanced t p s) (sym k.by_holder) ∙ e

    after : (x : ℕ) → advanced t o s ≡ Stored x → (seen (more z (Advance o s))).seats s ≡ on_advance ((seen z).seats s) (Stored x)
    after x e = shown_more z o s (Stored x) e

    go : (n : ℕ) → Goes t z s low (advanced t ((seen z).seats s).holder s) → writes (row t.seats s) ≡ position (row t.seats s) + n →
        EndsIn n (kind (advanced t o s) ∷ rest)
    go zero (stores x l e) c = absurd (omega arith)
    go (suc m) (ends x l e) c = absurd (omega arith)
    go zero (ends x l e) c = rw (told _ e) (ap (λ (l : List ℕ). done ∷ l) (sym (take-nil (length rest))))
    go (suc m) (stores x l e) c =
        let a = told _ e in
        rw a (ap (λ (l : List ℕ). stored ∷ l) (next m (rw (after x a) (one_less m c))))
      where
        one_less : (m : ℕ) → writes (row t.seats s) ≡ position (row t.seats s) + suc m → StoresToGo (on_advance ((seen z).seats s) (Stored x)) o m
        one_less m c =
            let n-is : n ≡ suc m = (let d = counted in omega arith) in
            let q = k.to_go in
            let one = length-append ((seen z).seats s).advances (stored ∷ []) in
            record { is_sealed = k.is_sealed; by_holder = k.by_holder; to_go = omega arith }

sealed-run : (t : Tables) (z : Reached t) (o s n : ℕ) → s < seat_count → StoresToGo ((seen z).seats s) o n → (cs : List Call) →
    NoSetup (history t cs) → EndsIn n (advances_of o s (history t cs))
unfolding history advances_of
sealed-run t z o s n low k [] q = refl
sealed-run t z o s n low k (c ∷ cs) q =
    let none = q (event t c) (unfold event in here refl) in
    let rest : NoSetup (history (step t c).tables cs) = λ e i. q e (there i) in
    by (is_advance o s c)
    (λ e. rw (e, its_advance o s c e)
    (advance-run t z o s n low k _
    (λ m l. sealed-run (step t (Advance o s)).tables (more z (Advance o s)) o s m low l cs (rw (its_advance o s c e) at rest))))
    (λ e. let same : (seen (more z c)).seats s ≡ (seen z).seats s =
    ap (λ (b : Observer). b.seats s) (seen_more z c) ∙ still t z s low k.is_sealed c (rw k.by_holder e) (unfold event in none) in
    rw e (sealed-run (step t c).tables (more z c) o s n low (rw same k) cs rest))

-- the answer that says Sealed
sealed_is : (a : Answer) → kind a ≡ sealed → a ≡ Sealed (number a)
sealed_is (Ready n) e = absurd (omega arith)
sealed_is (Seat n) e = absurd (omega arith)
sealed_is (Value n) e = absurd (omega arith)
sealed_is (Noted n) e = absurd (omega arith)
sealed_is (Locked n) e = absurd (omega arith)
sealed_is (Timed n) e = absurd (omega arith)
sealed_is (Checked n) e = absurd (omega arith)
sealed_is (Sealed n) e = refl
sealed_is (Stored n) e = absurd (omega arith)
sealed_is (Done n) e = absurd (omega arith)
sealed_is (Dropped n) e = absurd (omega arith)
sealed_is (Refused n) e = absurd (omega arith)
sealed_is (Aborted n) e = absurd (omega arith)

ending-length : (n : ℕ) → length (ending n) ≡ suc n
ending-length n = let a = length-append (replicate n stored) (done ∷ []) in let b : length (replicate n stored) ≡ n = length-replicate n stored in omega arith

-- ONCE SEALED, EXACTLY w + 1 MORE ADVANCES END IT
pub ends_exactly : (t : Tables) → EndsExactly t
unfolding on_advance observe
ends_exactly t z o s e cs q =
    let f = not-refused t o s (λ y. omega arith) in
    let low = f.seat_in in
    let x : Seen = (seen z).seats s in
    let a : advanced t o s ≡ Sealed (number (advanced t o s)) = sealed_is (advanced t o s) e in
    let now = shown_more z o s (Sealed (number (advanced t o s))) a in
    let n = kind_sealing (says t z s low o (λ y. omega arith)) e in
    let one = length-append x.advances (sealed ∷ []) in
    let l : StoresToGo ((seen (more z (Advance o s))).seats s) o (write_count x) =
    rw now (record { is_sealed = refl; by_holder = holder_is t z s low ∙ f.own; to_go = omega arith }) in
    rw (ending-length (write_count x)) (sealed-run (step t (Advance o s)).tables (more z (Advance o s)) o s (write_count x) low l cs q)

-- Every refusal exactly when it is due: the theorem of specs/Refusals.
use Prim.Native.Nat.{ℕ, ◌<◌, ◌≤◌, max}
use mathlib.Core.Path.{◌≡◌, refl, sym, ap, ◌∙◌, subst}
use mathlib.Core.Logic.{◌≢◌, ◌↔◌}
use mathlib.Core.Bool.{Bool, true, false, not, ◌&&◌, ◌||◌}
use mathlib.Core.List.{List}
use native.Mathlib.Omega.{arith}
use borrow.Author.Tests.{eqb-true, eqb-false, eq-eqb, ltb-true, lt-ltb, le-ltb, leb-true, leb-false, le-leb}
use lib.Dec.{eqb, ltb, leb}
use lib.ListN.{length, get_or}
use Rattle.clock.specs.Word.{is_locked}
use Rattle.rules.specs.Tests.{any, count, one_of, first_of}
use Rattle.rules.specs.Layout.{owners, seat_count, most_reads, most_writes, share_at, limit_at, row, phase}
use Rattle.rules.specs.Layout.{owner, reads, writes, share, storing, checking, working}
use Rattle.rules.specs.Tables.{Tables, Outcome, unless}
use Rattle.rules.specs.Refusals.{misnamed, foreign, refusal, seat_refusal, row_refusal, record_refusal}
use Rattle.rules.specs.Plan.{setup_refusal, setup, claim, claims, crowded, open_refusal, open_seat}
use Rattle.rules.specs.Work.{read_of, write_of, first_read, read_in, read, write_in, write}
use Rattle.rules.specs.Advance.{let_go, advance_in, advance, abandon}
use Rattle.rules.specs.Answers.{refused, kind, number}
use Rattle.rules.specs.Calls.{Call, Setup, Open, Read, Write, Advance, Abandon, step}
use Rattle.rules.specs.declared.Answer.{Answer}
use Rattle.rules.specs.declared.Answer.TheVariants.{Refused, Dropped}
use Rattle.rows.specs.Search.{none_any}
use Rattle.rows.specs.Fine.{fine, item_in}
use Rattle.observer.specs.Observer.{Seen}
use Rattle.observer.proofs.Shows.{sees_write, sees_known}
use Rattle.reach.specs.Reached.{Reached, records, seen}
use Rattle.reach.specs.Counts.{advance_count, is_of, seats_of}
use Rattle.reach.specs.Refusals.{or_else, claimed, is_held, seat_due, read_due, write_due, open_due, due, EveryRefusal, has_advanced}
use Rattle.reach.proofs.Tests.{by, same_test, some-any}
use Rattle.reach.proofs.Count.{one, sum_same, count-has, count-some}
use Rattle.reach.proofs.InOrder.{locks, steps_taken, InOrder}
use Rattle.reach.proofs.Script.{kind_given}
use Rattle.reach.proofs.Rows.{undamaged, steps_early, steps_three, steps_four}
use Rattle.reach.proofs.Steps.{seen_of, row_shows}
use Rattle.reach.proofs.Opens.{not-unsized, open_refusal_lem, open_no_owner}
use Rattle.reach.proofs.Effects.{seat_in, used_of}
use Rattle.reach.proofs.Reached.{records-told, reached_in_order}
use Rattle.reach.proofs.Observed.{seat_is, plan-stays, writes_are, reads_are}
use Rattle.reach.proofs.FairShare.{held-seen}
use Rattle.reach.proofs.Life.{advance-kind, advances_are, advanced_past}

-- an answer is a refusal exactly where n is not 0, and then carries n
pub record Exactly (a : Answer) (n : ℕ) : Type 0 where
  pub if_due : n ≢ 0 → a ≡ Refused n
  pub else_not : n ≡ 0 → kind a ≢ refused

exactly_iff : {a : Answer} {n : ℕ} → Exactly a n → (m : ℕ) → (a ≡ Refused m) ↔ ((m ≢ 0) × (n ≡ m))
exactly_iff {a} {n} x m = (
  λ e. let kd : kind a ≡ refused = ap kind e in
      let d : n ≢ 0 = (λ q. x.else_not q kd) in
      let same : n ≡ m = ap number (sym (x.if_due d) ∙ e) in
      ((λ q. d (same ∙ q)), same),
  λ q. x.if_due (λ e. q.0 (sym q.1 ∙ e)) ∙ ap Refused q.1,
)

of_due : {a : Answer} {n m : ℕ} → n ≡ m → Exactly a n → Exactly a m
of_due {a} e x = subst (Exactly a) e x

exactly_none : (a : Answer) → kind a ≢ refused → Exactly a 0
exactly_none a d = record { if_due = λ q. absurd (q refl); else_not = λ q. d }

exactly_refused : (n : ℕ) → n ≢ 0 → Exactly (Refused n) n
exactly_refused n d = record { if_due = λ q. refl; else_not = λ q. absurd (d q) }

-- the first number that is due, and then what the outcome is refused for
exactly_unless : (why m : ℕ) (t : Tables) (o : Outcome) → (why ≡ 0 → Exactly o.answer m) → Exactly (unless why t o).answer (or_else why m)
exactly_unless why m t o f = by (eqb why 0) (λ e. rw e (f (eqb-true why 0 e))) (λ e. rw e (exactly_refused why (eqb-false why 0 e)))

exactly_only : (why : ℕ) (t : Tables) (o : Outcome) → (why ≡ 0 → kind o.answer ≢ refused) → Exactly (unless why t o).answer why
exactly_only why t o f =
    by (eqb why 0)
    (λ e. let q = eqb-true why 0 e in rw (e, q) (exactly_none o.answer (f q)))
    (λ e. rw e (exactly_refused why (eqb-false why 0 e)))

-- one is counted exactly where one passes
any-count : (p : ℕ → Bool) (n : ℕ) (b : Bool) → count p n ≡ one b → any p n ≡ b
any-count p n true e = let q = count-some p n (omega arith) in some-any p n q.0 q.1 q.2
any-count p n false e =
    none_any p n (λ i l. by (p i) (λ y. absurd (let a : one (p i) ≡ 1 = ap one y in let m = count-has p i n l in omega arith)) (λ y. y))

-- the rules' test for 4, of a row and of what is told of it
foreign_is : (g : List ℕ) (o : ℕ) → foreign g o ≡ not (is_of o (seen_of g))
unfolding foreign one_of
foreign_is g o = either (eqb (phase g) 0) (eqb (owner g) o)
  where
    either : (a b : Bool) → (a || not b) ≡ not (not a && b)
    either true b = refl
    either false b = refl

module _ (t : Tables) (z : Reached t) where
  k : InOrder t
  k = reached_in_order t z

  -- A CALL THAT NAMES A SEAT
  pub refusal_is : (o s : ℕ) (unknown : Bool) (last : ℕ) (late : Bool) → (s < seat_count → ltb last (phase (row t.seats s)) ≡ late) →
      refusal t o s unknown last ≡ seat_due (records z) (seen z) o s unknown late
  unfolding refusal row_refusal first_of seat_due
  refusal_is o s unknown last late h =
      rw (not-unsized t k)
      (by (misnamed o s unknown) (λ e. rw e refl)
      (λ e. let low = seat_in o s unknown e in
      let sound = undamaged (row t.seats s) (length t.words) (k.rows s low) in
      rw (e, sound, foreign_is (row t.seats s) o, h low, seat_is t z s) refl))

  -- too late for Read and Write, for Abandon, for Advance
  module _ (s : ℕ) (low : s < seat_count) where
    abbrev g : List ℕ
    g = row t.seats s

    phase_in : phase (row t.seats s) ≤ 4
    phase_in = by (eqb (phase g) 0) (λ e. let q = eqb-true (phase g) 0 e in omega arith) (λ e. ((k.rows s low).in_use (eqb-false _ _ e)).head.phase_in)

    steps_past : 1 < phase (row t.seats s) → 1 ≤ steps_taken (row t.seats s)
    steps_past h =
        let p = phase_in in
        let hd = ((k.rows s low).in_use (omega arith)).head in
        by (eqb (phase g) 2)
        (λ e. let q = eqb-true (phase g) 2 e in let a = steps_early g (omega arith) in let f = hd.locking q in omega arith)
        (λ e. let d : phase g ≢ 2 = eqb-false _ _ e in by (eqb (phase g) 3)
        (λ y. let q = eqb-true (phase g) 3 y in let a = steps_three g q in omega arith)
        (λ y. let n : phase g ≢ 3 = eqb-false _ _ y in let a = steps_four g (omega arith) in omega arith))

    late_work : ltb 1 (phase (row t.seats s)) ≡ leb 1 (advance_count ((seen z).seats s))
    late_work =
        same_test _ _
        (λ e. let a = steps_past (ltb-true 1 (phase g) e) in let m = advances_are t z s low in le-leb 1 (advance_count ((seen z).seats s)) (omega arith))
        (λ e. lt-ltb 1 (phase g) (advanced_past t z s low (leb-true 1 (advance_count ((seen z).seats s)) e)))

    pub late_leave : ltb 3 (phase (row t.seats s)) ≡ ((seen z).seats s).is_sealed
    late_leave =
        let p = phase_in in
        same_test _ (eqb (phase g) 4)
        (λ e. let a = ltb-true 3 (phase g) e in eq-eqb (phase g) 4 (omega arith))
        (λ e. let a = eqb-true (phase g) 4 e in lt-ltb 3 (phase g) (omega arith))
        ∙ ap (λ (x : Seen). x.is_sealed) (sym (seat_is t z s))

    pub never_late : ltb 4 (phase (row t.seats s)) ≡ false
    never_late = le-ltb 4 (phase g) phase_in

  -- READ AND WRITE, once the seat is in order
  held_is : (x : ℕ) → x < length t.words → is_held (records z) (seen z) x ≡ is_locked (get_or t.words x 0)
  held_is x l =
      ap (λ (p : ℕ → Bool). any p seat_count) (λ i j. (seat_is t z j i).locked x)
      ∙ any-count (λ j. locks (row t.seats j) x) seat_count _ (k.held_once x l)

  read_exact : (s x : ℕ) → x < length t.words → Exactly (read_in t s x).answer (read_due (records z) (seen z) s x)
  unfolding read_in first_read read_due
  read_exact s x inside =
      let g : List ℕ = row t.seats s in
      rw (held_is x inside, ← reads_are t z s, seat_is t z s, sees_known g (seen_of g) (row_shows g) x)
      (by (ltb (write_of g x) (writes g)) (λ e. rw e (exactly_none _ (λ q. omega arith)))
      (λ e0. rw e0 (by (ltb (read_of g x) (reads g)) (λ e. rw e (exactly_none _ (λ q. omega arith)))
      (λ e1. rw e1 (by (leb most_reads (reads g)) (λ e. rw e (exactly_refused 8 (omega arith)))
      (λ e2. rw e2 (by (is_locked (get_or t.words x 0)) (λ e. rw e (exactly_refused 10 (omega arith))) (λ e. rw e (exactly_none _ (λ q. omega arith))))))))))

  write_exact : (s x v : ℕ) → Exactly (write_in t s x v).answer (write_due (records z) (seen z) s x)
  unfolding write_in write_due
  write_exact s x v =
      let g : List ℕ = row t.seats s in
      rw (← writes_are t z s, seat_is t z s, sees_write g (seen_of g) (row_shows g) x)
      (by (ltb (write_of g x) (writes g)) (λ e. rw e (exactly_none _ (λ q. omega arith)))
      (λ e. rw e (by (leb most_writes (writes g)) (λ q. rw q (exactly_refused 9 (omega arith))) (λ q. rw q (exactly_none _ (λ y. omega arith))))))

  -- OPEN
  claims_are : claims t.seats ≡ claimed (records z) (seen z)
  unfolding claims claim
  claims_are =
      sum_same (λ o. max (seats_of o (seen z)) (share (seen z).plan o)) (claim t.seats) owners
      (λ o l. let a = held-seen t z o in let b : share t.seats o ≡ share (seen z).plan o = plan-stays t z (share_at o) (omega arith) in omega arith)

  open_is : (o : ℕ) → open_refusal t o ≡ open_due (records z) (seen z) o
  unfolding open_due crowded
  open_is o =
      by (leb owners o)
      (λ e. open_no_owner t k o (leb-true owners o e) ∙ rw e refl)
      (λ e. let low = leb-false owners o e in
      rw (
        open_refusal_lem t k o low,
        e,
        held-seen t z o,
        claims_are,
        plan-stays t z (share_at o) (omega arith),
        plan-stays t z (limit_at o) (omega arith),
      ) refl)

  -- SETUP, over tables whose lengths a Setup has accepted
  setup_is : (start : ℕ) (plan : List ℕ) → setup_refusal t start plan ≡ due (records z) (seen z) (Setup start plan)
  unfolding setup_refusal due
  setup_is start plan = rw (not-unsized t k) refl

  -- ADVANCE AND ABANDON
  advance_is : (o s : ℕ) → seat_refusal t o s storing ≡ due (records z) (seen z) (Advance o s)
  unfolding due
  advance_is o s = refusal_is o s false storing _ (never_late s)

  abandon_is : (o s : ℕ) → seat_refusal t o s checking ≡ due (records z) (seen z) (Abandon o s)
  unfolding due
  abandon_is o s = refusal_is o s false checking _ (late_leave s)

  -- READ AND WRITE, before what they look at themselves
  record_is : (o s x : ℕ) →
      record_refusal t o s x working ≡ seat_due (records z) (seen z) o s (leb (records z) x) (has_advanced (records z) (seen z) s)
  record_is o s x =
      refusal_is o s (leb (length t.words) x) working _ (late_work s)
      ∙ ap (λ (n : ℕ). seat_due (records z) (seen z) o s (leb n x) (has_advanced (records z) (seen z) s)) (records-told t z)

  -- ANY CALL
  pub exact : (c : Call) → Exactly (step t c).answer (due (records z) (seen z) c)
  unfolding step due setup open_seat read write advance abandon let_go
  exact (Setup start plan) = of_due (setup_is start plan) (exactly_only (setup_refusal t start plan) t _ (λ e q. omega arith))
  exact (Open o) = of_due (open_is o) (exactly_only (open_refusal t o) t _ (λ e q. omega arith))
  exact (Read o s x) =
      of_due (ap (λ (n : ℕ). or_else n (read_due (records z) (seen z) s x)) (record_is o s x))
      (exactly_unless (record_refusal t o s x working) _ t (read_in t s x) (λ e. read_exact s x (item_in t o s x working e)))
  exact (Write o s x v) =
      of_due (ap (λ (n : ℕ). or_else n (write_due (records z) (seen z) s x)) (record_is o s x))
      (exactly_unless (record_refusal t o s x working) _ t (write_in t s x v) (λ e. write_exact s x v))
  exact (Advance o s) =
      of_due (advance_is o s)
      (exactly_only (seat_refusal t o s storing) t (advance_in t s)
      (λ e. kind_given (advance-kind t s (used_of t k o s storing (fine t o s false storing e)))))
  exact (Abandon o s) =
      of_due (abandon_is o s)
      (exactly_only (seat_refusal t o s checking) t (let_go t s (Dropped s)) (λ e q. omega arith))

-- EVERY REFUSAL, EXACTLY WHEN IT IS DUE
pub every_refusal : (t : Tables) → EveryRefusal t
every_refusal t z c = exactly_iff (exact t z c)

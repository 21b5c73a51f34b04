-- A transaction's life: the theorem of specs/Life.
use Prim.Native.Nat.{ℕ, ◌+◌, ◌*◌, ◌<◌, ◌≤◌}
use mathlib.Core.Path.{◌≡◌, refl, sym, ap, ◌∙◌}
use mathlib.Core.Logic.{◌≢◌}
use mathlib.Core.Bool.{true, Bool, false}
use mathlib.Core.List.{List}
use native.Mathlib.Omega.{arith}
use borrow.Author.Tests.{eqb-true, eqb-false, eq-eqb, ne_eqb, ltb-true, ltb-false, lt-ltb, lt-leb}
use lib.Dec.{ltb, eqb}
use lib.ListN.{length, get_or}
use lib.Seq.{length-take-le}
use Rattle.clock.specs.Word.{top, is_locked}
use Rattle.rules.specs.Tests.{one_of, first_of}
use Rattle.rules.specs.Layout.{owners, seat_count, position_at, row, phase, owner, position, reads, writes, write_item, working, storing, checking}
use Rattle.rules.specs.Tables.{Tables, Outcome, unless}
use Rattle.rules.specs.Answers.{refused, kind}
use Rattle.rules.specs.Refusals.{misnamed, foreign, refusal, seat_refusal, row_refusal}
use Rattle.rules.specs.Work.{read_in, read, write_in, write}
use Rattle.rules.specs.Advance as A
use Rattle.rules.specs.Advance.{let_go, lock_step, time_step, commit_time, judged, ruled, check_step, seal_step, store_step, done_step, lock_phase}
use Rattle.rules.specs.Advance.{check_phase, store_phase, advance_in, advance, abandon}
use Rattle.rules.specs.Calls.{Advance, step}
use Rattle.rules.specs.declared.Answer.TheVariants.{Dropped}
use Rattle.rules.specs.declared.Verdict.{Verdict}
use Rattle.rules.specs.declared.Verdict.TheVariants.{Passes, Extends, Fails}
use Rattle.rows.specs.Fine.{fine}
use Rattle.observer.specs.Observer.{Seen}
use Rattle.reach.specs.Reached.{Reached, seen}
use Rattle.reach.specs.Counts.{advance_count, write_count, read_count}
use Rattle.reach.specs.Life.{script, Life, LifeOfEach}
use Rattle.reach.proofs.Tests.{by}
use Rattle.reach.proofs.Script.{script-length, NextKind, says_aborted, says_locked, says_timed, says_checked, says_sealed}
use Rattle.reach.proofs.Script.{says_stored, says_done, kind-script, kind-done, kind-sealed}
use Rattle.reach.proofs.InOrder.{Used, steps_taken, InOrder}
use Rattle.reach.proofs.Rows.{undamaged, steps_early, steps_three, steps_four, early_fits}
use Rattle.reach.proofs.Opens.{not-unsized}
use Rattle.reach.proofs.Effects.{used_of}
use Rattle.reach.proofs.Reached.{reached_in_order}
use Rattle.reach.proofs.Observed.{seat_is, writes_are, reads_are}

-- AN ADVANCE OF A ROW IN ORDER
module _ (t : Tables) (s : ℕ) (u : Used (length t.words) (row t.seats s)) where
  abbrev g : List ℕ
  g = row t.seats s

  abbrev Says : Outcome → Type 0
  Says o = NextKind (writes g) (reads g) (steps_taken g) (kind o.answer)

  early_kind : phase g ≤ 2 → Says (lock_phase t s)
  unfolding lock_phase lock_step time_step let_go
  early_kind p =
      let a = steps_early g p in
      let f = early_fits g u.head p in
      by (ltb (position g) (writes g))
      (λ e. let l = ltb-true (position g) (writes g) e in
      rw e (by (is_locked (get_or t.words (write_item g (position g)) 0))
      (λ y. rw y (says_aborted (omega arith) refl)) (λ y. rw y (says_locked (omega arith) refl))))
      (λ e. let l = ltb-false (position g) (writes g) e in
      rw e (by (ltb top (commit_time t.words g)) (λ y. rw y (says_aborted (omega arith) refl)) (λ y. rw y (says_timed (omega arith) refl))))

  ruled-kind : phase g ≡ 3 → position g < reads g → (v : Verdict) → Says (ruled t s v)
  unfolding ruled A.passed A.passed_to let_go
  ruled-kind p l Passes = let a = steps_three g p in says_checked (position g) l (omega arith) refl
  ruled-kind p l Extends = let a = steps_three g p in says_checked (position g) l (omega arith) refl
  ruled-kind p l (Fails n) = let a = steps_three g p in says_aborted (omega arith) refl

  pub advance-kind : Says (advance_in t s)
  unfolding advance_in check_phase check_step store_phase seal_step store_step done_step
  advance-kind =
      let h = u.head in
      let hu = h.used in
      let hp = h.phase_in in
      by (eqb (phase g) 1) (λ e1. rw e1 (early_kind (let q = eqb-true (phase g) 1 e1 in omega arith)))
      (λ e1. rw e1 (by (eqb (phase g) 2) (λ e2. rw e2 (early_kind (let q = eqb-true (phase g) 2 e2 in omega arith)))
      (λ e2. rw e2 (by (eqb (phase g) 3)
      (λ e3. let p = eqb-true (phase g) 3 e3 in
      let a = steps_three g p in
      let f = h.checking p in
      rw e3 (by (ltb (position g) (reads g))
      (λ e. rw e (ruled-kind p (ltb-true _ _ e) (judged t s)))
      (λ e. let l = ltb-false (position g) (reads g) e in rw e (says_sealed (omega arith) refl))))
      (λ e3. let d1 : phase g ≢ 1 = eqb-false _ _ e1 in
      let d2 : phase g ≢ 2 = eqb-false _ _ e2 in
      let d3 : phase g ≢ 3 = eqb-false _ _ e3 in
      let p : phase g ≡ 4 = omega arith in
      let a = steps_four g p in
      let f = h.storing p in
      rw (e3, eq-eqb (phase g) 4 p) (by (ltb (position g) (writes g))
      (λ e. let l = ltb-true (position g) (writes g) e in rw e (says_stored (position g) l (omega arith) refl))
      (λ e. let l = ltb-false (position g) (writes g) e in rw e (says_done (omega arith) refl))))))))

  -- how far a row in use can be
  steps_in : steps_taken g < 2 * writes g + reads g + 3
  steps_in =
      let h = u.head in
      let hp = h.phase_in in
      by (ltb (phase g) 3)
      (λ e. let l = ltb-true (phase g) 3 e in let a = steps_early g (omega arith) in let f = early_fits g h (omega arith) in omega arith)
      (λ e. let l = ltb-false (phase g) 3 e in by (eqb (phase g) 3)
      (λ y. let p = eqb-true (phase g) 3 y in let a = steps_three g p in let f = h.checking p in omega arith)
      (λ y. let d : phase g ≢ 3 = eqb-false _ _ y in let p : phase g ≡ 4 = omega arith in let a = steps_four g p in let f = h.storing p in omega arith))

-- A TRANSACTION'S LIFE
module _ (t : Tables) (z : Reached t) (s : ℕ) (low : s < seat_count) where
  k : InOrder t
  k = reached_in_order t z

  -- how far it is, in use or not
  script-fits : steps_taken (row t.seats s) < length (script (writes (row t.seats s)) (reads (row t.seats s)))
  script-fits =
      let g : List ℕ = row t.seats s in
      let a = script-length (writes g) (reads g) in
      by (eqb (phase g) 0)
      (λ e. let q = eqb-true (phase g) 0 e in let b = steps_early g (omega arith) in let c = (k.rows s low).free q position_at (omega arith) in omega arith)
      (λ e. let b = steps_in t s ((k.rows s low).in_use (eqb-false _ _ e)) in omega arith)

  pub advances_are : steps_taken (row t.seats s) ≡ advance_count ((seen z).seats s)
  advances_are =
      let l = script-fits in
      sym (length-take-le (steps_taken (row t.seats s)) _ (omega arith)) ∙ ap advance_count (sym (seat_is t z s))

  pub sealed_four : ((seen z).seats s).is_sealed ≡ true → phase (row t.seats s) ≡ 4
  sealed_four h = eqb-true _ _ (ap (λ (x : Seen). x.is_sealed) (sym (seat_is t z s)) ∙ h)

  -- an Advance that is not refused
  pub says : (o : ℕ) → kind (step t (Advance o s)).answer ≢ refused →
      NextKind (write_count ((seen z).seats s)) (read_count ((seen z).seats s)) (advance_count ((seen z).seats s)) (kind (step t (Advance o s)).answer)
  unfolding step advance
  says o =
      by (eqb (seat_refusal t o s storing) 0)
      (λ e d. let f = fine t o s false storing (eqb-true _ _ e) in
      rw (e, ← writes_are t z s, ← reads_are t z s, ← advances_are) (advance-kind t s (used_of t k o s storing f)))
      (λ e d. absurd (d (rw e refl)))

  -- a call that names the seat is refused where the row is past the call's last phase
  refused_past : (o : ℕ) (unknown : Bool) (last : ℕ) (out : Outcome) → last < phase (row t.seats s) →
      kind (unless (refusal t o s unknown last) t out).answer ≡ refused
  refused_past o unknown last out h =
      by (eqb (refusal t o s unknown last) 0)
      (λ e. let f = fine t o s unknown last (eqb-true _ _ e) in let p = f.phase_in in absurd (omega arith))
      (λ e. rw e refl)

  pub advanced_past : 1 ≤ advance_count ((seen z).seats s) → 1 < phase (row t.seats s)
  advanced_past h =
      let g : List ℕ = row t.seats s in
      let m = advances_are in
      by (eqb (phase g) 0)
      (λ e. let q = eqb-true (phase g) 0 e in
      let a = steps_early g (omega arith) in
      let b = (k.rows s low).free q position_at (omega arith) in
      absurd (omega arith))
      (λ e. let d : phase g ≢ 0 = eqb-false _ _ e in by (eqb (phase g) 1)
      (λ y. let q = eqb-true (phase g) 1 y in let a = steps_early g (omega arith) in let b = ((k.rows s low).in_use d).head.working q in absurd (omega arith))
      (λ y. let q : phase g ≢ 1 = eqb-false _ _ y in omega arith))

  five : phase (row t.seats s) ≡ 4 → seat_refusal t (owner (row t.seats s)) s checking ≡ 5
  unfolding refusal row_refusal misnamed foreign first_of one_of
  five p =
      let g : List ℕ = row t.seats s in
      let u = (k.rows s low).in_use (omega arith) in
      let whose = lt-leb owners (owner g) u.head.owner_in in
      let sound = undamaged g (length t.words) (k.rows s low) in
      let mine = eq-eqb (owner g) (owner g) refl in
      rw (not-unsized t k, whose, lt-leb seat_count s low, sound, ne_eqb (phase g) 0 (omega arith), mine, lt-ltb 3 (phase g) (omega arith)) refl

  pub life : Life t s ((seen z).seats s)
  unfolding step read write abandon
  life =
      record {
        so_far = rw (← advances_are, ← writes_are t z s, ← reads_are t z s) (ap (λ (x : Seen). x.advances) (seat_is t z s));
        in_order = λ o d n. kind-script (says o d) n;
        done_exactly = λ o d. kind-done (says o d);
        never_past = rw (← advances_are, ← writes_are t z s, ← reads_are t z s) script-fits;
        settled = λ h o x v. (refused_past o _ working (read_in t s x) (advanced_past h), refused_past o _ working (write_in t s x v) (advanced_past h));
        never_aborted = λ h o q.
            let p = sealed_four h in
            let a = steps_four (row t.seats s) p in
            let m = advances_are in
            let x = writes_are t z s in
            let y = reads_are t z s in
            kind-sealed (says o (λ e. omega arith)) (omega arith) q;
        not_abandoned = λ h o. let p = sealed_four h in refused_past o false checking (let_go t s (Dropped s)) (omega arith);
        abandon_five = λ h. rw (← ap (λ (x : Seen). x.holder) (sym (seat_is t z s)), five (sealed_four h)) refl;
      }

pub life_of_each : (t : Tables) → LifeOfEach t
life_of_each t z s low = life t z s low

-- Each step of an Advance.
use Prim.Native.Nat.{ℕ, ◌+◌, ◌-◌, ◌<◌, ◌≤◌}
use mathlib.Core.Path.{◌≡◌, refl, sym, ap, ◌∙◌}
use mathlib.Core.Logic.{◌≢◌}
use mathlib.Core.Bool.{Bool, true, false, cond, not, ◌&&◌, ◌||◌, and-true, and-false, true≢false}
use mathlib.Core.List.{List}
use native.Mathlib.Omega.{arith}
use borrow.Author.Tests.{eqb-true, eqb-false, ne_eqb, eq-eqb, ltb-true, ltb-false}
use lib.Dec.{leb, ltb, eqb}
use lib.ListN.{length, get_or, set, length-set}
use Rattle.clock.specs.Word.{top, is_locked, write_time, read_time, with_lock, fresh, extended}
use Rattle.clock.proofs.Laws.{with_lock_is, fresh_is, extended_is}
use Rattle.rules.specs.Layout.{seat_count, seats_length, position_at, time_at, write_item_at, row, put, phase, position, reads, writes, time}
use Rattle.rules.specs.Layout.{kept_write, write_item, write_value}
use Rattle.rules.specs.Places.{length-row}
use Rattle.rules.specs.Tables.{Tables, answered, tables, with_seats, with_words}
use Rattle.rules.specs.Advance.{moved, lock_step, commit_time, time_step, verdict, check_item, judged}
use Rattle.rules.specs.Advance.{stretched, passed, ruled, check_step, passed_to}
use Rattle.rules.specs.Numbers.{word_locked, time_run_out}
use Rattle.rules.specs.Advance.{by_word}
use Rattle.rules.specs.Advance.{seal_step, effect, store_step, done_step, lock_phase, check_phase, store_phase, advance_in}
use Rattle.rules.specs.declared.Answer.{Answer}
use Rattle.rules.specs.declared.Answer.TheVariants.{Locked, Timed, Checked, Sealed, Stored, Done, Aborted}
use Rattle.rules.specs.Numbers.{abort_number}
use Rattle.rules.specs.declared.Abort.TheVariants.{VersionGone}
use Rattle.rules.specs.declared.Verdict.{Verdict}
use Rattle.rules.specs.declared.Verdict.TheVariants.{Passes, Extends, Fails}
use Rattle.rows.specs.Changed.{moved_row, Nudged, not_nudged, nudge_phase, nudge_position, nudge_time}
use Rattle.rows.specs.Becomes.{Becomes, becomes_put, becomes_moved, then-put}
use Rattle.rules.proofs.CommitTime.{commit_kept}
use Rattle.observer.specs.Observer.{on_advance}
use Rattle.observer.proofs.Segments.{length-seg}
use Rattle.observer.proofs.Entries.{write_at, write_entries, nudged_at, nudged_writes}
use Rattle.reach.specs.Invariants.{lock_from, lock_to}
use Rattle.reach.proofs.Tests.{by, or_true, or_false}
use Rattle.reach.proofs.Count.{one, one_le}
use Rattle.reach.proofs.InOrder.{HeadInOrder, Used, locks, lock_count}
use Rattle.reach.proofs.Script.{says_locked, says_timed, says_checked, says_sealed, says_stored}
use Rattle.reach.proofs.Named.{named_yes, named_no, named-same, locks-same, locks-none}
use Rattle.reach.proofs.Rows.{nudged_owner, nudged_head, used_nudged, row-used, from_zero, from_four, to_early, to_late, steps_early}
use Rattle.reach.proofs.Rows.{steps_three, steps_four, early_fits}
use Rattle.reach.proofs.WithinPlan.{held_less}
use Rattle.reach.proofs.Steps.{Follows, StaysTimely, left_four, left-none, Tells, Step, set_ind}
use Rattle.reach.proofs.Freed.{aborts, dones, free_step, lets_go}
use Rattle.reach.proofs.Further.{tells_more}

-- a verdict that extends, extends a word whose write time is the kept one
by_tests : (a b : Bool) (o : Verdict) → cond a Passes (cond (not b) (Fails VersionGone) o) ≡ Extends → b ≡ true
by_tests true b o e = absurd (let z : ◌≡◌ {A = ℕ} 0 1 = cc in omega arith)
by_tests false true o e = refl
by_tests false false o e = absurd (let z : ◌≡◌ {A = ℕ} 0 1 = cc in omega arith)

extends_kept : (kept_w kept_r time word : ℕ) (own : Bool) → verdict kept_w kept_r time word own ≡ Extends → write_time word ≡ kept_w
unfolding verdict by_word
extends_kept kept_w kept_r time word own e = eqb-true (write_time word) kept_w (by_tests (leb time kept_r) (eqb (write_time word) kept_w) _ e)

module _ (t : Tables) (s : ℕ) (size : length t.seats ≡ seats_length) (small : s < seat_count) (u : Used (length t.words) (row t.seats s)) where
  abbrev g : List ℕ
  g = row t.seats s

  whole : Nudged g g (phase g) (position g) (time g)
  whole = not_nudged g (length-row t.seats s size small)

  -- a step whose row is nudged
  nudge_step : (values words seats h : List ℕ) (a : Answer) {ph p tm : ℕ} → Becomes t.seats seats s h → Nudged g h ph p tm →
      length values ≡ length t.values → length words ≡ length t.words → HeadInOrder h → (3 ≤ ph → (i : ℕ) → i < reads g → kept_write g i ≤ tm) →
      Follows t.words words g h → StaysTimely t.words words → Tells on_advance g h a → Step t s on_advance (answered a (tables values words seats))
  nudge_step values words seats h a b n ev ew hd k lk tk told =
      let us = u.head.used in
      record {
        next = h;
        change = record { becomes = b; values = ev; words = ew; in_order = row-used (used_nudged n u hd k); locked = lk; timely = tk };
        mine = held_less g h (omega arith) (nudged_owner n);
        told = told;
      }

  -- the same locks
  same-locks : (h : List ℕ) {ph p tm : ℕ} → Nudged g h ph p tm → lock_from h ≡ lock_from g → lock_to h ≡ lock_to g → (x : ℕ) → locks h x ≡ locks g x
  same-locks h n el et = locks-same g h el et (λ i _. nudged_at n (write_item_at i) (omega arith))

  same-locks-checking : (h : List ℕ) {ph p tm : ℕ} → Nudged g h ph p tm → lock_from h ≡ 0 → phase g ≡ 3 → 3 ≤ phase h → (x : ℕ) → locks h x ≡ locks g x
  same-locks-checking h n from e late =
      same-locks h n (from ∙ sym (from_zero g (omega arith))) (to_late h late ∙ nudged_writes n ∙ sym (to_late g (omega arith)))

  -- by words whose locks are the same
  follows_same : (words h : List ℕ) → ((x : ℕ) → x < length t.words → lock_count words x ≡ lock_count t.words x) → ((x : ℕ) → locks h x ≡ locks g x) →
      Follows t.words words g h
  follows_same words h eb same x l le = let a = eb x l in let b : one (locks h x) ≡ one (locks g x) = ap one (same x) in omega arith

  not_four : (h : List ℕ) → phase g ≢ 4 → phase h ≢ 4 → eqb (phase h) 4 ≡ eqb (phase g) 4
  not_four h a b = ne_eqb _ _ b ∙ sym (ne_eqb _ _ a)

  none_left : (h : List ℕ) → phase g ≢ 4 → phase h ≢ 4 →
      cond (eqb (phase h) 4) (writes h - position h) 0 ≡ cond (eqb (phase g) 4) (writes g - position g) 0
  none_left h a b = left-none h b ∙ sym (left-none g a)

  -- PHASES 1 AND 2
  take_lock : phase g ≤ 2 → position g < writes g → (x word : ℕ) → x ≡ write_item g (position g) → word ≡ get_or t.words x 0 → is_locked word ≡ false →
      Step t s on_advance (answered (Locked x) (with_seats (with_words t (set t.words x (with_lock true word))) (moved t.seats s 2 (position g + 1))))
  unfolding locks on_advance
  take_lock p b x word ex ew free =
      let q : ℕ = position g + 1 in
      let h : List ℕ = moved_row g 2 (position g + 1) in
      let n = nudge_position (nudge_phase whole 2) q in
      let m = nudged_head n in
      let hd = u.head in
      let hu = hd.used in
      let ho = hd.owner_in in
      let h5 = hd.untimed p in
      let ht = hd.timely in
      let inside : x < length t.words = rw ex (u.entries.write_in_lem (position g) b) in
      let lg = from_zero g (omega arith) in
      let tg = to_early g p in
      let lh = from_zero h (omega arith) in
      let th = to_early h (omega arith) in
      let ent : (i : ℕ) → write_item h i ≡ write_item g i = (λ i. nudged_at n (write_item_at i) (omega arith)) in
      let pg = steps_early g p in
      let ph = steps_early h (omega arith) in
      let now = with_lock_is true word in
      let taken : locks h x ≡ true =
      named_yes (write_item h) (lock_from h) (lock_to h) x (position g)
      (record { from = omega arith; below = omega arith; named = ent (position g) ∙ sym ex }) in
      let others : (z : ℕ) → x ≢ z → locks h z ≡ locks g z =
      (λ z d. named-same (write_item g) (write_item h) (lock_from g) (lock_to g) (lock_from h) (lock_to h) z
      (λ i r. let a = r.below in record { from = omega arith; below = omega arith; named = ent i ∙ r.named })
      (λ i r. let a = r.below in
      let nm : write_item g i ≡ z = sym (ent i) ∙ r.named in
      let j : i ≢ position g = (λ k. d (ex ∙ ap (λ (i : ℕ). write_item g i) (sym k) ∙ nm)) in
      record { from = omega arith; below = omega arith; named = nm })) in
      let more : (z : ℕ) → locks h z ≡ (locks g z || eqb x z) =
      (λ z. by (eqb x z)
      (λ e. rw e (ap (locks h) (sym (eqb-true x z e)) ∙ taken ∙ sym (or_true (locks g z))))
      (λ e. rw e (others z (eqb-false x z e) ∙ sym (or_false (locks g z))))) in
      nudge_step t.values (set t.words x (with_lock true word)) (moved t.seats s 2 q) h (Locked x) (becomes_moved t.seats s 2 q) n refl
      (length-set t.words x (with_lock true word))
      (omega arith)
      (λ k. absurd (omega arith))
      (λ z l le. set_ind (λ v. one (is_locked v) + one (locks g z) ≡ lock_count t.words z + one (locks h z)) t.words x (with_lock true word) z inside
      (λ e. let b0 : lock_count t.words z ≡ 0 = ap one (ap (λ (j : ℕ). is_locked (get_or t.words j 0)) (sym e) ∙ ap is_locked (sym ew) ∙ free) in
      let b1 : one (is_locked (with_lock true word)) ≡ 1 = ap one now.is_locked in
      let b2 : one (locks h z) ≡ 1 = ap one (ap (locks h) (sym e) ∙ taken) in
      omega arith)
      (λ d. let b2 : one (locks h z) ≡ one (locks g z) = ap one (others z d) in omega arith))
      (λ z l le. set_ind (λ v. read_time v ≤ top) t.words x (with_lock true word) z inside
      (λ e. rw (now.is_read, ew, e) le) (λ d. le))
      (tells_more (Locked x) _ _ (time g) _ n (says_locked (omega arith) refl) (omega arith) (not_four h (omega arith) (omega arith)) more refl
      (none_left h (omega arith) (omega arith)) refl)

  lock_ok : phase g ≤ 2 → position g < writes g → Step t s on_advance (lock_step t s)
  unfolding lock_step
  lock_ok p b =
      by (is_locked (get_or t.words (write_item g (position g)) 0))
      (λ e. rw e (lets_go t s on_advance size small u (Aborted word_locked) (aborts word_locked) (omega arith)))
      (λ e. rw e (take_lock p b (write_item g (position g)) _ refl refl e))

  timed_ok : phase g ≤ 2 → position g ≡ writes g → (due : ℕ) → ((i : ℕ) → i < reads g → kept_write g i ≤ due) → due ≤ top →
      Step t s on_advance (answered (Timed due) (with_seats t (put (moved t.seats s 3 0) s time_at due)))
  unfolding on_advance
  timed_ok p e due kept late =
      let h : List ℕ = set (moved_row g 3 0) time_at due in
      let n = nudge_time (nudge_position (nudge_phase whole 3) 0) due in
      let m = nudged_head n in
      let ho = u.head.owner_in in
      let hu = u.head.used in
      let pg = steps_early g p in
      let ph = steps_three h n.is_phase in
      let from = from_zero h (omega arith) ∙ sym (from_zero g (omega arith)) in
      let same = same-locks h n from (to_late h (omega arith) ∙ nudged_writes n ∙ sym e ∙ sym (to_early g p)) in
      nudge_step t.values t.words (put (moved t.seats s 3 0) s time_at due) h (Timed due)
      (then-put time_at due (omega arith) (becomes_moved t.seats s 3 0)) n refl refl
      (omega arith)
      (λ q. kept)
      (follows_same t.words h (λ x l. refl) same)
      (λ x l le. le)
      (tells_more (Timed due) _ _ due _ n (says_timed (omega arith) refl) (omega arith) (not_four h (omega arith) (omega arith)) same refl
      (none_left h (omega arith) (omega arith)) refl)

  time_ok : phase g ≤ 2 → writes g ≤ position g → Step t s on_advance (time_step t s)
  unfolding time_step
  time_ok p b =
      let due : ℕ = commit_time t.words g in
      let e : position g ≡ writes g = (let q = early_fits g u.head p in omega arith) in
      by (ltb top due)
      (λ k. rw k (lets_go t s on_advance size small u (Aborted time_run_out) (aborts time_run_out) (omega arith)))
      (λ k. rw k (timed_ok p e due (commit_kept t.words g) (ltb-false top due k)))

  -- PHASE 3
  pass_ok : phase g ≡ 3 → position g < reads g → (words : List ℕ) → length words ≡ length t.words →
      ((x : ℕ) → x < length t.words → lock_count words x ≡ lock_count t.words x) → StaysTimely t.words words → Step t s on_advance (passed t s words)
  unfolding passed passed_to on_advance
  pass_ok p b words ew eb et =
      let q : ℕ = position g + 1 in
      let h : List ℕ = set g position_at (position g + 1) in
      let n = nudge_position whole q in
      let m = nudged_head n in
      let ho = u.head.owner_in in
      let ht = u.head.timely in
      let pg = steps_three g p in
      let ph = steps_three h (omega arith) in
      let same = same-locks-checking h n (from_zero h (omega arith)) p (omega arith) in
      nudge_step t.values words (put t.seats s position_at q) h (Checked (check_item g)) (becomes_put t.seats s position_at q (omega arith)) n refl ew
      (omega arith)
      u.not_below
      (follows_same words h eb same)
      et
      (tells_more (Checked (check_item g)) _ _ (time g) _ n (says_checked (position g) b (omega arith) refl) (omega arith)
      (not_four h (omega arith) (omega arith)) same refl
      (none_left h (omega arith) (omega arith)) refl)

  ruled_ok : phase g ≡ 3 → position g < reads g → (v : Verdict) → judged t s ≡ v → Step t s on_advance (ruled t s v)
  unfolding ruled judged stretched
  ruled_ok p b Passes e = pass_ok p b t.words refl (λ x h. refl) (λ x h le. le)
  ruled_ok p b Extends e =
      let x : ℕ = check_item g in
      let word : ℕ = get_or t.words x 0 in
      let kept : write_time word ≡ kept_write g (position g) = extends_kept _ _ _ word _ e in
      let from : kept_write g (position g) ≤ time g = u.not_below (omega arith) (position g) b in
      let inside : x < length t.words = u.entries.read_in_lem (position g) b in
      let now = extended_is word (time g) (omega arith) u.head.timely in
      pass_ok p b (set t.words x (extended word (time g))) (length-set t.words x (extended word (time g)))
      (λ z l. set_ind (λ v. one (is_locked v) ≡ lock_count t.words z) t.words x (extended word (time g)) z inside
      (λ q. ap one (now.is_locked ∙ ap (λ (j : ℕ). is_locked (get_or t.words j 0)) q)) (λ d. refl))
      (λ z l le. set_ind (λ v. read_time v ≤ top) t.words x (extended word (time g)) z inside
      (λ q. rw now.is_read u.head.timely) (λ d. le))
  ruled_ok p b (Fails why) e = let n = abort_number why in lets_go t s on_advance size small u (Aborted n) (aborts n) (omega arith)

  seal_ok : phase g ≡ 3 → reads g ≤ position g → Step t s on_advance (seal_step t s)
  unfolding seal_step on_advance
  seal_ok p b =
      let h : List ℕ = moved_row g 4 0 in
      let n = nudge_position (nudge_phase whole 4) 0 in
      let m = nudged_head n in
      let ho = u.head.owner_in in
      let hc = u.head.checking p in
      let ht = u.head.timely in
      let pg = steps_three g p in
      let ph = steps_four h n.is_phase in
      let same = same-locks-checking h n (from_four h n.is_phase ∙ n.is_position) p (omega arith) in
      let all_left : writes h - position h ≡ length (write_entries g) = (let e = length-seg (write_at g) (writes g) 0 in omega arith) in
      nudge_step t.values t.words (moved t.seats s 4 0) h (Sealed (time g)) (becomes_moved t.seats s 4 0) n refl refl
      (omega arith)
      (λ q. u.not_below (omega arith))
      (follows_same t.words h (λ x l. refl) same)
      (λ x l le. le)
      (tells_more (Sealed (time g)) true _ (time g) _ n (says_sealed (omega arith) refl) (omega arith) (eq-eqb (phase h) 4 n.is_phase) same refl
      (left_four h n.is_phase ∙ all_left) refl)

  -- PHASE 4
  store_ok : phase g ≡ 4 → position g < writes g → Step t s on_advance (store_step t s)
  unfolding store_step locks on_advance
  store_ok p b =
      let x : ℕ = write_item g (position g) in
      let v : ℕ = effect (write_value g (position g)) (get_or t.values x 0) in
      let f : ℕ = fresh (time g) in
      let q : ℕ = position g + 1 in
      let h : List ℕ = set g position_at (position g + 1) in
      let n = nudge_position whole q in
      let m = nudged_head n in
      let ho = u.head.owner_in in
      let ht = u.head.timely in
      let pg = steps_four g p in
      let ph = steps_four h (omega arith) in
      let inside : x < length t.words = u.entries.write_in_lem (position g) b in
      let lg = from_four g p in
      let tg = to_late g (omega arith) in
      let lh = from_four h (omega arith) in
      let th = to_late h (omega arith) in
      let ent : (i : ℕ) → write_item h i ≡ write_item g i = (λ i. nudged_at n (write_item_at i) (omega arith)) in
      let now = fresh_is (time g) ht in
      let given : locks h x ≡ false =
      named_no (write_item h) (lock_from h) (lock_to h) x (λ i r.
      let a = r.from in let k = r.below in
      let up = u.entries.ascending (position g) i (omega arith) (omega arith) in
      let nm : write_item g i ≡ x = sym (ent i) ∙ r.named in
      omega arith) in
      let others : (z : ℕ) → x ≢ z → locks h z ≡ locks g z =
      (λ z d. named-same (write_item g) (write_item h) (lock_from g) (lock_to g) (lock_from h) (lock_to h) z
      (λ i r. let a = r.from in let k = r.below in
      let j : i ≢ position g = (λ k. d (ap (λ (i : ℕ). write_item g i) (sym k) ∙ r.named)) in
      record { from = omega arith; below = omega arith; named = ent i ∙ r.named })
      (λ i r. let a = r.from in let k = r.below in record { from = omega arith; below = omega arith; named = sym (ent i) ∙ r.named })) in
      let one_less : writes h - position h ≡ cond (eqb (phase g) 4) (writes g - position g) 0 - 1 = (let e = left_four g p in omega arith) in
      let less : (z : ℕ) → locks h z ≡ (locks g z && not (eqb x z)) =
      (λ z. by (eqb x z)
      (λ e. rw e (ap (locks h) (sym (eqb-true x z e)) ∙ given ∙ sym (and-false (locks g z))))
      (λ e. rw e (others z (eqb-false x z e) ∙ sym (and-true (locks g z))))) in
      nudge_step (set t.values x v) (set t.words x f) (put t.seats s position_at q) h (Stored x)
      (becomes_put t.seats s position_at q (omega arith)) n (length-set t.values x v) (length-set t.words x f)
      (omega arith)
      u.not_below
      (λ z l le. set_ind (λ v. one (is_locked v) + one (locks g z) ≡ lock_count t.words z + one (locks h z)) t.words x f z inside
      (λ e. let held : locks g z ≡ true =
      named_yes (write_item g) (lock_from g) (lock_to g) z (position g) (record { from = omega arith; below = omega arith; named = e }) in
      let b0 : one (locks g z) ≡ 1 = ap one held in
      let b1 : one (is_locked f) ≡ 0 = ap one now.is_locked in
      let b2 : one (locks h z) ≡ 0 = ap one (ap (locks h) (sym e) ∙ given) in
      let b3 = one_le (is_locked (get_or t.words z 0)) in
      omega arith)
      (λ d. let b2 : one (locks h z) ≡ one (locks g z) = ap one (others z d) in omega arith))
      (λ z l le. set_ind (λ v. read_time v ≤ top) t.words x f z inside (λ e. rw now.is_read ht) (λ d. le))
      (tells_more (Stored x) _ _ (time g) _ n (says_stored (position g) b (omega arith) refl) (omega arith) (ap (λ (k : ℕ). eqb k 4) n.is_phase) less refl
      (left_four h (omega arith) ∙ one_less) refl)

  done_ok : phase g ≡ 4 → writes g ≤ position g → Step t s on_advance (done_step t s)
  unfolding done_step
  done_ok p b =
      let none : (x : ℕ) → locks g x ≡ false = (λ x. locks-none g x (let a = from_four g p in let k = to_late g (omega arith) in omega arith)) in
      free_step t s on_advance size small u t.words (Done (time g)) (dones (time g)) refl (λ x h q. absurd (true≢false (sym q ∙ none x))) (λ x h q. refl)

  pub advance_ok : Step t s on_advance (advance_in t s)
  unfolding advance_in lock_phase check_phase check_step store_phase
  advance_ok =
      let hu = u.head.used in
      let hp = u.head.phase_in in
      let early : phase g ≤ 2 → Step t s on_advance (lock_phase t s) =
      (λ p. by (ltb (position g) (writes g)) (λ e. rw e (lock_ok p (ltb-true _ _ e))) (λ e. rw e (time_ok p (ltb-false _ _ e)))) in
      by (eqb (phase g) 1) (λ e1. rw e1 (early (let q = eqb-true (phase g) 1 e1 in omega arith)))
      (λ e1. rw e1 (by (eqb (phase g) 2) (λ e2. rw e2 (early (let q = eqb-true (phase g) 2 e2 in omega arith)))
      (λ e2. rw e2 (by (eqb (phase g) 3)
      (λ e3. let p = eqb-true (phase g) 3 e3 in
      rw e3 (by (ltb (position g) (reads g)) (λ e. rw e (ruled_ok p (ltb-true _ _ e) (judged t s) refl)) (λ e. rw e (seal_ok p (ltb-false _ _ e)))))
      (λ e3. rw e3 (
      let d1 : phase g ≢ 1 = eqb-false _ _ e1 in
      let d2 : phase g ≢ 2 = eqb-false _ _ e2 in
      let d3 : phase g ≢ 3 = eqb-false _ _ e3 in
      let p : phase g ≡ 4 = omega arith in
      rw (eq-eqb (phase g) 4 p) (by (ltb (position g) (writes g)) (λ e. rw e (store_ok p (ltb-true _ _ e))) (λ e. rw e (done_ok p (ltb-false _ _ e))))))))))

-- Advance in phases 1 and 2: a lock, or the time.
use Prim.Native.Nat.{ℕ, ◌+◌, ◌≤◌, ◌<◌}
use mathlib.Core.Path.{◌≡◌, refl, sym, ◌∙◌}
use mathlib.Core.Bool.{true, false, true≢false}
use mathlib.Core.Option.{some}
use mathlib.Core.List.{List, [], ◌∷◌, ◌++◌, Memᴰ as In}
use native.Mathlib.Omega.{arith}
use borrow.Author.Tests.{ltb-true, ltb-false}
use lib.Dec.{ltb}
use lib.ListN.{length, get_or, set, length-set}
use Rattle.clock.specs.Word.{top, is_locked, with_lock}
use Rattle.clock.proofs.Laws.{write≤read}
use Rattle.rules.specs.Layout.{time_at, row, put, phase, position, reads, writes, write_item}
use Rattle.rules.specs.Tables.{Tables, tables}
use Rattle.rules.specs.Advance.{moved, commit_time, lock_step, time_step, lock_phase}
use Rattle.rules.specs.Numbers.{word_locked, time_run_out}
use Rattle.rules.specs.Calls.{Advance}
use Rattle.rules.specs.declared.Answer.TheVariants.{Locked, Timed}
use Rattle.rows.specs.Fine.{cond_ind, write_item_lem, position_low, Fine, fine-row}
use Rattle.rows.specs.Changed.{moved_row, not_nudged, nudge_phase, nudge_position, nudge_time}
use Rattle.rows.specs.Becomes.{then-put, becomes_moved}
use Rattle.rules.proofs.CommitTime.{commit_kept, commit_above}
use Rattle.observer.specs.Observer.{WriteEntry, Observer, on_advance, changed, seeing, observe}
use Rattle.observer.proofs.Entries.{write_at, write_entries}
use Rattle.serial.specs.Statement.{Values}
use Rattle.serial.proofs.Protocol.{Stamp, ReadEntry, working, checking, Fits, Below}
use Rattle.serial.proofs.Versions.{with_holder}
use Rattle.serial.proofs.Steps.{reseat, reversion, locks_inv, times_inv}
use Rattle.observer.proofs.Segments.{seg, seg_more, seg_whole, seg_in}
use Rattle.serial.proofs.View.{entry_at, read_entries, seat_of, view_early, nudged_view}
use Rattle.serial.proofs.Agree.{WordShows, Mirrored, StaysMirrored, words_show_set, seen_nudged, agree_seeing}
use Rattle.serial.proofs.Release.{lock_shows, abort_stays}

module _ (opening : Values) (t : Tables) (b : Observer) (now : Mirrored opening t b) (o s last : ℕ) (fi : Fine t o s last)
    (phase12 : phase (row t.seats s) ≤ 2) where
  abbrev g : List ℕ
  g = row t.seats s

  low : position g ≤ writes g
  low = position_low g (length t.words) fi.sound fi.used phase12

  is_working : now.σ.seat s ≡ working (read_entries g) (seg (write_at g) 0 (position g))
  is_working = now.agree.rows s ∙ view_early (b.seats s).key g fi.used phase12

  known : (i : ℕ) → i < writes g → write_item g i < length t.words
  known i l = write_item_lem g (length t.words) fi.sound i l

  -- THE LOCK of the write entry at position
  abbrev item : ℕ
  item = write_item g (position g)

  lock_mirrored : position g < writes g → is_locked (get_or t.words item 0) ≡ false →
      Mirrored opening (tables t.values (set t.words item (with_lock true (get_or t.words item 0))) (moved t.seats s 2 (position g + 1)))
      (seeing b s (on_advance (b.seats s) (Locked item)))
  unfolding seat_of on_advance
  lock_mirrored l u =
      let p = position g in
      let w = write_at g p in
      let word = get_or t.words w.item 0 in
      let x = on_advance (b.seats s) (Locked w.item) in
      let y = with_holder (some s) (now.σ.version w.item) in
      let m : WordShows (now.σ.version w.item) (get_or t.values w.item 0) word = now.agree.shown w.item (known p l) in
      let n = nudge_position (nudge_phase (not_nudged g (fine-row fi)) 2) (p + 1) in
      record {
        σ = reseat (reversion now.σ w.item y) s (working (read_entries g) (seg (write_at g) 0 p ++ (w ∷ [])));
        inv = locks_inv opening now.σ now.inv s (read_entries g) (seg (write_at g) 0 p) w is_working (m.idle u);
        agree =
            agree_seeing now.agree (tables t.values (set t.words w.item (with_lock true word)) (moved t.seats s 2 (p + 1)))
            (changed w.item y now.σ.version) s _ (moved_row g 2 (p + 1))
            refl (length-set t.words w.item (with_lock true word))
            (words_show_set now.σ.version t.values t.words t.values w.item (with_lock true word) y now.agree.shown (λ j d. refl) (known p l)
            (lock_shows (some s) true (now.σ.version w.item) (get_or t.values w.item 0) word m (λ q. absurd (true≢false q))))
            (becomes_moved t.seats s 2 (p + 1)) x
            ((λ i. working (read_entries g) (sym (seg_more (write_at g) p) i)) ∙ sym (nudged_view n (b.seats s).key))
            (λ _. seen_nudged n (b.seats s) x (now.agree.seen s fi.used) refl refl (λ q. absurd (omega arith)));
      }

  -- THE TIME, all locks held
  module _ (all : position g ≡ writes g) where
    abbrev due : ℕ
    due = commit_time t.words g

    abbrev stamp : Stamp
    stamp = record { key = due; time = due }

    fits : (e : ReadEntry) → In e (read_entries g) → Fits (now.σ.version e.told.item) stamp e
    fits e i =
        let z = seg_in (entry_at g) (reads g) 0 e i in
        let c = commit_kept t.words g z.0 (omega (arith, z.2)) in
        let kept : e.kept_write ≤ due = rw z.3 c in
        record { current = λ q. omega (arith, (now.inv.versions e.told.item).wrote_low); not_early = kept }

    below : (w : WriteEntry) → In w (write_entries g) → Below (now.σ.version w.item) stamp
    below w i =
        let z = seg_in (write_at g) (writes g) 0 w i in
        let j : z.0 < writes g = omega (arith, z.2) in
        let c = commit_above t.words g z.0 j in
        let at = write_item g z.0 in
        let m : WordShows (now.σ.version at) (get_or t.values at 0) (get_or t.words at 0) = now.agree.shown at (known z.0 j) in
        let e = write≤read (get_or t.words (write_item g z.0) 0) in
        rw z.3 (record { key = omega (arith, m.is_up_to); time = omega (arith, m.is_wrote) })

    time_mirrored :
        Mirrored opening (tables t.values t.words (put (moved t.seats s 3 0) s time_at due)) (seeing b s (on_advance (b.seats s) (Timed due)))
    unfolding seat_of seg on_advance
    time_mirrored =
        let x = on_advance (b.seats s) (Timed due) in
        let n = nudge_time (nudge_position (nudge_phase (not_nudged g (fine-row fi)) 3) 0) due in
        record {
          σ = reseat now.σ s (checking stamp [] (read_entries g) (write_entries g));
          inv = times_inv opening now.σ now.inv s stamp (read_entries g) (write_entries g) (is_working ∙ rw all) refl fits below;
          agree =
              agree_seeing now.agree (tables t.values t.words (put (moved t.seats s 3 0) s time_at due)) now.σ.version s _
              (set (moved_row g 3 0) time_at due) refl refl now.agree.shown
              (then-put time_at due (omega arith) (becomes_moved t.seats s 3 0)) x
              ((λ i. checking stamp [] (sym (seg_whole (entry_at g) (reads g)) i) (write_entries g)) ∙ sym (nudged_view n due))
              (λ _. seen_nudged n (b.seats s) x (now.agree.seen s fi.used) refl refl (λ q. absurd (omega arith)));
        }

  pub lock_stays : StaysMirrored opening b (Advance o s) (lock_phase t s)
  unfolding lock_phase lock_step time_step observe on_advance
  lock_stays =
      cond_ind (StaysMirrored opening b (Advance o s)) (ltb (position g) (writes g))
      (λ l. cond_ind (StaysMirrored opening b (Advance o s)) (is_locked (get_or t.words item 0))
      (λ _. abort_stays opening t b now o s last fi word_locked (omega arith)) (λ u. lock_mirrored (ltb-true _ _ l) u))
      (λ l. cond_ind (StaysMirrored opening b (Advance o s)) (ltb top (commit_time t.words g))
      (λ _. abort_stays opening t b now o s last fi time_run_out (omega arith)) (λ _. time_mirrored (omega (arith, low, ltb-false (position g) (writes g) l))))

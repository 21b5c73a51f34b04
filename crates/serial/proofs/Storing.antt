-- Advance in phase 4: a store, or done.
use Prim.Native.Nat.{ℕ, ◌+◌, ◌-◌, ◌≤◌, ◌<◌}
use mathlib.Core.Path.{◌≡◌, refl, sym, ap, ◌∙◌}
use mathlib.Core.List.{List}
use native.Mathlib.Omega.{arith}
use borrow.Author.Tests.{ltb-true, ltb-false}
use lib.Dec.{ltb}
use lib.ListN.{length, get_or, set, length-set}
use lib.Seq.{get_or-set_same, get_or-set_other}
use Rattle.clock.specs.Word.{fresh}
use Rattle.clock.proofs.Laws.{fresh_is}
use Rattle.rules.specs.Layout.{position_at, row, put, phase, position, writes, time, write_item, write_value}
use Rattle.rules.specs.Tables.{Tables, tables}
use Rattle.rules.specs.Plan.{freed}
use Rattle.rules.specs.Advance.{effect, store_step, done_step, store_phase}
use Rattle.rules.specs.Calls.{Advance}
use Rattle.rules.specs.declared.Answer.TheVariants.{Stored}
use Rattle.rows.specs.Fine.{cond_ind, write_item_lem, time-top, Fine, fine-row}
use Rattle.rows.specs.Changed.{free_row, Nudged, not_nudged, nudge_position}
use Rattle.rows.specs.Becomes.{becomes_put, becomes_freed}
use Rattle.observer.specs.Observer.{Observer, unseen, on_advance, changed, seeing, observe}
use Rattle.observer.proofs.Entries.{write_at}
use Rattle.serial.specs.Statement.{Values, applied}
use Rattle.serial.proofs.Protocol.{Stamp, free, storing}
use Rattle.serial.proofs.Versions.{overwritten}
use Rattle.serial.proofs.Steps.{reseat, reversion, stores_inv, finishes_inv}
use Rattle.observer.proofs.Segments.{seg, seg-next, seg_end}
use Rattle.serial.proofs.View.{seat_of, view-storing, nudged_view}
use Rattle.serial.proofs.Agree.{WordShows, SeenOk, Mirrored, stamp_at, StaysMirrored, words_show_set, seen_nudged, agree_seeing}

module _ (opening : Values) (t : Tables) (b : Observer) (now : Mirrored opening t b) (o s last : ℕ) (fi : Fine t o s last)
    (four : phase (row t.seats s) ≡ 4) where
  abbrev g : List ℕ
  g = row t.seats s

  seen_ok : SeenOk g (b.seats s)
  seen_ok = now.agree.seen s fi.used

  abbrev stamp : Stamp
  stamp = stamp_at t b s

  is_storing : now.σ.seat s ≡ storing stamp (seg (write_at g) (position g) (writes g - position g))
  is_storing = now.agree.rows s ∙ view-storing (b.seats s).key g four

  keyed : (b.seats s).key ≡ time g
  keyed = rw is_storing at (now.inv.by-time.seats s)

  -- THE STORE of the write entry at position
  module _ (l : position g < writes g) where
    abbrev item : ℕ
    item = write_item g (position g)

    in_words : write_item g (position g) < length t.words
    in_words = write_item_lem g (length t.words) fi.sound (position g) l

    abbrev v : ℕ
    v = effect (write_value g (position g)) (get_or t.values (write_item g (position g)) 0)

    abbrev stored_tables : Tables
    stored_tables = tables (set t.values item v) (set t.words item (fresh (time g))) (put t.seats s position_at (position g + 1))

    store_mirrored : Mirrored opening stored_tables (seeing b s (on_advance (b.seats s) (Stored item)))
    unfolding seat_of on_advance
    store_mirrored =
        let p = position g in
        let w = write_at g p in
        let x = on_advance (b.seats s) (Stored item) in
        let y = overwritten stamp w (now.σ.version item) in
        let rest = seg (write_at g) (p + 1) (writes g - (p + 1)) in
        let n : Nudged g (set g position_at (p + 1)) 4 (p + 1) (time g) = rw four at (nudge_position (not_nudged g (fine-row fi)) (p + 1)) in
        let is = fresh_is (time g) (time-top g (length t.words) fi.sound (omega arith)) in
        let inside = in_words in
        let m : WordShows (now.σ.version item) (get_or t.values item 0) (get_or t.words item 0) = now.agree.shown item inside in
        let same = fi.sized.same in
        record {
          σ = reseat (reversion now.σ item y) s (storing stamp rest);
          inv = stores_inv opening now.σ now.inv s stamp rest w (is_storing ∙ rw (seg-next (write_at g) p (writes g) l));
          agree =
              agree_seeing now.agree stored_tables (changed item y now.σ.version) s (storing stamp rest) (set g position_at (p + 1))
              (length-set t.values item v) (length-set t.words item (fresh (time g)))
              (words_show_set now.σ.version t.values t.words (set t.values item v) item (fresh (time g)) y now.agree.shown
              (λ j d. get_or-set_other t.values item j v 0 d) inside
              (record {
                is_value = ap (applied w) m.is_value ∙ sym (get_or-set_same t.values item v 0 (omega arith));
                is_wrote = sym is.is_written;
                is_up_to = keyed ∙ sym is.is_read;
                idle = λ _. refl;
              }))
              (becomes_put t.seats s position_at (p + 1) (omega arith)) x (sym (nudged_view n (b.seats s).key))
              (λ _. seen_nudged n (b.seats s) x seen_ok refl refl (λ _. omega (arith, seen_ok.is_left four)));
        }

  -- DONE, all stored
  done_mirrored : writes g ≤ position g → Mirrored opening (tables t.values t.words (freed t.seats s)) (seeing b s unseen)
  unfolding seat_of
  done_mirrored l =
      record {
        σ = reseat now.σ s free;
        inv = finishes_inv opening now.σ now.inv s stamp (is_storing ∙ rw (seg_end (write_at g) (position g) (writes g) l));
        agree = agree_seeing now.agree (tables t.values t.words (freed t.seats s)) now.σ.version s free free_row refl refl
            now.agree.shown (becomes_freed t.seats s (fine-row fi)) unseen refl (λ d. absurd (d refl));
      }

  pub store_phase-stays : StaysMirrored opening b (Advance o s) (store_phase t s)
  unfolding store_phase store_step done_step observe on_advance
  store_phase-stays =
      cond_ind (StaysMirrored opening b (Advance o s)) (ltb (position g) (writes g)) (λ l. store_mirrored (ltb-true _ _ l))
      (λ l. done_mirrored (ltb-false _ _ l))
